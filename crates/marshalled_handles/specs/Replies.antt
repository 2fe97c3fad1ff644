-- What is told of a handle, by whether it has ended.
use Rattle.std.specs.Prelude.{Bool, true, false, if◌then◌else◌, Option, Some, None}
use Rattle.wire_base.specs.declared.refusal.Refusal.{Refusal}
use Rattle.wire_base.specs.declared.refusal.Refusal.TheVariants as refusal

-- whether a handle has ended, where it is known
abbrev pub seen : (known ended : Bool) → Option Bool
seen known ended = if known then Some ended else None

-- why a handle can't be called or released, by whether it has ended
abbrev pub seen_refusal : Option Bool → Option Refusal
seen_refusal (Some ended) = if ended then Some refusal.Released else None
seen_refusal None = Some refusal.NoHandle

-- whether a handle lives, by whether it has ended
abbrev pub seen_living : Option Bool → Bool
seen_living (Some true) = false
seen_living (Some false) = true
seen_living None = false
