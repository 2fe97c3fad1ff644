-- What a test answers.
use Rattle.std.specs.Prelude.{◌≡◌, Option, Some, None, Result, Ok, Err}
use Rattle.wire_base.specs.declared.refusal.Refusal.{Refusal}

-- a test is passed where nothing is refused, and else answers why
abbrev pub Checks : {A : Type 0} → Option Refusal → Result A Refusal → Type 0
Checks refused (Ok done) = refused ≡ None
Checks refused (Err r) = refused ≡ Some r
