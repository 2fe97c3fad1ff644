-- What may be there or not.
use Rattle.std.specs.Prelude.{Option, Some, None}

-- the first, or where there is none the second
abbrev pub or_else : {A : Type 0} → Option A → Option A → Option A
or_else (Some x) second = Some x
or_else None second = second
