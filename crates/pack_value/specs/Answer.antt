-- What decoding answers.
use Rattle.std.specs.Prelude.{◌≡◌, ℕ, ◌+◌, ◌≤◌, List, length, take}
use Rattle.wire_base.specs.Tree.{Tree}
use Rattle.wire_base.specs.declared.reason.Reason.{Reason}
pub use Rattle.wire_base.specs.Front.{Front, Whole, Short, Broken}
use Rattle.wire_base.specs.Front.{front_of}
use Rattle.pack_value.specs.declared.step.Step.{Step}
use Rattle.pack_value.specs.declared.step.Step.TheVariants as step
use Rattle.wire_base.specs.Values.{max_nesting}
use Rattle.pack_value.specs.Spelling.{IsSpelling}
use Rattle.pack_value.specs.Tokens.{IsRefused}
use Rattle.pack_value.specs.Reading.{value_at}

-- What stands at the front of these bytes.
unfoldable pub front : List ℕ → Front Tree
front bytes = front_of (length bytes) (value_at max_nesting bytes)

-- The answer that says what stands at the front of bytes that begin at this place of a stream.
abbrev pub step_of : ℕ → Front Tree → Step
step_of at (Whole t n) = step.Got t n
step_of at Short = step.Short
step_of at (Broken k r) = step.Refused (record { 0 = at + k }) r

-- The answer is the second one, unless memory ran out.
abbrev pub Answers : Step → Step → Type 0
Answers step.OutOfMemory wanted = Unit {0}
Answers answer wanted = answer ≡ wanted

abbrev pub IfGot : Step → (Tree → ℕ → Type 0) → Type 0
IfGot (step.Got t n) P = P t n
IfGot answer P = Unit {0}

abbrev pub IfRefused : Step → (ℕ → Reason → Type 0) → Type 0
IfRefused (step.Refused p r) P = P p.0 r
IfRefused answer P = Unit {0}

abbrev pub IfShort : Step → Type 0 → Type 0
IfShort step.Short P = P
IfShort answer P = Unit {0}

-- The first n bytes spell this value.
abbrev pub IsAtFront : List ℕ → Tree → ℕ → Type 0
IsAtFront bytes t n = (n ≤ length bytes) × IsSpelling t (take n bytes)

-- No first bytes spell a value, and no token is refused.
abbrev pub IsUndecided : List ℕ → Type 0
IsUndecided bytes = ((t : Tree) (n : ℕ) → IsAtFront bytes t n → ⊥) × ((k : ℕ) (r : Reason) → IsRefused bytes k r → ⊥)
