-- What always holds of a reader's fields.
use Rattle.std.specs.Prelude.{ℕ, ◌+◌, ◌≤◌, List, length}
use Rattle.wire_base.specs.declared.limits.TheConstants.{MAX_FED}

-- so many of these bytes were given, the next byte stands at a place, and no number is out of range
pub record Holds (bytes : List ℕ) (given at fed : ℕ) : Type 0 where
  pub given_within : given ≤ length bytes
  pub fed_most : fed ≤ MAX_FED
  pub bytes_most : length bytes ≤ fed
  pub at_most : at + length bytes ≤ fed + given
