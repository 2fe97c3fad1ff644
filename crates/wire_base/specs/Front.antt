-- What stands at the front of some bytes.
use Rattle.std.specs.Prelude.{ℕ, ◌-◌, length, Ok, Err}
use Rattle.wire_base.specs.declared.reason.Reason.{Reason}
use Rattle.wire_base.specs.declared.reading.Fault.TheVariants.{Ends, Breaks}
use Rattle.wire_base.specs.Tokens.{Reading}

-- something whole and its length, too few bytes to tell, or a token that breaks a rule, by its offset
pub data Front (A : Type 0) : Type 0 where
  Whole : (value : A) → (size : ℕ) → Front A
  Short : Front A
  Broken : (offset : ℕ) → (reason : Reason) → Front A

-- a reading of so many bytes, by offsets from their first
abbrev pub front_of : {A : Type 0} → (total : ℕ) → Reading A → Front A
front_of total (Ok x) = Whole x.0 (total - length x.1)
front_of total (Err Ends) = Short
front_of total (Err (Breaks left reason)) = Broken (total - left) reason
