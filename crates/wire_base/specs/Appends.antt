-- What an append leaves that memory may cut off.
use Rattle.std.specs.Prelude.{◌≡◌, List, ℕ, ◌++◌}

-- behind the old bytes stands the text without its rest
pub record AppendsTo (rest old new text : List ℕ) : Type 0 where
  pub front : List ℕ
  pub text_is : text ≡ front ++ rest
  pub new_is : new ≡ old ++ front

-- behind the old bytes stands a front of the text, which may be none of it or all
pub record AppendsFront (old new text : List ℕ) : Type 0 where
  pub rest : List ℕ
  pub appended : AppendsTo rest old new text
