-- What may stand in a value of the code.
use Rattle.std.specs.Prelude.{IsUtf8}
use Rattle.wire_base.specs.Tree.{Tree, nil, flag, whole, words, bytes, items, pairs, Trees, no_items, item, Pairs, no_pairs, pair}
use Rattle.wire_base.specs.Whole.{IsWhole}

-- Numbers are in their range, and texts are UTF-8.
abbrev mutual
  pub IsValue : Tree → Type 0
  IsValue nil = Unit {0}
  IsValue (flag b) = Unit {0}
  IsValue (whole z) = IsWhole z
  IsValue (words s) = IsUtf8 s
  IsValue (bytes s) = Unit {0}
  IsValue (items ts) = AreValues ts
  IsValue (pairs ps) = ArePairs ps

  pub AreValues : Trees → Type 0
  AreValues no_items = Unit {0}
  AreValues (item t ts) = IsValue t × AreValues ts

  pub ArePairs : Pairs → Type 0
  ArePairs no_pairs = Unit {0}
  ArePairs (pair k t ps) = IsUtf8 k × IsValue t × ArePairs ps
