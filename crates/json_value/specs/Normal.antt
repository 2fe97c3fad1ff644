-- The normal form of a value: each map with its keys in byte order, and the last of a repeated key alone.
use Rattle.std.specs.Prelude.{◌≡◌, ℕ, List}
use Rattle.std.specs.declared.cmp.Ordering.{Ordering}
use Rattle.std.specs.declared.cmp.Ordering.TheVariants.{Less}
use Rattle.std.specs.Ordering.{nat_cmp, match_ordering}
use Rattle.std.specs.Cmp.Lexicographic.{slice_cmp}
use Rattle.wire_base.specs.Tree.{Tree, nil, flag, whole, words, bytes, items, pairs, Trees, no_items, item, Pairs, no_pairs, pair}

-- Byte order of keys.
abbrev pub key_cmp : List ℕ → List ℕ → Ordering
key_cmp = slice_cmp nat_cmp

-- Ordered pairs with one more, in its place, and instead of one with its key.
abbrev pub put : List ℕ → Tree → Pairs → Pairs
put k t no_pairs = pair k t no_pairs
put k t (pair l u ps) = match_ordering (key_cmp k l) (pair k t (pair l u ps)) (pair l t ps) (pair l u (put k t ps))

-- The normal form. The pairs of a map go in one after another.
abbrev mutual
  pub norm : Tree → Tree
  norm nil = nil
  norm (flag b) = flag b
  norm (whole z) = whole z
  norm (words s) = words s
  norm (bytes s) = bytes s
  norm (items ts) = items (norm_items ts)
  norm (pairs ps) = pairs (norm_onto no_pairs ps)

  pub norm_items : Trees → Trees
  norm_items no_items = no_items
  norm_items (item t ts) = item (norm t) (norm_items ts)

  pub norm_onto : Pairs → Pairs → Pairs
  norm_onto found no_pairs = found
  norm_onto found (pair k t ps) = norm_onto (put k (norm t) found) ps

-- The key comes before each of these pairs.
abbrev pub IsBefore : List ℕ → Pairs → Type 0
IsBefore k no_pairs = Unit {0}
IsBefore k (pair l u ps) = (key_cmp k l ≡ Less) × IsBefore k ps

-- In each map the keys stand in byte order, each once.
abbrev mutual
  pub IsNormal : Tree → Type 0
  IsNormal nil = Unit {0}
  IsNormal (flag b) = Unit {0}
  IsNormal (whole z) = Unit {0}
  IsNormal (words s) = Unit {0}
  IsNormal (bytes s) = Unit {0}
  IsNormal (items ts) = AreNormal ts
  IsNormal (pairs ps) = AreOrdered ps

  pub AreNormal : Trees → Type 0
  AreNormal no_items = Unit {0}
  AreNormal (item t ts) = IsNormal t × AreNormal ts

  pub AreOrdered : Pairs → Type 0
  AreOrdered no_pairs = Unit {0}
  AreOrdered (pair k t ps) = IsNormal t × IsBefore k ps × AreOrdered ps
