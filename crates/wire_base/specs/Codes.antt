-- How the logic stores a tree: each tree as a stored value, no two as one.
use Rattle.std.proofs.Common.{◌≡◌, ◌≢◌, ℕ, List, refl, ap, arith}
use Rattle.std.specs.Coded.{Coded, coded×, coded_ℕ, coded_ℤ, coded_bool, coded_list}
use base.Stored.{Gv, gnil, gnum, gcons}
use Rattle.wire_base.specs.Tree.{Tree, nil, flag, whole, words, bytes, items, pairs, Trees, no_items, item, Pairs, no_pairs, pair}

-- the first of two stored values
abbrev head : Gv → Gv
head gnil = gnil
head (gnum n) = gnil
head (gcons a b) = a

-- the second of two stored values
abbrev tail : Gv → Gv
tail gnil = gnil
tail (gnum n) = gnil
tail (gcons a b) = b

-- values with different tags differ
apart : (m n : ℕ) {a b : Gv} → gcons (gnum m) a ≡ gcons (gnum n) b → m ≢ n → ⊥
apart m n p other = other (cc)

-- bytes are stored as std stores a list
abbrev pub coded_bytes : Coded (List ℕ)
coded_bytes = coded_list coded_ℕ

-- a tag, and the parts
abbrev mutual
  pub tree_code : Tree → Gv
  tree_code nil = gcons (gnum 0) gnil
  tree_code (flag b) = gcons (gnum 1) (coded_bool.code b)
  tree_code (whole z) = gcons (gnum 2) (coded_ℤ.code z)
  tree_code (words s) = gcons (gnum 3) (coded_bytes.code s)
  tree_code (bytes s) = gcons (gnum 4) (coded_bytes.code s)
  tree_code (items ts) = gcons (gnum 5) (trees_code ts)
  tree_code (pairs ps) = gcons (gnum 6) (pairs_code ps)

  pub trees_code : Trees → Gv
  trees_code no_items = gnil
  trees_code (item t ts) = gcons (tree_code t) (trees_code ts)

  pub pairs_code : Pairs → Gv
  pairs_code no_pairs = gnil
  pairs_code (pair k t ps) = gcons (coded_bytes.code k) (gcons (tree_code t) (pairs_code ps))

-- the tag by itself
abbrev tag : Tree → ℕ
tag nil = 0
tag (flag b) = 1
tag (whole z) = 2
tag (words s) = 3
tag (bytes s) = 4
tag (items ts) = 5
tag (pairs ps) = 6

-- what is stored alike is alike
mutual
  pub tree_inj : (x y : Tree) → tree_code x ≡ tree_code y → x ≡ y
  tree_inj nil nil p = refl
  tree_inj (flag a) (flag b) p = ap flag (coded_bool.inj a b (ap (λ g. tail g) p))
  tree_inj (whole a) (whole b) p = ap whole (coded_ℤ.inj a b (ap (λ g. tail g) p))
  tree_inj (words a) (words b) p = ap words (coded_bytes.inj a b (ap (λ g. tail g) p))
  tree_inj (bytes a) (bytes b) p = ap bytes (coded_bytes.inj a b (ap (λ g. tail g) p))
  tree_inj (items a) (items b) p = ap items (trees_inj a b (ap (λ g. tail g) p))
  tree_inj (pairs a) (pairs b) p = ap pairs (pairs_inj a b (ap (λ g. tail g) p))
  tree_inj x y p = absurd (apart (tag x) (tag y) p (omega arith))

  pub trees_inj : (x y : Trees) → trees_code x ≡ trees_code y → x ≡ y
  trees_inj no_items no_items p = refl
  trees_inj (item a as_) (item b bs) p = λ i. item (tree_inj a b (ap (λ g. head g) p) i) (trees_inj as_ bs (ap (λ g. tail g) p) i)
  trees_inj x y p = absurd (cc)

  pub pairs_inj : (x y : Pairs) → pairs_code x ≡ pairs_code y → x ≡ y
  pairs_inj no_pairs no_pairs p = refl
  pairs_inj (pair j a as_) (pair k b bs) p = λ i. pair (coded_bytes.inj j k (ap (λ g. head g) p) i) (tree_inj a b (ap (λ g. head (tail g)) p) i) (pairs_inj as_ bs (ap (λ g. tail (tail g)) p) i)
  pairs_inj x y p = absurd (cc)

-- trees can be stored
abbrev pub coded_tree : Coded Tree
coded_tree = record { code = tree_code; inj = tree_inj }

-- and lists of them
abbrev pub coded_trees : Coded (List Tree)
coded_trees = coded_list coded_tree

-- and lists of keys with them
abbrev pub coded_pairs : Coded (List (List ℕ × Tree))
coded_pairs = coded_list (coded× coded_bytes coded_tree)
