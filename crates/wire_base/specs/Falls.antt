-- Each part of a value weighs less than the value, by which walks over it end.
use Rattle.std.specs.Prelude.{ℕ, ◌+◌, ◌≤◌, max, List, [], ◌∷◌}
use Rattle.std.proofs.Common.{arith}
use denote.Param.Weighed.{most}
use Rattle.wire_base.specs.Tree.{Tree, weight, list_size, pair_size}
use Rattle.wire_base.specs.View.{tree_of}
use Rattle.wire_base.specs.declared.datum.Node.{Node}
use Rattle.wire_base.specs.declared.datum.Node.TheVariants.{Nil, Flag, Whole, Words, Bytes, Items, Pairs}
use Rattle.wire_base.specs.declared.datum.Datum.TheDeep.{deep-Node}
use Rattle.wire_base.specs.declared.datum.PairList.TheInside as pairs
use Rattle.wire_base.specs.declared.datum.Datum.TheDeep.{deep-PairList}

-- a node's parts
pub node_falls : (n : Node) → max (deep-Node n) 0 ≤ weight (tree_of n)
node_falls Nil = omega arith
node_falls (Flag b) = omega arith
node_falls (Whole w) = omega arith
node_falls (Words t) = omega arith
node_falls (Bytes b) = omega arith
node_falls (Items ts) = omega arith
node_falls (Pairs ps) = omega arith

-- a list's values
pub list_falls : (ts : List Tree) → max (most (λ t. weight t + 1) ts) 0 ≤ list_size ts
list_falls [] = omega arith
list_falls (t ∷ ts) = omega (arith, list_falls ts)

-- a pair list's values, whatever else is counted of a pair
pub pair_list_falls : (f : List ℕ × Tree → ℕ) → ((p : List ℕ × Tree) → f p ≤ weight p.1 + 1) → (ps : List (List ℕ × Tree)) → max (most f ps) 0 ≤ pair_size ps
pair_list_falls f h [] = omega arith
pair_list_falls f h (p ∷ ps) = omega (arith, h p, pair_list_falls f h ps)

-- the pairs of a `PairList`
pub pairs_fall : (a : pairs.Inside) → deep-PairList a ≤ pair_size a.pairs.items
pairs_fall a = pair_list_falls _ (λ p. omega arith) a.pairs.items
