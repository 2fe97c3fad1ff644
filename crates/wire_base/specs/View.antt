-- The tree that a node stands for.
use Rattle.wire_base.specs.Tree.{Tree, nil, flag, whole, words, bytes, items, pairs, trees_of, pairs_of}
use Rattle.wire_base.specs.declared.datum.Node.{Node}
use Rattle.wire_base.specs.declared.datum.Node.TheVariants.{Nil, Flag, Whole, Words, Bytes, Items, Pairs}

-- case by case
abbrev pub tree_of : Node → Tree
tree_of Nil = nil
tree_of (Flag b) = flag b
tree_of (Whole w) = whole w
tree_of (Words t) = words t
tree_of (Bytes b) = bytes b
tree_of (Items ts) = items (trees_of ts)
tree_of (Pairs ps) = pairs (pairs_of ps)
