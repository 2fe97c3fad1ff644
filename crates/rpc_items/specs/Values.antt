-- Maps and their members.
use Rattle.std.specs.Prelude.{ℕ, List, Bool, false, Option, Some, None}
use Rattle.wire_base.specs.Tree.{Tree, pairs_of, pair_list_of}
use Rattle.wire_base.specs.Find.{last_of}
use Rattle.wire_base.specs.Tree as tree

-- the value of a map's member, the last where the key stands more than once
abbrev pub member : List ℕ → Tree → Option Tree
member key (tree.pairs ps) = last_of key (pair_list_of ps)
member key value = None

-- a map with these members
abbrev pub map_of : List (List ℕ × Tree) → Tree
map_of ps = tree.pairs (pairs_of ps)

-- whether a member is the flag true
abbrev pub is_true : Option Tree → Bool
is_true (Some (tree.flag b)) = b
is_true value = false
