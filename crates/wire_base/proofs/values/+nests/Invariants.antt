use Rattle.std.proofs.Common.{◌↔◌, ◌≤◌, ◌+◌, ◌*◌, drop}
use Rattle.wire_base.specs.Tree.{trees_of, pairs_of}
use Rattle.wire_base.specs.Values.{nestings, pair_nestings}
use Rattle.wire_base.proofs.values.+nests.Given as goal

abbrev pub decreases-nests_within : goal.decreases-nests_within
decreases-nests_within l = 2 * l.depth + 1

abbrev pub decreases-items_nest_within : goal.decreases-items_nest_within
decreases-items_nest_within l = 2 * l.depth + 2

abbrev pub decreases-pairs_nest_within : goal.decreases-pairs_nest_within
decreases-pairs_nest_within l = 2 * l.depth + 2

abbrev pub invariant-items_nest_within-loop-item : goal.invariant-items_nest_within-loop-item
invariant-items_nest_within-loop-item l =
    (nestings (trees_of l.items) ≤ l.depth) ↔ (nestings (trees_of (drop l.item-index l.item-items)) ≤ l.depth)

abbrev pub invariant-pairs_nest_within-loop-pair : goal.invariant-pairs_nest_within-loop-pair
invariant-pairs_nest_within-loop-pair l =
    (pair_nestings (pairs_of l.pairs) ≤ l.depth) ↔ (pair_nestings (pairs_of (drop l.pair-index l.pair-items)) ≤ l.depth)
