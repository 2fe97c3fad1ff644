use Rattle.std.proofs.Common.{◌≡◌, drop}
use Rattle.wire_base.specs.Tree.{trees_of, pairs_of, weight, list_size, pair_size}
use Rattle.wire_base.specs.Values.{items_hold_bytes, pairs_hold_bytes}
use Rattle.wire_base.proofs.values.+bytes.Given as goal

abbrev pub decreases-holds_bytes : goal.decreases-holds_bytes
decreases-holds_bytes l = weight l.value.now

abbrev pub decreases-items_hold_bytes : goal.decreases-items_hold_bytes
decreases-items_hold_bytes l = list_size l.items.now

abbrev pub decreases-pairs_hold_bytes : goal.decreases-pairs_hold_bytes
decreases-pairs_hold_bytes l = pair_size l.pairs.now

abbrev pub invariant-items_hold_bytes-loop-item : goal.invariant-items_hold_bytes-loop-item
invariant-items_hold_bytes-loop-item l = items_hold_bytes (trees_of l.items) ≡ items_hold_bytes (trees_of (drop l.item-index l.item-items))

abbrev pub invariant-pairs_hold_bytes-loop-pair : goal.invariant-pairs_hold_bytes-loop-pair
invariant-pairs_hold_bytes-loop-pair l = pairs_hold_bytes (pairs_of l.pairs) ≡ pairs_hold_bytes (pairs_of (drop l.pair-index l.pair-items))
