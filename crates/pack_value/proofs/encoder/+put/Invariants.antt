use Rattle.std.proofs.Common.{◌≡◌, ◌+◌, ◌*◌, true, drop}
use Rattle.wire_base.specs.Tree.{trees_of, pairs_of, weight, list_size, pair_size}
use Rattle.wire_base.specs.Appends.{AppendsTo}
use Rattle.pack_value.specs.Shortest.{shortest_items, shortest_pairs, item_lengths_fit, pair_lengths_fit}
use Rattle.pack_value.proofs.encoder.+put.Given as goal

abbrev pub decreases-put_value : goal.decreases-put_value
decreases-put_value l = 2 * weight l.value.now

abbrev pub decreases-put_items : goal.decreases-put_items
decreases-put_items l = 2 * list_size l.items.now

abbrev pub decreases-put_pairs : goal.decreases-put_pairs
decreases-put_pairs l = 2 * pair_size l.pairs.now

abbrev pub decreases-put_pair : goal.decreases-put_pair
decreases-put_pair l = 2 * weight l.pair.now.1 + 1

abbrev pub invariant-put_items-loop-item : goal.invariant-put_items-loop-item
invariant-put_items-loop-item l = record {
  appended : AppendsTo (shortest_items (trees_of (drop l.item-index l.item-items))) l.fn.out.items l.out.items (shortest_items (trees_of l.items));
  fit : item_lengths_fit (trees_of (drop l.item-index l.item-items)) ≡ true;
}

abbrev pub invariant-put_pairs-loop-pair : goal.invariant-put_pairs-loop-pair
invariant-put_pairs-loop-pair l = record {
  appended : AppendsTo (shortest_pairs (pairs_of (drop l.pair-index l.pair-items))) l.fn.out.items l.out.items (shortest_pairs (pairs_of l.pairs));
  fit : pair_lengths_fit (pairs_of (drop l.pair-index l.pair-items)) ≡ true;
}
