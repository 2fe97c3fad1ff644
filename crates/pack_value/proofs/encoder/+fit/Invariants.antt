use Rattle.std.proofs.Common.{◌≡◌, ◌+◌, ◌*◌, drop}
use Rattle.wire_base.specs.Tree.{trees_of, pairs_of, weight, list_size, pair_size}
use Rattle.pack_value.specs.Shortest.{item_lengths_fit, pair_lengths_fit, AreValues, ArePairs}
use Rattle.pack_value.proofs.encoder.+fit.Given as goal

abbrev pub decreases-fits : goal.decreases-fits
decreases-fits l = 2 * weight l.value.now

abbrev pub decreases-items_fit : goal.decreases-items_fit
decreases-items_fit l = 2 * list_size l.items.now

abbrev pub decreases-pairs_fit : goal.decreases-pairs_fit
decreases-pairs_fit l = 2 * pair_size l.pairs.now

abbrev pub decreases-pair_fits : goal.decreases-pair_fits
decreases-pair_fits l = 2 * weight l.pair.now.1 + 1

abbrev pub invariant-items_fit-loop-item : goal.invariant-items_fit-loop-item
invariant-items_fit-loop-item l = record {
  exact : item_lengths_fit (trees_of l.items) ≡ item_lengths_fit (trees_of (drop l.item-index l.item-items));
  valid : AreValues (trees_of (drop l.item-index l.item-items)) → AreValues (trees_of l.items);
}

abbrev pub invariant-pairs_fit-loop-pair : goal.invariant-pairs_fit-loop-pair
invariant-pairs_fit-loop-pair l = record {
  exact : pair_lengths_fit (pairs_of l.pairs) ≡ pair_lengths_fit (pairs_of (drop l.pair-index l.pair-items));
  valid : ArePairs (pairs_of (drop l.pair-index l.pair-items)) → ArePairs (pairs_of l.pairs);
}
