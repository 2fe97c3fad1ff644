use Rattle.std.proofs.Common.{◌≡◌, map, take, drop}
use Rattle.serde_json.specs.View.{view, members_view}
use Rattle.wire_base.specs.Tree.{trees_of, pairs_of, no_pairs, weight, list_size, pair_size}
use Rattle.json_value.specs.Normal.{norm_onto}
use Rattle.json_value.specs.Json.{data_members}
use Rattle.json_value.specs.Value.{AreValues, ArePairs}
use Rattle.json_value.proofs.Writings.{plain, put_all}
use Rattle.json_value.proofs.writer.+back.Given as goal

abbrev pub decreases-value_of : goal.decreases-value_of
decreases-value_of l = weight l.value.now

abbrev pub decreases-values_of : goal.decreases-values_of
decreases-values_of l = list_size l.items.now

abbrev pub decreases-members_of : goal.decreases-members_of
decreases-members_of l = pair_size l.pairs.now

abbrev pub invariant-values_of-loop-item : goal.invariant-values_of-loop-item
invariant-values_of-loop-item l = record {
  same : map view l.values.items ≡ map plain (take l.item-index l.item-items);
  valid : AreValues (trees_of (drop l.item-index l.item-items)) → AreValues (trees_of l.items);
}

abbrev pub invariant-members_of-loop-pair : goal.invariant-members_of-loop-pair
invariant-members_of-loop-pair l = record {
  same : data_members (norm_onto no_pairs (pairs_of l.pairs)) ≡ put_all (members_view l.members.entries) (drop l.pair-index l.pair-items);
  valid : ArePairs (pairs_of (drop l.pair-index l.pair-items)) → ArePairs (pairs_of l.pairs);
}
