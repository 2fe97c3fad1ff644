use Rattle.std.proofs.Common.{◌≡◌, ◌++◌, drop, option_map}
use Rattle.serde_json.specs.View.{items_view, members_view}
use Rattle.json_value.specs.Reading.{tree_list, pair_list}
use Rattle.json_value.proofs.reader.+turn.Given as goal

abbrev pub invariant-items_of-loop-value : goal.invariant-items_of-loop-value
invariant-items_of-loop-value l =
    tree_list (items_view l.values.items) ≡ option_map (λ ts. l.items ++ ts) (tree_list (items_view (drop l.value-index l.value-items)))

abbrev pub invariant-pairs_of-loop-key : goal.invariant-pairs_of-loop-key
invariant-pairs_of-loop-key l =
    pair_list (members_view l.members.entries) ≡ option_map (λ ps. l.pairs ++ ps) (pair_list (members_view l.key-iterator))
