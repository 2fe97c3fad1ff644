use Rattle.std.proofs.Common.{◌≡◌, ◌+◌, ◌-◌, ◌*◌}
use Rattle.pack_value.specs.Reading.{value_at, repeat, pair_at}
use Rattle.pack_value.proofs.Loop.{with_front}
use Rattle.pack_value.proofs.decoder.+decode.Given as goal

abbrev pub decreases-behind_head : goal.decreases-behind_head
decreases-behind_head l = 4 * l.depth + 1

abbrev pub decreases-item_list_of : goal.decreases-item_list_of
decreases-item_list_of l = 4 * l.depth + 3

abbrev pub decreases-pair_list_of : goal.decreases-pair_list_of
decreases-pair_list_of l = 4 * l.depth + 4

abbrev pub decreases-pair_of : goal.decreases-pair_of
decreases-pair_of l = 4 * l.depth + 3

abbrev pub decreases-value_of : goal.decreases-value_of
decreases-value_of l = 4 * l.depth + 2

abbrev pub invariant-item_list_of-loop : goal.invariant-item_list_of-loop
invariant-item_list_of-loop l = with_front l.items (repeat (value_at l.depth) (l.count - l.counter) l.rest) ≡ repeat (value_at l.depth) l.count l.bytes

abbrev pub invariant-pair_list_of-loop : goal.invariant-pair_list_of-loop
invariant-pair_list_of-loop l = with_front l.pairs (repeat (pair_at l.depth (value_at l.depth)) (l.count - l.counter) l.rest) ≡ repeat (pair_at l.depth (value_at l.depth)) l.count l.bytes
