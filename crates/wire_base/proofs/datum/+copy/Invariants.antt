use Rattle.std.proofs.Common.{◌≡◌, take}
use Rattle.wire_base.proofs.datum.+copy.Given as goal

abbrev pub invariant-DatumList::copy-loop-item : goal.invariant-DatumList::copy-loop-item
invariant-DatumList::copy-loop-item l = (l.item-items ≡ l.self) × (l.out ≡ take l.item-index l.item-items)

abbrev pub invariant-PairList::copy-loop-pair : goal.invariant-PairList::copy-loop-pair
invariant-PairList::copy-loop-pair l = (l.pair-items ≡ l.self) × (l.out ≡ take l.pair-index l.pair-items)
