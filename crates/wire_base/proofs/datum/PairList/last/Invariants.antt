use Rattle.std.proofs.Common.{◌≡◌}
use Rattle.wire_base.specs.Find.{last_of}
use Rattle.wire_base.proofs.datum.PairList.last.Given as goal

abbrev pub invariant-loop-k : goal.invariant-loop-k
invariant-loop-k l = last_of l.key l.k-iterator.iter.rest.now ≡ last_of l.key l.self
