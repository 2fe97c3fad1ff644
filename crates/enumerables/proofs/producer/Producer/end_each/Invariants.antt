use Rattle.std.proofs.Common.{◌≡◌, ◌++◌, take, drop, map}
use Rattle.enumerables.specs.Producer.{all_ended, ending}
use Rattle.enumerables.proofs.producer.Producer.end_each.Given as goal

abbrev pub invariant-loop-sequence : goal.invariant-loop-sequence
invariant-loop-sequence l = take l.sequence-index l.sequence-items ++ map ending (drop l.sequence-index l.sequence-items) ≡ all_ended l.fn.self
