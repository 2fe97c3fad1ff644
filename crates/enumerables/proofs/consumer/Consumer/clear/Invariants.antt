use Rattle.std.proofs.Common.{◌≡◌, ◌++◌, take, drop, map}
use Rattle.enumerables.specs.Consumer.{cleared, rested}
use Rattle.enumerables.proofs.consumer.Consumer.clear.Given as goal

abbrev pub invariant-loop-followed : goal.invariant-loop-followed
invariant-loop-followed l = take l.followed-index l.followed-items ++ map (rested l.number) (drop l.followed-index l.followed-items) ≡ cleared l.number l.fn.self
