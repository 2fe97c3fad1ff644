use Rattle.std.proofs.Common.{◌≡◌, ◌++◌, take, drop, map}
use Rattle.enumerables.specs.Consumer.{asking, turning}
use Rattle.enumerables.proofs.consumer.Consumer.ask.Given as goal

abbrev pub invariant-loop-followed : goal.invariant-loop-followed
invariant-loop-followed l = take l.followed-index l.followed-items ++ map (asking l.n l.number) (drop l.followed-index l.followed-items) ≡ turning l.n l.number l.fn.self
