use Rattle.std.proofs.Common.{◌≡◌, drop}
use Rattle.enumerables.specs.Consumer.{found}
use Rattle.enumerables.proofs.consumer.Consumer.find.Given as goal

abbrev pub invariant-loop-followed : goal.invariant-loop-followed
invariant-loop-followed l = (l.followed-items ≡ l.self) × (found l.n (drop l.followed-index l.followed-items) ≡ found l.n l.self)
