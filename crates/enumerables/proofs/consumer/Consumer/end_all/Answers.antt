-- What stands at the end.
use Rattle.std.proofs.Common.{rules}
use Rattle.enumerables.proofs.After.{over_after}
use Rattle.enumerables.proofs.consumer.Consumer.end_all.Goals as goal

pub returns-clause-stands : goal.returns-clause-stands
returns-clause-stands c = λ items cause s. over_after cause c.args.self.now _ items (search rules) s
