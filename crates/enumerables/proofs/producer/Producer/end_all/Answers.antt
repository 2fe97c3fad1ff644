-- What stands at the end.
use Rattle.enumerables.proofs.After.{ended_after}
use Rattle.enumerables.proofs.producer.Producer.end_all.Goals as goal

pub returns-clause-stands : goal.returns-clause-stands
returns-clause-stands c = λ items cause s. ended_after cause c.args.self.now c.end_each.new.self items c.end_each.ensures s
