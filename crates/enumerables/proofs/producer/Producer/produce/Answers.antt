-- What stands once a sequence is answered.
use Rattle.std.proofs.Common.{rules}
use Rattle.enumerables.proofs.After.{produced_after}
use Rattle.enumerables.proofs.producer.Producer.produce.Goals as goal

pub returns-in_ok-push-clause-stands : goal.returns-in_ok-push-clause-stands
returns-in_ok-push-clause-stands c = λ items id runs s. produced_after id c.args.values c.args.page c.args.first c.args.self.now _ items (search rules) runs s
