-- What stands after a response.
use Rattle.std.proofs.Common.{rules}
use Rattle.enumerables.proofs.After.{settled_after}
use Rattle.enumerables.proofs.consumer.Consumer.settle.Goals as goal

pub returns-clause-stands : goal.returns-clause-stands
returns-clause-stands c = λ items place message s waits expects says. settled_after c.args.number c.args.expect c.args.outcome.now place message c.args.self.now _ items (search rules) waits expects says s
