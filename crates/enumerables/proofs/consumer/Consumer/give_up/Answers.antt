-- What stands once a sequence is given up.
use Rattle.enumerables.proofs.After.{aborted_after}
use Rattle.enumerables.proofs.consumer.Consumer.give_up.Goals as goal

pub returns-clause-stands : goal.returns-clause-stands
returns-clause-stands c = λ items s accepted. aborted_after c.args.n c.args.self.now c.leave.new.self items c.leave.ensures accepted s
