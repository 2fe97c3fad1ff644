-- What stands once a page is asked for.
use Rattle.enumerables.proofs.After.{turned_after}
use Rattle.enumerables.proofs.consumer.Consumer.turn.Goals as goal

pub returns-clause-stands : goal.returns-clause-stands
returns-clause-stands c = λ items s accepted is. turned_after c.args.n c.args.number c.args.self.now c.ask.new.self items c.ask.ensures accepted is s
