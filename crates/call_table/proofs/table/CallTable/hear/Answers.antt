-- What stands with one more request of the peer.
use Rattle.call_table.proofs.After.{heard_after}
use Rattle.call_table.proofs.table.CallTable.hear.Goals as goal

pub returns-in-Ok-clause-stands : goal.returns-in-Ok-clause-stands
returns-in-Ok-clause-stands c = λ items place method params s asked new. heard_after c.args.id c.args.self.now c.await_answer.new.self place method params items c.in-Ok.ensures.ok s asked
