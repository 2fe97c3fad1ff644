-- What stands once a request of the peer is answered.
use Rattle.marshalled_handles.proofs.After.{responded_after}
use Rattle.marshalled_handles.proofs.holder.Holder.responded.Goals as goal

pub returns-clause-stands : goal.returns-clause-stands
returns-clause-stands c = λ items response s. responded_after c.args.id.now response c.args.self.now c.respond_each.new.self items c.respond_each.ensures s
