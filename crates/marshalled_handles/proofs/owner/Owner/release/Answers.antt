-- What stands once a handle is released, here or by the peer.
use Rattle.marshalled_handles.proofs.After.{own_let_go_after, own_released_after}
use Rattle.marshalled_handles.proofs.owner.Owner.release.Goals as goal

pub returns-clause-stands : goal.returns-clause-stands
returns-clause-stands c = λ items s. own_let_go_after c.args.number c.args.self.now c.end.new.self items c.end.ensures s

pub returns-clause-heard : goal.returns-clause-heard
returns-clause-heard c = λ items place message s is. own_released_after c.args.number place message c.args.self.now c.end.new.self items c.end.ensures is s
