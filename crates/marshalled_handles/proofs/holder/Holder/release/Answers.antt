-- What stands once a handle is released, here or by the peer.
use Rattle.marshalled_handles.proofs.After.{peer_let_go_after, peer_released_after}
use Rattle.marshalled_handles.proofs.holder.Holder.release.Goals as goal

pub returns-clause-stands : goal.returns-clause-stands
returns-clause-stands c = λ items s. peer_let_go_after c.args.number c.args.self.now c.end.new.self items c.end.ensures s

pub returns-clause-heard : goal.returns-clause-heard
returns-clause-heard c = λ items place message s is. peer_released_after c.args.number place message c.args.self.now c.end.new.self items c.end.ensures is s
