-- What stands once a handle is released here.
use Rattle.marshalled_handles.proofs.Sides.{holder_let_go_after, owner_let_go_after}
use Rattle.marshalled_handles.proofs.both.release.Goals as goal

pub returns-clause-owner_stands : goal.returns-clause-owner_stands
returns-clause-owner_stands c = λ items s. owner_let_go_after c.args.key c.args.owner.now c.end.new.owner items c.end.ensures.owner s

pub returns-clause-holder_stands : goal.returns-clause-holder_stands
returns-clause-holder_stands c = λ items s. holder_let_go_after c.args.key c.args.holder.now c.end.new.holder items c.end.ensures.holder s
