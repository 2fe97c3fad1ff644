-- What stands at the end.
use Rattle.marshalled_handles.proofs.After.{own_ended_after}
use Rattle.marshalled_handles.proofs.owner.Owner.end_all.Goals as goal

pub returns-clause-stands : goal.returns-clause-stands
returns-clause-stands c = λ items cause s. own_ended_after cause c.args.self.now c.end_each.new.self items c.end_each.ensures s
