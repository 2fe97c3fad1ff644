-- The write is that of the handle.
use Rattle.marshalled_handles.proofs.Search.{ended_rises, ended_there, stays_there}
use Rattle.marshalled_handles.proofs.holder.Holder.end.Goals as goal

pub invariant_of-self : goal.invariant_of-self
invariant_of-self c = ended_rises c.self.inside.handles.items c.args.self.now c.args.number _ c.self.view_is c.self.invariant c.index_mut.result.now c.end.new.self c.in-Ok.ensures.at c.index_mut.ensures.value c.end.ensures

pub returns-in-Ok : goal.returns-in-Ok
returns-in-Ok c = ended_there c.self.inside.handles.items c.args.self.now c.args.number _ c.self.view_is c.self.invariant c.index_mut.result.now c.end.new.self c.in-Ok.ensures.at c.index_mut.ensures.value c.end.ensures

pub returns-in-Err : goal.returns-in-Err
returns-in-Err c = stays_there c.args.self.now c.args.number _ c.in-Err.ensures.gap
