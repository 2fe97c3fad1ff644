-- The handle at the place that was found.
use Rattle.std.proofs.Common.{sym}
use Rattle.marshalled_handles.proofs.Search.{absent, read_there}
use Rattle.marshalled_handles.proofs.holder.Holder.find.Goals as goal

pub returns-in-Ok : goal.returns-in-Ok
returns-in-Ok c = read_there c.self.inside.handles.items c.args.self.now c.args.number _ c.self.view_is c.self.invariant c.index.result.now c.in-Ok.ensures.at c.index.ensures

pub returns-in-Err : goal.returns-in-Err
returns-in-Err c = sym (absent c.args.self.now c.args.number _ c.in-Err.ensures.gap)
