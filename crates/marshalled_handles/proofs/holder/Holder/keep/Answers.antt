-- A handle that is there stays, and another one goes into its gap.
use Rattle.std.proofs.Common.{◌∙◌}
use Rattle.marshalled_handles.proofs.Search.{adopted_there, inserted_rises, inserted_there}
use Rattle.marshalled_handles.proofs.holder.Holder.keep.Goals as goal

pub returns-in-Ok-clause-ok : goal.returns-in-Ok-clause-ok
returns-in-Ok-clause-ok c = adopted_there c.self.inside.handles.items c.args.self.now c.args.number _ c.self.view_is c.self.invariant c.args.until c.in-Ok.ensures.at

pub invariant_of-self-in-Err : goal.invariant_of-self-in-Err
invariant_of-self-in-Err c = rw c.in_ok-insert-in-Err.ensures.items (inserted_rises c.self.inside.handles.items c.args.self.now c.args.number _ c.self.view_is c.self.invariant c.args.until c.in-Err.ensures.gap)

pub returns-in_ok-insert-in-Err-clause-ok : goal.returns-in_ok-insert-in-Err-clause-ok
returns-in_ok-insert-in-Err-clause-ok c = c.in_ok-insert-in-Err.ensures.items ∙ inserted_there c.self.inside.handles.items c.args.self.now c.args.number _ c.self.view_is c.self.invariant c.args.until c.in-Err.ensures.gap
