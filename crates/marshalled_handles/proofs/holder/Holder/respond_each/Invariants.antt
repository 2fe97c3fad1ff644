use Rattle.std.proofs.Common.{◌≡◌, ◌++◌, take, drop, map}
use Rattle.marshalled_handles.specs.Holder.{responded, responding}
use Rattle.marshalled_handles.proofs.holder.Holder.respond_each.Given as goal

abbrev pub invariant-loop-handle : goal.invariant-loop-handle
invariant-loop-handle l = take l.handle-index l.handle-items ++ map (responding l.id) (drop l.handle-index l.handle-items) ≡ responded l.id l.fn.self
