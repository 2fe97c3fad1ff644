use Rattle.std.proofs.Common.{◌≡◌, ◌++◌, take, drop, map}
use Rattle.marshalled_handles.specs.Holder.{all_ended, ending}
use Rattle.marshalled_handles.proofs.holder.Holder.end_each.Given as goal

abbrev pub invariant-loop-handle : goal.invariant-loop-handle
invariant-loop-handle l = take l.handle-index l.handle-items ++ map ending (drop l.handle-index l.handle-items) ≡ all_ended l.fn.self
