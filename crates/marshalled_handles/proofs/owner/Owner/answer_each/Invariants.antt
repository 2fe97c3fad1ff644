use Rattle.std.proofs.Common.{◌≡◌, ◌++◌, take, drop, map}
use Rattle.marshalled_handles.specs.Owner.{answered, answering}
use Rattle.marshalled_handles.proofs.owner.Owner.answer_each.Given as goal

abbrev pub invariant-loop-handle : goal.invariant-loop-handle
invariant-loop-handle l = take l.handle-index l.handle-items ++ map (answering l.request) (drop l.handle-index l.handle-items) ≡ answered l.request l.fn.self
