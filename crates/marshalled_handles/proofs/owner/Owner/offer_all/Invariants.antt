use Rattle.std.proofs.Common.{◌≡◌, drop}
use Rattle.marshalled_handles.specs.Arguments.{offered_all}
use Rattle.marshalled_handles.proofs.owner.Owner.offer_all.Given as goal

abbrev pub invariant-loop-arg : goal.invariant-loop-arg
invariant-loop-arg l = offered_all l.request (drop l.arg-index l.args) l.self ≡ offered_all l.request l.args l.fn.self
