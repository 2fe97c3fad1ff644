use Rattle.std.proofs.Common.{◌≡◌, take}
use Rattle.rpc_items.proofs.calls.ArgList.copy.Given as goal

abbrev pub invariant-loop-arg : goal.invariant-loop-arg
invariant-loop-arg l = (l.arg-items ≡ l.self) × (l.out ≡ take l.arg-index l.arg-items)
