-- What is no call on a handle has no handle.
use Rattle.std.proofs.Common.{ap}
use Rattle.rpc_items.specs.Meanings.{calls_after}
use Rattle.rpc_items.specs.Methods.{invoke_proxy}
use Rattle.rpc_methods.proofs.Fronts.{not_there}
use Rattle.rpc_methods.proofs.called.called.Goals as goal

pub returns-in_err-strip_prefix-clause-none : goal.returns-in_err-strip_prefix-clause-none
returns-in_err-strip_prefix-clause-none c = rw c.from_residual.ensures (ap calls_after (not_there invoke_proxy c.args.method.now c.in_err-strip_prefix.ensures.cases))
