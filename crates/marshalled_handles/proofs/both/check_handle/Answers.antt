-- What the handles tell is what the items tell.
use Rattle.std.proofs.Common.{subst, Option}
use Rattle.wire_base.specs.declared.refusal.Refusal.{Refusal}
use Rattle.rpc_items.specs.Checks.{Checks}
use Rattle.marshalled_handles.proofs.Sides.{refused}
use Rattle.marshalled_handles.proofs.both.check_handle.Goals as goal

pub returns-clause-stands : goal.returns-clause-stands
returns-clause-stands c = λ items s t. subst (λ (r : Option Refusal). Checks r c.usable.result) (refused c.args.owner.now c.args.holder.now items s t c.args.key) c.usable.ensures
