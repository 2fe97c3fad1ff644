-- The room is for as many objects as there are.
use Rattle.std.proofs.Common.{◌∙◌, ℕ, subst}
use Rattle.rpc_items.specs.Checks.{Checks}
use Rattle.marshalled_handles.specs.Owner.{room_refusal}
use Rattle.marshalled_handles.proofs.Carried.{objects_counted}
use Rattle.marshalled_handles.proofs.owner.Owner.check_arguments.Goals as goal

pub returns : goal.returns
returns c = subst (λ (count : ℕ). Checks (room_refusal count c.args.self.now) c.room.result) (c.objects_in.ensures ∙ objects_counted c.args.args.now) c.room.ensures
