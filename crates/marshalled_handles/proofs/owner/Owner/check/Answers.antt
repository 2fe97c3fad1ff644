-- What the handles tell is what the items tell.
use Rattle.std.proofs.Common.{subst, Option}
use Rattle.wire_base.specs.declared.refusal.Refusal.{Refusal}
use Rattle.rpc_items.specs.Checks.{Checks}
use Rattle.marshalled_handles.proofs.Reading.{room_as}
use Rattle.marshalled_handles.proofs.owner.Owner.check.Goals as goal

pub returns-clause-stands : goal.returns-clause-stands
returns-clause-stands c = λ items s. subst (λ (r : Option Refusal). Checks r c.room.result) (room_as c.args.count c.args.self.now items s) c.room.ensures
