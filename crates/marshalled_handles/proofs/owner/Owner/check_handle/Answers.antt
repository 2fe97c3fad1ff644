-- What the handles tell is what the items tell.
use Rattle.std.proofs.Common.{◌∙◌, ap, subst, Option}
use Rattle.wire_base.specs.declared.refusal.Refusal.{Refusal}
use Rattle.rpc_items.specs.Keys.{own_key}
use Rattle.rpc_items.specs.Checks.{Checks}
use Rattle.marshalled_handles.specs.Replies.{seen_refusal}
use Rattle.marshalled_handles.proofs.Reading.{made_as, refused_as}
use Rattle.marshalled_handles.proofs.owner.Owner.check_handle.Goals as goal

pub returns-clause-stands : goal.returns-clause-stands
returns-clause-stands c = λ items s. subst (λ (r : Option Refusal). Checks r c.usable.result) (ap seen_refusal (made_as c.args.number c.args.self.now items s) ∙ refused_as (own_key c.args.number) items) c.usable.ensures
