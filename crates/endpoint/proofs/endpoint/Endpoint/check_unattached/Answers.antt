use Rattle.std.proofs.Common.{refl, sym, ◌∙◌, subst, Ok, Err}
use Rattle.wire_base.specs.declared.fault.CallFault.TheVariants as fault
use Rattle.wire_base.specs.declared.refusal.Refusal.TheVariants as refusal
use Rattle.endpoint.specs.Refusing.{RefusesUse}
use Rattle.endpoint.proofs.endpoint.Endpoint.check_unattached.Goals as goal

pub returns-then-is_in_use : goal.returns-then-is_in_use
returns-then-is_in_use c = λ items at rest s. subst (λ b. RefusesUse b (Err (fault.Refused refusal.Attached))) (sym c.if-is_in_use.true ∙ c.is_in_use.ensures items at rest s) refl

pub returns : goal.returns
returns c = λ items at rest s. subst (λ b. RefusesUse b (Ok tt)) (sym c.if-is_in_use.false ∙ c.is_in_use.ensures items at rest s) tt
