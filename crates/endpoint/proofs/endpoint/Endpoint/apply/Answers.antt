use Rattle.std.specs.Prelude.{Result, Err}
use Rattle.std.proofs.Common.{◌≡◌, subst}
use Rattle.wire_base.specs.declared.fault.CallFault.{CallFault}
use Rattle.wire_base.specs.declared.fault.CallFault.TheVariants as fault
use Rattle.endpoint_items.specs.declared.reply.Reply.{Reply}
use Rattle.endpoint.specs.Applied.{Applies, as_reply}
use Rattle.endpoint.proofs.endpoint.Endpoint.apply.Goals as goal

pub returns-in-Err-Refused-clause-applies : goal.returns-in-Err-Refused-clause-applies
returns-in-Err-Refused-clause-applies c = λ items at rest s.
    let is : c.try_call.result ≡ Err (fault.Refused c.in-Err-Refused.refusal) = cc in
    subst (λ (o : Result Reply CallFault). Applies c.args.self.now c.try_call.new.self items at rest c.args.call (as_reply o)) is (c.try_call.ensures.applies items at rest s)
