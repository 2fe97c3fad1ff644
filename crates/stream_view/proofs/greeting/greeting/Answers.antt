use Rattle.wire_base.specs.declared.reason.Reason.TheVariants.{SameNonce}
use Rattle.stream_view.proofs.Nonces.{first_answer, refused_answer, second_answer}
use Rattle.stream_view.proofs.greeting.greeting.Goals as goal

pub returns-in-SameNonce : goal.returns-in-SameNonce
returns-in-SameNonce c =
    second_answer c.args.version c.args.bytes.now c.shake.result c.shake-in-SameNonce.result c.in-Refused.place c.in-Refused.reason c.in-Refused.is c.in-SameNonce.is c.shake.ensures c.shake-in-SameNonce.ensures

pub returns-in_default-reason : goal.returns-in_default-reason
returns-in_default-reason c =
    refused_answer c.args.version c.args.bytes.now c.shake.result c.in-Refused.place c.in-Refused.reason c.in-Refused.is c.in_default-reason.not-SameNonce c.shake.ensures

pub returns-in_default : goal.returns-in_default
returns-in_default c = first_answer c.args.version c.args.bytes.now c.shake.result c.shake.ensures (λ place e. c.in_default.not-Refused place SameNonce e)
