use Rattle.std.specs.Prelude.{Ok, Err}
use Rattle.std.proofs.Common.{sym, subst}
use Rattle.wire_base.specs.declared.fault.CallFault.TheVariants as fault
use Rattle.rpc_items.specs.Items.{Forget}
use Rattle.rpc_end.specs.Ends.{value_in, with_table}
use Rattle.rpc_end.specs.Replies.{Answers}
use Rattle.rpc_end.specs.Stands.{RpcStands, RpcValue}
use Rattle.rpc_end.proofs.Past.{forget_fails, forgets}
use Rattle.rpc_end.proofs.end.RpcEnd.forget.Goals as goal

pub returns-in-Err-clause-answers : goal.returns-in-Err-clause-answers
returns-in-Err-clause-answers c = λ items at rest s.
    let end : RpcValue = value_in c.self.inside.terms c.self.inside.table c.self.inside.producer c.self.inside.consumer c.self.inside.owner c.self.inside.holder c.self.inside.output.items c.self.inside.reader c.self.inside.state in
    let stands = subst (λ (e : RpcValue). RpcStands e items at rest) (sym c.self.view_is) s in
    subst (λ (e : RpcValue). Answers {A = Unit {0}} e (with_table c.forget.new.self end) items at rest (Forget c.args.n) (λ _. Unit {0}) (Err (fault.Refused c.in-Err.refusal))) c.self.view_is
    (forget_fails end c.forget.new.self items at rest c.args.n c.in-Err.refusal stands c.in-Err.ensures.value)

pub returns-clause-answers : goal.returns-clause-answers
returns-clause-answers c = λ items at rest s.
    let end : RpcValue = value_in c.self.inside.terms c.self.inside.table c.self.inside.producer c.self.inside.consumer c.self.inside.owner c.self.inside.holder c.self.inside.output.items c.self.inside.reader c.self.inside.state in
    let stands = subst (λ (e : RpcValue). RpcStands e items at rest) (sym c.self.view_is) s in
    subst (λ (e : RpcValue). Answers {A = Unit {0}} e (with_table c.forget.new.self end) items at rest (Forget c.args.n) (λ _. Unit {0}) (Ok tt)) c.self.view_is
    (forgets end c.forget.new.self items at rest c.args.n stands c.in_default-forget.ensures.value (c.in_default-forget.ensures.stands items stands.table))
