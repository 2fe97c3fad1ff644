use Rattle.std.proofs.Common.{◌∙◌, ap, sym}
use Rattle.rpc_end.specs.Stands.{RpcValue}
use Rattle.rpc_end.proofs.Stepping.{ends_spent}
use Rattle.rpc_end.proofs.end.RpcEnd.feed.Goals as goal

pub returns-then-would_be_spent-clause-answers : goal.returns-then-would_be_spent-clause-answers
returns-then-would_be_spent-clause-answers c = λ items at rest s.
    ends_spent c.args.self.now items at rest s (sym (ap (λ (e : RpcValue). e.state) c.self.view_is) ∙ c.in-Running.is) c.close.new.self c.args.piece.now c.self-then-would_be_spent.inside.state
    (sym c.would_be_spent.ensures ∙ c.if-would_be_spent.true) (ap (λ (e : RpcValue). e.state) c.self-then-would_be_spent.view_is) c.close.ensures
