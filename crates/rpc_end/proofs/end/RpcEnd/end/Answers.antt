use Rattle.std.proofs.Common.{◌∙◌, ap, sym}
use Rattle.rpc_end.specs.Stands.{RpcValue}
use Rattle.rpc_end.proofs.Stepping.{ends_by}
use Rattle.rpc_end.proofs.end.RpcEnd.end.Goals as goal

pub returns-in-Running-clause-answers : goal.returns-in-Running-clause-answers
returns-in-Running-clause-answers c = λ items at rest s.
    ends_by c.args.self.now items at rest s (sym (ap (λ (e : RpcValue). e.state) c.self.view_is) ∙ c.in-Running.is) c.close.new.self c.args.cause c.close.ensures
