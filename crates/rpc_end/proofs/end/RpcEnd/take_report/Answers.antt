use Rattle.std.specs.Prelude.{ℕ, List, Ok, Err, Result, slice_get}
use Rattle.std.proofs.Common.{◌≡◌, Option, sym, subst}
use Rattle.wire_base.specs.Tree.{Tree}
use Rattle.wire_base.specs.declared.fault.CallFault.{CallFault}
use Rattle.wire_base.specs.declared.fault.CallFault.TheVariants as fault
use Rattle.rpc_items.specs.Items.{RpcItem, TakeReport}
use Rattle.rpc_items.specs.Reports.{reports}
use Rattle.rpc_end.specs.Ends.{value_in, with_table}
use Rattle.rpc_end.specs.Replies.{Answers}
use Rattle.rpc_end.specs.Stands.{RpcStands, RpcValue}
use Rattle.rpc_end.proofs.Past.{take_fails, takes}
use Rattle.rpc_end.proofs.end.RpcEnd.take_report.Goals as goal
use Rattle.rpc_end.proofs.end.RpcEnd.take_report.Goals.{in-Ok, in-Err}

abbrev Answered : (old new : RpcValue) → ℕ → List RpcItem → ℕ → List ℕ → Result (Option Tree) CallFault → Type 0
Answered old new n items at rest result = Answers {A = Option Tree} old new items at rest (TakeReport n) (λ report. report ≡ slice_get (reports n items) 0) result

pub returns-clause-answers : goal.returns-clause-answers
returns-clause-answers c = λ items at rest s.
    let end : RpcValue = value_in c.self.inside.terms c.self.inside.table c.self.inside.producer c.self.inside.consumer c.self.inside.owner c.self.inside.holder c.self.inside.output.items c.self.inside.reader c.self.inside.state in
    let new : RpcValue = with_table c.take_report.new.self end in
    let stands : RpcStands end items at rest = subst (λ (e : RpcValue). RpcStands e items at rest) (sym c.self.view_is) s in
    elim c.match-take_report.branch [
      | in-Ok w ↦
          subst (λ (r : Result (Option Tree) CallFault). Answered c.args.self.now new c.args.n items at rest r) (sym w.result-is)
          (subst (λ (e : RpcValue). Answered e new c.args.n items at rest (Ok w.in-Ok.report)) c.self.view_is
          (takes end c.take_report.new.self items at rest c.args.n w.in-Ok.report stands w.in-Ok.ensures.value (w.in-Ok.ensures.stands items stands.table)))
      | in-Err w ↦
          subst (λ (r : Result (Option Tree) CallFault). Answered c.args.self.now new c.args.n items at rest r) (sym w.result-is)
          (subst (λ (e : RpcValue). Answered e new c.args.n items at rest (Err (fault.Refused w.in-Err.refusal))) c.self.view_is
          (take_fails end c.take_report.new.self items at rest c.args.n w.in-Err.refusal stands w.in-Err.ensures.value))
    ]
