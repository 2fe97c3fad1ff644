use Rattle.std.proofs.lemmas.Result.{err_from_is_err_and}
use Rattle.rpc_end.specs.Calls.{responding_refusal, unwritten, with_response}
use Rattle.rpc_end.proofs.Answering.{unprepared}
use Rattle.rpc_end.proofs.end.RpcEnd.answer_whole.Goals as goal

pub returns-in_err-text-clause-responds : goal.returns-in_err-text-clause-responds
returns-in_err-text-clause-responds c =
    let old = c.args.self.now in
    let id = c.args.id.now in
    let given = c.args.answer in
    let p = err_from_is_err_and c.from_residual.result c.from_residual.ensures.1 in
    rw (p.1, p.2)
    (unprepared old (with_response id given old) (responding_refusal id given old) (unwritten id given old) tt c.in_err-text.field-0.0 c.response_text.result c.in_err-text.was c.response_text.ensures.answer)
