use Rattle.std.proofs.lemmas.Result.{err_from_is_err_and}
use Rattle.message_body.specs.Written.{encoder}
use Rattle.rpc_items.specs.Bodies.{first_refusal}
use Rattle.rpc_end.specs.Calls.{pages_left}
use Rattle.rpc_end.specs.Ends.{with_said}
use Rattle.rpc_end.proofs.Answering.{unprepared}
use Rattle.rpc_end.proofs.Responding.{left_early, with_left}
use Rattle.rpc_end.proofs.end.RpcEnd.leave_pages.Goals as goal

pub returns-in_err-text-clause-makes : goal.returns-in_err-text-clause-makes
returns-in_err-text-clause-makes c =
    let old = c.args.self.now in
    let n = c.args.n in
    let p = err_from_is_err_and c.from_residual.result c.from_residual.ensures.1 in
    rw (p.1, p.2)
    (unprepared old (with_said (pages_left n old.consumer) (with_left old n)) (left_early old n) (first_refusal (encoder old.terms.encoding) (pages_left n old.consumer)) tt c.in_err-text.field-0.0 c.abort_text.result c.in_err-text.was c.abort_text.ensures.answer)
