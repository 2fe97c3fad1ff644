use Rattle.std.proofs.Common.{[]}
use Rattle.std.proofs.lemmas.Result.{err_from_is_err_and}
use Rattle.call_table.specs.Replies.{unless_there}
use Rattle.call_table.specs.Table.{waits_in}
use Rattle.message_body.specs.Written.{encoder}
use Rattle.rpc_items.specs.Bodies.{first_refusal}
use Rattle.rpc_items.specs.Items.{Did, Report}
use Rattle.rpc_items.specs.Saying.{said}
use Rattle.rpc_end.specs.Ends.{with_said, with_table}
use Rattle.rpc_end.proofs.Answering.{unprepared}
use Rattle.rpc_end.proofs.end.RpcEnd.tell_progress.Goals as goal

pub returns-in_err-text-clause-calls : goal.returns-in_err-text-clause-calls
returns-in_err-text-clause-calls c =
    let old = c.args.self.now in
    let messages = said (Did (Report c.args.id.now c.args.token.now c.args.value.now)) [] in
    let p = err_from_is_err_and c.from_residual.result c.from_residual.ensures.1 in
    rw (p.1, p.2)
    (unprepared old (with_said messages (with_table old.table old)) (unless_there (waits_in c.args.id.now old.table)) (first_refusal (encoder old.terms.encoding) messages)
    tt c.in_err-text.field-0.0 c.report_text.result c.in_err-text.was c.report_text.ensures.answer)
