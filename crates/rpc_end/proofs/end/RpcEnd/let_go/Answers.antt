use Rattle.std.proofs.Common.{[], ◌∷◌}
use Rattle.std.proofs.lemmas.Result.{err_from_is_err_and}
use Rattle.call_messages.specs.Messages.{release_message}
use Rattle.marshalled_handles.specs.Both.{end_in}
use Rattle.marshalled_handles.specs.Replies.{seen_refusal}
use Rattle.message_body.specs.Written.{encoder}
use Rattle.rpc_items.specs.Bodies.{first_refusal}
use Rattle.rpc_end.specs.Calls.{with_released}
use Rattle.rpc_end.specs.Ends.{with_said}
use Rattle.rpc_end.proofs.Answering.{unprepared}
use Rattle.rpc_end.proofs.end.RpcEnd.let_go.Goals as goal

pub returns-in_err-text-clause-calls : goal.returns-in_err-text-clause-calls
returns-in_err-text-clause-calls c =
    let old = c.args.self.now in
    let messages = release_message c.args.key ∷ [] in
    let p = err_from_is_err_and c.from_residual.result c.from_residual.ensures.1 in
    rw (p.1, p.2)
    (unprepared old (with_said messages (with_released c.args.key old)) (seen_refusal (end_in c.args.key old.owner old.holder)) (first_refusal (encoder old.terms.encoding) messages)
    tt c.in_err-text.field-0.0 c.release_text.result c.in_err-text.was c.release_text.ensures.answer)
