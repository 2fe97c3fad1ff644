use Rattle.std.proofs.lemmas.Result.{err_from_is_err_and}
use Rattle.message_body.specs.Written.{encoder}
use Rattle.rpc_items.specs.Bodies.{first_refusal}
use Rattle.rpc_items.specs.Methods.{proxy_method}
use Rattle.rpc_end.specs.Calls.{invoking_refusal, next_number, next_request, with_request}
use Rattle.rpc_end.specs.Ends.{with_said}
use Rattle.rpc_end.proofs.Answering.{unprepared}
use Rattle.rpc_end.proofs.end.RpcEnd.ask_object.Goals as goal

pub returns-in_err-text-clause-calls : goal.returns-in_err-text-clause-calls
returns-in_err-text-clause-calls c =
    let old = c.args.self.now in
    let messages = next_request (proxy_method c.args.handle c.args.method.now) c.args.args old in
    let p = err_from_is_err_and c.from_residual.result c.from_residual.ensures.1 in
    rw (p.1, p.2)
    (unprepared old (with_said messages (with_request c.args.args c.args.expect old)) (invoking_refusal c.args.handle c.args.args old) (first_refusal (encoder old.terms.encoding) messages)
    (next_number old) c.in_err-text.field-0.0 c.invocation_text.result c.in_err-text.was c.invocation_text.ensures.answer)
