use Rattle.message_body.specs.Written.{encoder}
use Rattle.rpc_items.specs.Bodies.{first_refusal}
use Rattle.rpc_end.specs.Calls.{asking_refusal, next_request}
use Rattle.rpc_end.proofs.Texts.{prepared_after}
use Rattle.rpc_end.proofs.end.RpcEnd.request_text.Goals as goal

pub returns-clause-answer : goal.returns-clause-answer
returns-clause-answer c =
    let self = c.args.self.now in
    let method = c.args.method.now in
    let args = c.args.args.now in
    prepared_after (asking_refusal method args self) (first_refusal (encoder self.terms.encoding) (next_request method args self)) c.numbered_text.result c.in_ok-number.ensures.answer c.numbered_text.ensures.answer
