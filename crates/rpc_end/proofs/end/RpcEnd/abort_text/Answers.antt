-- What gives a sequence up is a message of the code: it has no id.
use Rattle.enumerables.specs.Consumer.{following_refusal, found}
use Rattle.rpc_items.specs.Saying.{abort_message}
use Rattle.rpc_end.specs.Calls.{pages_left}
use Rattle.rpc_end.proofs.Texts.{at_once, left_so, made_text}
use Rattle.rpc_end.proofs.end.RpcEnd.abort_text.Goals as goal

pub returns : goal.returns
returns c =
    let self = c.args.self.now in
    let n = c.args.n in
    let token = c.in_ok-token.token.now in
    let text = made_text (Unit {0}) c.text_of.result (λ t. t.items) self.terms (following_refusal (found n self.consumer)) c.in-Ok.message (abort_message token) (pages_left n self.consumer) c.in-Ok.ensures (left_so n self.consumer token c.in_ok-token.ensures.token)
    c.in_ok-token.ensures.answer (λ _. tt) c.text_of.ensures.ok c.text_of.ensures.answer c.text_of.ensures.message in
    record { ok = text.ok; answer = text.answer; said = at_once c.text_of.result (pages_left n self.consumer) text.said }
