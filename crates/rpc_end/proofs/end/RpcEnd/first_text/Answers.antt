-- The response that begins a sequence is a message of the code, if its id is one that a value can tell.
use Rattle.std.specs.Prelude.{IfOk, OnOk}
use Rattle.std.proofs.Common.{◌≡◌, ◌+◌, length, subst}
use Rattle.message_body.specs.AsRead.{IsMessage}
use Rattle.message_body.specs.Replies.{Writes}
use Rattle.message_body.specs.Written.{encoder}
use Rattle.rpc_items.specs.declared.messages.Message.{Message}
use Rattle.rpc_items.specs.declared.messages.Message.TheVariants as message
use Rattle.rpc_items.specs.Bodies.{body_refusal}
use Rattle.rpc_items.specs.Told.{HasNamedId}
use Rattle.rpc_items.specs.Saying.{result_of_sequence}
use Rattle.rpc_items.specs.Writing.{message_value}
use Rattle.rpc_end.specs.Texts.{message_text}
use Rattle.rpc_end.proofs.Texts.{message_when, text_so}
use Rattle.rpc_end.proofs.end.RpcEnd.first_text.Goals as goal

pub returns : goal.returns
returns c =
    let self = c.args.self.now in
    let m : Message = message.Result c.args.id.now (result_of_sequence c.args.values.now c.args.first (length self.producer + 1)) in
    record {
      ok = text_so (λ t. t.items) (message_text self.terms m) c.text_of.result (subst (λ (g : Message). IfOk c.text_of.result (λ text. text.items ≡ message_text self.terms g)) c.in-Ok.ensures c.text_of.ensures.ok);
      answer = subst (λ (g : Message). Writes (body_refusal (encoder self.terms.encoding) (message_value g)) c.text_of.result) c.in-Ok.ensures c.text_of.ensures.answer;
      said = message_when c.text_of.result m (λ named. named) (subst (λ (g : Message). OnOk c.text_of.result (HasNamedId g → IsMessage g)) c.in-Ok.ensures c.text_of.ensures.message);
    }
