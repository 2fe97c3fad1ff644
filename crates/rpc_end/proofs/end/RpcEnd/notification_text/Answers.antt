-- A notification is a message of the code: it has no id.
use Rattle.std.proofs.Common.{◌≡◌, ◌∙◌, ap, length, refl}
use Rattle.rpc_items.specs.declared.messages.Message.TheVariants.{Notification}
use Rattle.rpc_items.specs.Saying.{params_of}
use Rattle.rpc_end.specs.Calls.{next_notification, told_refusal}
use Rattle.rpc_end.specs.Stands.{RpcValue}
use Rattle.rpc_end.proofs.Texts.{at_once, made_text}
use Rattle.rpc_end.proofs.end.RpcEnd.notification_text.Goals as goal

pub returns : goal.returns
returns c =
    let self = c.args.self.now in
    let method = c.args.method.now in
    let args = c.args.args.now in
    let handles : c.drawn-handles.result ≡ length self.owner = c.drawn-handles.ensures.value ∙ ap (λ (e : RpcValue). length e.owner) c.self.view_is in
    let same : c.in-Ok.message ≡ Notification method (params_of 0 (length self.owner) args) = c.in-Ok.ensures ∙ (λ i. Notification method (params_of 0 (handles i) args)) in
    let text = made_text (Unit {0}) c.text_of.result (λ t. t.items) self.terms (told_refusal method args self) c.in-Ok.message (Notification method (params_of 0 (length self.owner) args)) (next_notification method args self) same refl
    c.in_ok-check_notification.ensures.answer (λ _. tt) c.text_of.ensures.ok c.text_of.ensures.answer c.text_of.ensures.message in
    record { ok = text.ok; answer = text.answer; said = at_once c.text_of.result (next_notification method args self) text.said }
