-- A response that is an object is a message of the code, if its id is one that a value can tell.
use Rattle.std.proofs.Common.{[], ◌∷◌, ◌∙◌, ℕ, ap, refl}
use Rattle.rpc_items.specs.declared.calls.Answer.TheVariants as answer
use Rattle.rpc_items.specs.declared.calls.Lifetime.TheVariants.{Explicit}
use Rattle.rpc_items.specs.declared.messages.Message.TheVariants as message
use Rattle.rpc_items.specs.Fitting.{IsNamed}
use Rattle.rpc_items.specs.Objects.{object_value}
use Rattle.rpc_end.specs.Calls.{responding_refusal, response_by}
use Rattle.rpc_end.proofs.Texts.{made_text}
use Rattle.rpc_end.proofs.end.RpcEnd.object_text.Goals as goal

pub returns : goal.returns
returns c =
    let self = c.args.self.now in
    let id = c.args.id.now in
    let given = answer.Object c.args.object in
    let m = response_by id given self in
    let text = made_text (IsNamed id) c.text_of.result (λ t. t.items) self.terms (responding_refusal id given self) c.in-Ok.message m (m ∷ [])
    (c.in-Ok.ensures ∙ ap (λ (handle : ℕ). message.Result id (object_value handle Explicit)) c.in_ok-handle.ensures.handle) refl
    c.in_ok-handle.ensures.answer (λ named. named) c.text_of.ensures.ok c.text_of.ensures.answer c.text_of.ensures.message in
    record { ok = text.ok; answer = text.answer; said = text.said }
