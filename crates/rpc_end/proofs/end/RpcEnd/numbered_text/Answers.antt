-- A request is a message of the code: its number can be drawn.
use Rattle.std.specs.Prelude.{None}
use Rattle.std.proofs.Common.{◌≡◌, ◌≤◌, ◌∙◌, ℕ, ap, length, refl, subst}
use Rattle.rpc_items.specs.declared.messages.Message.TheVariants.{Request}
use Rattle.rpc_items.specs.Arguments.{most_drawn}
use Rattle.rpc_items.specs.Ids.{numbered_id}
use Rattle.rpc_items.specs.Saying.{params_of}
use Rattle.rpc_end.specs.Calls.{next_number, next_request}
use Rattle.rpc_end.specs.Stands.{RpcValue}
use Rattle.rpc_end.proofs.Texts.{at_once, drawn_named, made_text}
use Rattle.rpc_end.proofs.end.RpcEnd.numbered_text.Goals as goal

pub returns : goal.returns
returns c =
    let self = c.args.self.now in
    let method = c.args.method.now in
    let args = c.args.args.now in
    let n = next_number self in
    let handles : c.drawn-handles.result ≡ length self.owner = c.drawn-handles.ensures.value ∙ ap (λ (e : RpcValue). length e.owner) c.self.view_is in
    let same : c.in-Ok.message ≡ Request (numbered_id n) method (params_of n (length self.owner) args) =
    c.in-Ok.ensures ∙ (λ i. Request (numbered_id (c.requires.number i)) method (params_of (c.requires.number i) (handles i) args)) in
    let bound : n ≤ most_drawn = subst (λ (m : ℕ). m ≤ most_drawn) c.requires.number c.requires.bound in
    let text = made_text (Unit {0}) c.text_of.result (λ t. t.items) self.terms None c.in-Ok.message (Request (numbered_id n) method (params_of n (length self.owner) args)) (next_request method args self) same refl refl
    (λ _. drawn_named n bound) c.text_of.ensures.ok c.text_of.ensures.answer c.text_of.ensures.message in
    record { ok = text.ok; answer = text.answer; said = at_once c.text_of.result (next_request method args self) text.said }
