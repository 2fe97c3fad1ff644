-- A request for a page is a message of the code: its number can be drawn.
use Rattle.std.proofs.Common.{◌≡◌, ◌≤◌, ◌∙◌, ℕ, ap, subst}
use Rattle.wire_base.specs.Options.{or_else}
use Rattle.call_table.specs.Replies.{full_refusal}
use Rattle.enumerables.specs.Consumer.{following_refusal, found}
use Rattle.rpc_items.specs.Arguments.{most_drawn}
use Rattle.rpc_items.specs.Saying.{turn_message}
use Rattle.rpc_end.specs.Calls.{next_number, page_asked}
use Rattle.rpc_end.proofs.Texts.{asked_so, at_once, both_none, drawn_named, made_text}
use Rattle.rpc_end.proofs.end.RpcEnd.turn_text.Goals as goal

pub returns : goal.returns
returns c =
    let self = c.args.self.now in
    let n = c.args.n in
    let number = next_number self in
    let token = c.in_ok-token.token.now in
    let unfollowed = following_refusal (found n self.consumer) in
    let same : c.in-Ok.message ≡ turn_message number token = c.in-Ok.ensures ∙ ap (λ (m : ℕ). turn_message m token) c.in_ok-number.ensures.number in
    let bound : number ≤ most_drawn = subst (λ (m : ℕ). m ≤ most_drawn) c.in_ok-number.ensures.number c.in_ok-number.ensures.bound in
    let text = made_text (Unit {0}) c.text_of.result (λ t. t.items) self.terms (or_else unfollowed (full_refusal self.table)) c.in-Ok.message (turn_message number token) (page_asked n number self.consumer) same (asked_so n number self.consumer token c.in_ok-token.ensures.token)
    (both_none unfollowed (full_refusal self.table) c.in_ok-token.ensures.answer c.in_ok-number.ensures.answer)
    (λ _. drawn_named number bound) c.text_of.ensures.ok c.text_of.ensures.answer c.text_of.ensures.message in
    record { ok = text.ok; answer = text.answer; said = at_once c.text_of.result (page_asked n number self.consumer) text.said }
