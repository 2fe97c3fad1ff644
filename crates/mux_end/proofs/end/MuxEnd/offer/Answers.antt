use Rattle.std.proofs.Common.{◌≡◌, sym, ◌∙◌, ap, subst}
use Rattle.mux_items.specs.declared.channel.ChannelKey.{ChannelKey}
use Rattle.mux_items.specs.Items.{DidOffer}
use Rattle.mux_items.specs.Kept.{next_key}
use Rattle.mux_items.specs.Refusals.{offer_refusal}
use Rattle.mux_state.specs.Book.{Book, drawn_key, offer_test}
use Rattle.mux_state.proofs.Books.{drawn_is, offer_by_book}
use Rattle.mux_end.specs.Replies.{CallAnswers}
use Rattle.mux_end.specs.Stands.{EndValue}
use Rattle.mux_end.proofs.Answering.{call_answers}
use Rattle.mux_end.proofs.end.MuxEnd.offer.Goals as goal

pub returns-clause-answers : goal.returns-clause-answers
returns-clause-answers c = λ items at rest s.
    let old = c.args.self.now in
    let name = c.args.name.now in
    let window = c.args.window in
    let refused = offer_refusal old.version name window items in
    let book_is = ap (λ (e : EndValue). e.book) c.self.view_is ∙ s.book in
    let drawn : drawn_key c.self.inside.book ≡ next_key items = ap (λ (b : Book). drawn_key b) book_is ∙ sym (drawn_is old.version items s.allowed) in
    let law = offer_by_book old.version name window items s.allowed ∙ sym (ap (λ (b : Book). offer_test name window b) book_is) in
    subst (λ (key : ChannelKey). CallAnswers old c.finish.new.self items at rest refused (DidOffer key name window) (λ answer. answer ≡ key) c.finish.result) drawn
    (call_answers c.self.inside.nonce c.self.inside.output.items c.offer-offered.new.out.items c.self.inside.book c.offer-offered.new.self c.self.inside.reader items at rest (DidOffer (drawn_key c.self.inside.book) name window) _
    c.self.inside.stopped old c.finish.new.self refused _ c.offer-offered.result c.finish.result c.self.view_is c.if-self.false s law (λ none. (none, drawn, s.allowed))
    c.offer-offered.ensures.leaves c.offer-offered.ensures.output c.offer-offered.ensures.unwritten c.offer-offered.ensures.key c.finish.ensures.state c.finish.ensures.answer)
