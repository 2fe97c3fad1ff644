use Rattle.std.proofs.Common.{sym, ◌∙◌, ap}
use Rattle.mux_items.specs.Items.{DidAccept}
use Rattle.mux_items.specs.Refusals.{unless_ended, accept_refusal}
use Rattle.mux_state.specs.Book.{Book, found, kept_in, windows_in}
use Rattle.mux_state.specs.Tests.{on_kept, accept_test}
use Rattle.mux_state.proofs.Books.{accept_by_book}
use Rattle.mux_end.specs.Stands.{EndValue}
use Rattle.mux_end.proofs.Answering.{any_answer, call_answers}
use Rattle.mux_end.proofs.end.MuxEnd.accept.Goals as goal

pub returns-clause-answers : goal.returns-clause-answers
returns-clause-answers c = λ items at rest s.
    let old = c.args.self.now in
    let law = accept_by_book old.version c.args.key c.args.window items
    ∙ sym (ap (λ (b : Book). unless_ended b.cause (on_kept (kept_in (found c.args.key b)) (accept_test (windows_in b) c.args.window))) (ap (λ (e : EndValue). e.book) c.self.view_is ∙ s.book)) in
    call_answers c.self.inside.nonce c.self.inside.output.items c.accept-accepted.new.out.items c.self.inside.book c.accept-accepted.new.self c.self.inside.reader items at rest (DidAccept c.args.key c.args.window) _
    c.self.inside.stopped old c.finish.new.self (accept_refusal old.version c.args.key c.args.window items) _ c.accept-accepted.result c.finish.result c.self.view_is c.if-self.false s law (λ none. (none, s.allowed))
    c.accept-accepted.ensures.leaves c.accept-accepted.ensures.output c.accept-accepted.ensures.unwritten (any_answer c.accept-accepted.result) c.finish.ensures.state c.finish.ensures.answer
