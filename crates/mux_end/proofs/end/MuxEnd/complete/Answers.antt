use Rattle.std.proofs.Common.{sym, ◌∙◌, ap}
use Rattle.mux_items.specs.Items.{DidComplete}
use Rattle.mux_items.specs.Refusals.{unless_ended, complete_refusal}
use Rattle.mux_state.specs.Book.{Book, found, kept_in}
use Rattle.mux_state.specs.Tests.{on_kept, writing_test}
use Rattle.mux_state.proofs.Books.{complete_by_book}
use Rattle.mux_end.specs.Stands.{EndValue}
use Rattle.mux_end.proofs.Answering.{any_answer, call_answers}
use Rattle.mux_end.proofs.end.MuxEnd.complete.Goals as goal

pub returns-clause-answers : goal.returns-clause-answers
returns-clause-answers c = λ items at rest s.
    let old = c.args.self.now in
    let law = complete_by_book old.version c.args.key items
    ∙ sym (ap (λ (b : Book). unless_ended b.cause (on_kept (kept_in (found c.args.key b)) writing_test)) (ap (λ (e : EndValue). e.book) c.self.view_is ∙ s.book)) in
    call_answers c.self.inside.nonce c.self.inside.output.items c.call-completed.new.out.items c.self.inside.book c.call-completed.new.self c.self.inside.reader items at rest (DidComplete c.args.key) _
    c.self.inside.stopped old c.finish.new.self (complete_refusal old.version c.args.key items) _ c.call-completed.result c.finish.result c.self.view_is c.if-self.false s law (λ none. (none, s.allowed))
    c.call-completed.ensures.leaves c.call-completed.ensures.output c.call-completed.ensures.unwritten (any_answer c.call-completed.result) c.finish.ensures.state c.finish.ensures.answer
