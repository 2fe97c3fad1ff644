use Rattle.std.proofs.Common.{sym, ◌∙◌, ap}
use Rattle.mux_items.specs.Items.{DidTerminate}
use Rattle.mux_items.specs.Refusals.{unless_ended, terminate_refusal}
use Rattle.mux_state.specs.Book.{Book, found, kept_in}
use Rattle.mux_state.specs.Tests.{on_kept, open_test}
use Rattle.mux_state.proofs.Books.{terminate_by_book}
use Rattle.mux_end.specs.Stands.{EndValue}
use Rattle.mux_end.proofs.Answering.{any_answer, call_answers}
use Rattle.mux_end.proofs.end.MuxEnd.terminate.Goals as goal

pub returns-clause-answers : goal.returns-clause-answers
returns-clause-answers c = λ items at rest s.
    let old = c.args.self.now in
    let law = terminate_by_book old.version c.args.key items
    ∙ sym (ap (λ (b : Book). unless_ended b.cause (on_kept (kept_in (found c.args.key b)) open_test)) (ap (λ (e : EndValue). e.book) c.self.view_is ∙ s.book)) in
    call_answers c.self.inside.nonce c.self.inside.output.items c.call-terminated.new.out.items c.self.inside.book c.call-terminated.new.self c.self.inside.reader items at rest (DidTerminate c.args.key) _
    c.self.inside.stopped old c.finish.new.self (terminate_refusal old.version c.args.key items) _ c.call-terminated.result c.finish.result c.self.view_is c.if-self.false s law (λ none. (none, s.allowed))
    c.call-terminated.ensures.leaves c.call-terminated.ensures.output c.call-terminated.ensures.unwritten (any_answer c.call-terminated.result) c.finish.ensures.state c.finish.ensures.answer
