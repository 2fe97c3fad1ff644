use Rattle.std.proofs.Common.{sym, ◌∙◌, ap}
use Rattle.mux_items.specs.Items.{DidWrite}
use Rattle.mux_items.specs.Refusals.{unless_ended, write_refusal}
use Rattle.mux_state.specs.Book.{Book, found, kept_in}
use Rattle.mux_state.specs.Tests.{on_kept, write_test}
use Rattle.mux_state.proofs.Books.{write_by_book}
use Rattle.mux_end.specs.Stands.{EndValue}
use Rattle.mux_end.proofs.Answering.{any_answer, call_answers}
use Rattle.mux_end.proofs.end.MuxEnd.write.Goals as goal

pub returns-clause-answers : goal.returns-clause-answers
returns-clause-answers c = λ items at rest s.
    let old = c.args.self.now in
    let law = write_by_book old.version c.args.key c.args.bytes.now items
    ∙ sym (ap (λ (b : Book). unless_ended b.cause (on_kept (kept_in (found c.args.key b)) (write_test c.args.bytes.now))) (ap (λ (e : EndValue). e.book) c.self.view_is ∙ s.book)) in
    call_answers c.self.inside.nonce c.self.inside.output.items c.call-written.new.out.items c.self.inside.book c.call-written.new.self c.self.inside.reader items at rest (DidWrite c.args.key c.args.bytes.now) _
    c.self.inside.stopped old c.finish.new.self (write_refusal old.version c.args.key c.args.bytes.now items) _ c.call-written.result c.finish.result c.self.view_is c.if-self.false s law (λ none. (none, s.allowed))
    c.call-written.ensures.leaves c.call-written.ensures.output c.call-written.ensures.unwritten (any_answer c.call-written.result) c.finish.ensures.state c.finish.ensures.answer
