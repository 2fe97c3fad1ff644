use Rattle.std.proofs.Common.{sym, ◌∙◌, ap}
use Rattle.std.specs.Prelude.{slice_get}
use Rattle.mux_state.specs.Book.{Book, known_in}
use Rattle.mux_state.proofs.Books.{known_by_book}
use Rattle.mux_end.specs.Stands.{EndValue}
use Rattle.mux_end.proofs.end.MuxEnd.known.Goals as goal

pub returns : goal.returns
returns c = λ items at rest s.
    let book_is = ap (λ (e : EndValue). e.book) c.self.view_is ∙ s.book in
    c.known.ensures ∙ (ap (λ (b : Book). slice_get (known_in b) c.args.i) book_is ∙ ap (λ keys. slice_get keys c.args.i) (sym (known_by_book c.args.self.now.version items)))
