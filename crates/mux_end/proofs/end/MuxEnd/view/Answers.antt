use Rattle.std.proofs.Common.{sym, ◌∙◌, ap}
use Rattle.mux_state.specs.Book.{Book, found, kept_in}
use Rattle.mux_state.specs.Tests.{view_on}
use Rattle.mux_state.proofs.Books.{view_by_book}
use Rattle.mux_end.specs.Stands.{EndValue}
use Rattle.mux_end.proofs.end.MuxEnd.view.Goals as goal

pub returns : goal.returns
returns c = λ items at rest s.
    let book_is = ap (λ (e : EndValue). e.book) c.self.view_is ∙ s.book in
    c.view.ensures ∙ (ap (λ (b : Book). view_on (kept_in (found c.args.key b))) book_is ∙ sym (view_by_book c.args.self.now.version c.args.key items))
