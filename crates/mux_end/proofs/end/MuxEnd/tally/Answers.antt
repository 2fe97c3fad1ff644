use Rattle.std.proofs.Common.{sym, ◌∙◌, ap}
use Rattle.mux_state.specs.Book.{Book, found, tally_found}
use Rattle.mux_state.proofs.Books.{tally_by_book}
use Rattle.mux_end.specs.Stands.{EndValue}
use Rattle.mux_end.proofs.end.MuxEnd.tally.Goals as goal

pub returns : goal.returns
returns c = λ items at rest s.
    let book_is = ap (λ (e : EndValue). e.book) c.self.view_is ∙ s.book in
    c.tally.ensures ∙ (ap (λ (b : Book). tally_found (found c.args.key b)) book_is ∙ sym (tally_by_book c.args.self.now.version c.args.key items))
