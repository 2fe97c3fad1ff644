use Rattle.std.specs.Prelude.{min, length, OnOk}
use Rattle.std.proofs.Common.{◌≡◌, ◌++◌, take, sym, ◌∙◌, ap, subst}
use Rattle.mux_items.specs.Items.{DidRead}
use Rattle.mux_items.specs.Lists.{unread}
use Rattle.mux_items.specs.Refusals.{read_refusal}
use Rattle.mux_state.specs.Book.{Book, found, kept_in, next_book}
use Rattle.mux_state.specs.Tests.{on_kept, read_test}
use Rattle.mux_state.proofs.Books.{kept_found, read_by_book}
use Rattle.mux_end.specs.Known.{count_found, unread_found}
use Rattle.mux_end.specs.Stands.{EndValue}
use Rattle.mux_end.proofs.Answering.{answer_where, call_answers, count_is, unread_is}
use Rattle.mux_end.proofs.end.MuxEnd.read.Goals as goal

pub returns-clause-answers : goal.returns-clause-answers
returns-clause-answers c = λ items at rest s.
    let old = c.args.self.now in
    let key = c.args.key in
    let max = c.args.max in
    let book = c.self.inside.book in
    let book_is = ap (λ (e : EndValue). e.book) c.self.view_is ∙ s.book in
    let law = read_by_book old.version key items ∙ sym (ap (λ (b : Book). on_kept (kept_in (found key b)) read_test) book_is) in
    let kept = ap (λ (b : Book). kept_in (found key b)) book_is ∙ kept_found old.version key items in
    call_answers c.self.inside.nonce c.self.inside.output.items c.read-moved.new.out.items book c.read-moved.new.self c.self.inside.reader items at rest (DidRead key max) _
    c.self.inside.stopped old c.finish.new.self (read_refusal old.version key items) _ c.read-moved.result c.finish.result c.self.view_is c.if-self.false s law (λ none. (none, s.allowed))
    c.read-moved.ensures.leaves c.read-moved.ensures.output c.read-moved.ensures.unwritten
    (answer_where (on_kept (kept_in (found key book)) read_test) c.read-moved.result (λ n. n ≡ count_found max (found key book)) (λ n. n ≡ min max (length (unread old.version key items))) book (next_book (DidRead key max) book) c.read-moved.new.self c.read-moved.ensures.leaves
    (λ none n e. e ∙ count_is max old.version key items (found key book) kept none) c.read-moved.ensures.count)
    c.finish.ensures.state c.finish.ensures.answer

pub returns-clause-bytes : goal.returns-clause-bytes
returns-clause-bytes c = λ items at rest s.
    let old = c.args.self.now in
    let key = c.args.key in
    let max = c.args.max in
    let book = c.self.inside.book in
    let book_is = ap (λ (e : EndValue). e.book) c.self.view_is ∙ s.book in
    let kept = ap (λ (b : Book). kept_in (found key b)) book_is ∙ kept_found old.version key items in
    subst (λ r. OnOk r (c.read-moved.new.into.items ≡ c.args.out.now.items ++ take max (unread old.version key items))) (sym c.finish.ensures.answer)
    (answer_where (on_kept (kept_in (found key book)) read_test) c.read-moved.result (λ _. c.read-moved.new.into.items ≡ c.args.out.now.items ++ take max (unread_found (found key book)))
    (λ _. c.read-moved.new.into.items ≡ c.args.out.now.items ++ take max (unread old.version key items)) book (next_book (DidRead key max) book) c.read-moved.new.self c.read-moved.ensures.leaves
    (λ none n e. e ∙ ap (λ bytes. c.args.out.now.items ++ take max bytes) (unread_is old.version key items (found key book) kept none)) c.read-moved.ensures.bytes)
