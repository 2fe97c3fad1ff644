use Rattle.std.specs.Prelude.{length, min}
use Rattle.std.proofs.Common.{◌≡◌, arith, ◌++◌, take, subst, ◌∙◌, ap}
use Rattle.std.proofs.lemmas.List.{take_all}
use Rattle.mux_items.proofs.Permits.{read_permits}
use Rattle.std.proofs.lemmas.Result.{err_from_is_err_and}
use Rattle.mux_items.specs.Calls.{called}
use Rattle.mux_items.specs.Items.{DidRead}
use Rattle.mux_items.specs.Lists.{unread}
use Rattle.mux_items.specs.Refusals.{read_refusal}
use Rattle.endpoint_items.specs.Following.{read_all}
use Rattle.endpoint.specs.Changes.{MovesIf}
use Rattle.endpoint.proofs.Moving.{all_read, read_moves}
use Rattle.endpoint.proofs.following.read_all.Goals as goal

pub returns-in_err-unless_refused-clause-moves : goal.returns-in_err-unless_refused-clause-moves
returns-in_err-unless_refused-clause-moves c = λ items at rest s.
    let old = c.args.mux.now in
    let total = length (unread old.version c.args.key items) in
    let p = err_from_is_err_and c.from_residual.result c.from_residual.ensures.1 in
    rw p.1
    (subst (λ (r : _). MovesIf old c.read.new.self items (called old.version (read_all old.version c.args.key items) items) at rest r) c.in_err-unless_refused.was
    (read_moves old c.read.new.self c.args.key c.unread_count-count.result total items at rest (λ n. n ≡ min c.unread_count-count.result total) c.read.result c.unless_refused.result s
    (c.unread_count-count.ensures items at rest s) (c.read.ensures.answers items at rest s) c.unless_refused.ensures))

pub returns-clause-moves : goal.returns-clause-moves
returns-clause-moves c = λ items at rest s.
    let old = c.args.mux.now in
    let total = length (unread old.version c.args.key items) in
    subst (λ (r : _). MovesIf old c.read.new.self items (called old.version (read_all old.version c.args.key items) items) at rest r) c.in_ok-unless_refused.was
    (read_moves old c.read.new.self c.args.key c.unread_count-count.result total items at rest (λ n. n ≡ min c.unread_count-count.result total) c.read.result c.unless_refused.result s
    (c.unread_count-count.ensures items at rest s) (c.read.ensures.answers items at rest s) c.unless_refused.ensures)

pub returns-clause-bytes : goal.returns-clause-bytes
returns-clause-bytes c = λ items at rest s none.
    let old = c.args.mux.now in
    let bytes = unread old.version c.args.key items in
    let count = c.unread_count-count.result in
    all_read (read_refusal old.version c.args.key items) old c.read.new.self items at rest (DidRead c.args.key count) (λ n. n ≡ min count (length bytes)) c.read.result c.unless_refused.result c.in_ok-unless_refused.field-0
    (c.read.new.out.items ≡ c.new-piece.result.items ++ take count bytes) none (c.read.ensures.answers items at rest s) c.unless_refused.ensures c.in_ok-unless_refused.was (c.read.ensures.bytes items at rest s)
    ∙ (ap (λ front. front ++ take count bytes) c.new-piece.ensures.items
    ∙ (ap (λ n. take n bytes) (c.unread_count-count.ensures items at rest s (read_permits old.version c.args.key items none)) ∙ take_all (length bytes) bytes (omega arith)))
