use Rattle.std.proofs.Common.{sym, ◌∙◌}
use Rattle.mux_items.specs.Kept.{is_kept}
use Rattle.endpoint.proofs.Moving.{shown_unread, shown_where_kept}
use Rattle.endpoint.proofs.following.unread_count.Goals as goal

pub returns-in-Some : goal.returns-in-Some
returns-in-Some c = λ items at rest s kept. shown_unread (is_kept c.args.mux.now.version c.args.key items) c.in-Some.view _ (sym c.in-Some.is ∙ c.view.ensures items at rest s) kept

pub returns-in-None : goal.returns-in-None
returns-in-None c = λ items at rest s kept. absurd (shown_where_kept (is_kept c.args.mux.now.version c.args.key items) _ (sym c.in-None.is ∙ c.view.ensures items at rest s) kept)
