use Rattle.std.proofs.Common.{sym, ◌∙◌}
use Rattle.mux_end.proofs.Answering.{spends}
use Rattle.mux_end.proofs.end.MuxEnd.feed.Goals as goal

pub returns-then-would_be_spent-clause-answers : goal.returns-then-would_be_spent-clause-answers
returns-then-would_be_spent-clause-answers c = λ items at rest s. spends c.args.self.now c.end.new.self items at rest c.args.piece.now s (c.is_running.ensures.0 c.if-not-is_running.false) (sym c.would_be_spent.ensures ∙ c.if-would_be_spent.true) c.end.ensures
