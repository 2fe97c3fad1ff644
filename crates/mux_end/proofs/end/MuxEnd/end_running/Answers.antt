use Rattle.mux_end.proofs.Answering.{ends_by}
use Rattle.mux_end.proofs.end.MuxEnd.end_running.Goals as goal

pub returns-then-is_running-clause-answers : goal.returns-then-is_running-clause-answers
returns-then-is_running-clause-answers c = λ items at rest s. ends_by c.args.self.now c.end.new.self items at rest c.args.cause s (c.is_running.ensures.0 c.if-is_running.true) c.end.ensures
