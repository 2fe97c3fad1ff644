use Rattle.endpoint.proofs.Moving.{complete_moves}
use Rattle.endpoint.proofs.following.complete.Goals as goal

pub returns-clause-moves : goal.returns-clause-moves
returns-clause-moves c = λ items at rest s.
    complete_moves c.args.mux.now c.complete.new.self c.args.key items at rest (λ _. Unit {0}) c.complete.result c.unless_refused.result s (c.complete.ensures.answers items at rest s) c.unless_refused.ensures
