use Rattle.mux_items.specs.Items.{DidTerminate}
use Rattle.mux_items.specs.Refusals.{terminate_refusal}
use Rattle.endpoint.proofs.Moving.{moves_if}
use Rattle.endpoint.proofs.following.terminate.Goals as goal

pub returns-clause-moves : goal.returns-clause-moves
returns-clause-moves c = λ items at rest s.
    let old = c.args.mux.now in
    moves_if old c.terminate.new.self items at rest (DidTerminate c.args.key) (λ _. Unit {0}) s (terminate_refusal old.version c.args.key items) c.terminate.result c.unless_refused.result (c.terminate.ensures.answers items at rest s) c.unless_refused.ensures
