use Rattle.mux_items.specs.Items.{DidWrite}
use Rattle.mux_items.specs.Refusals.{write_refusal}
use Rattle.endpoint.proofs.Moving.{moves_if}
use Rattle.endpoint.proofs.following.write.Goals as goal

pub returns-clause-moves : goal.returns-clause-moves
returns-clause-moves c = λ items at rest s.
    let old = c.args.mux.now in
    moves_if old c.write.new.self items at rest (DidWrite c.args.key c.args.bytes.now) (λ _. Unit {0}) s (write_refusal old.version c.args.key c.args.bytes.now items) c.write.result c.unless_refused.result (c.write.ensures.answers items at rest s) c.unless_refused.ensures
