-- Each sequence is ended.
use Rattle.std.proofs.Common.{sym, ◌∙◌, ap, arith}
use Rattle.wire_base.proofs.Places.{changes_more}
use Rattle.enumerables.specs.Producer.{ending}
use Rattle.enumerables.proofs.producer.Producer.end_each.Goals as goal

pub loop-sequence-preserved : goal.loop-sequence-preserved
loop-sequence-preserved c =
    changes_more ending c.loop-sequence.sequence-items c.loop-sequence.sequence-index c.sequence-item.result c.end.new.self (omega arith) c.sequence-item.is (c.end.ensures ∙ ap ending (sym c.sequence-item.is))
    ∙ c.loop-sequence.invariant
