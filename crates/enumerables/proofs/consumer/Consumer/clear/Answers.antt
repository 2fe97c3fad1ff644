-- Each sequence is as it is without that page.
use Rattle.std.proofs.Common.{sym, ◌∙◌, ap, arith}
use Rattle.wire_base.proofs.Places.{changes_more}
use Rattle.enumerables.specs.Consumer.{rested}
use Rattle.enumerables.proofs.consumer.Consumer.clear.Goals as goal

pub loop-followed-preserved : goal.loop-followed-preserved
loop-followed-preserved c =
    changes_more (rested c.args.number) c.loop-followed.followed-items c.loop-followed.followed-index c.followed-item.result c.rest.new.self (omega arith) c.followed-item.is (c.rest.ensures ∙ ap (rested c.args.number) (sym c.followed-item.is))
    ∙ c.loop-followed.invariant
