-- Each sequence is as it is with that page asked for.
use Rattle.std.proofs.Common.{sym, ◌∙◌, ap, arith}
use Rattle.wire_base.proofs.Places.{changes_more}
use Rattle.enumerables.specs.Consumer.{asking}
use Rattle.enumerables.proofs.consumer.Consumer.ask.Goals as goal

pub loop-followed-preserved : goal.loop-followed-preserved
loop-followed-preserved c =
    changes_more (asking c.args.n c.args.number) c.loop-followed.followed-items c.loop-followed.followed-index c.followed-item.result c.ask.new.self (omega arith) c.followed-item.is (c.ask.ensures ∙ ap (asking c.args.n c.args.number) (sym c.followed-item.is))
    ∙ c.loop-followed.invariant
