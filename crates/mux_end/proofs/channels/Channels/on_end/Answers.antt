use Rattle.std.proofs.Common.{sym, ◌∙◌, ap, arith}
use Rattle.wire_base.proofs.Places.{changes_more}
use Rattle.mux_state.specs.Book.{changed_entry}
use Rattle.mux_state.specs.Next.{ended_state}
use Rattle.mux_end.proofs.channels.Channels.on_end.Goals as goal

pub loop-known-preserved : goal.loop-known-preserved
loop-known-preserved c =
    changes_more (changed_entry ended_state) c.loop-known.known-items c.loop-known.known-index c.known-item.result c.on_end.new.self (omega arith) c.known-item.is (c.on_end.ensures ∙ ap (changed_entry ended_state) (sym c.known-item.is))
    ∙ c.loop-known.invariant
