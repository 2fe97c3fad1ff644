use Rattle.std.proofs.Common.{◌≡◌, drop}
use Rattle.mux_state.specs.Book.{find}
use Rattle.mux_end.proofs.channels.Channels.get.Given as goal

abbrev pub invariant-loop-known : goal.invariant-loop-known
invariant-loop-known l = find l.key (drop l.known-index l.known-items) ≡ find l.key l.known-items
