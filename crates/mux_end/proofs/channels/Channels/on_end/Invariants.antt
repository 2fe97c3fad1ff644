use Rattle.std.proofs.Common.{◌≡◌, ◌++◌, take, drop, map}
use Rattle.mux_state.specs.Book.{changed_entry}
use Rattle.mux_state.specs.Next.{ended_state}
use Rattle.mux_end.proofs.channels.Channels.on_end.Given as goal

abbrev pub invariant-loop-known : goal.invariant-loop-known
invariant-loop-known l = take l.known-index l.known-items ++ map (changed_entry ended_state) (drop l.known-index l.known-items) ≡ map (changed_entry ended_state) l.fn.self
