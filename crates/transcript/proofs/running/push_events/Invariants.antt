use Rattle.std.specs.List.{flat_map}
use Rattle.std.proofs.Common.{◌≡◌, ◌++◌, drop}
use Rattle.transcript.specs.Words.{event_line}
use Rattle.transcript.proofs.running.push_events.Given as goal

abbrev pub invariant-loop-event : goal.invariant-loop-event
invariant-loop-event l = l.out.items ++ flat_map (event_line l.side) (drop l.event-index l.events) ≡ l.fn.out.items ++ flat_map (event_line l.side) l.events
