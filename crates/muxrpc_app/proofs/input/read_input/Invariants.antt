use Rattle.std.proofs.Common.{◌≤◌, ◌+◌, ◌-◌, length}
use Rattle.muxrpc_app.specs.Streams.{WasRead, most_input}
use Rattle.muxrpc_app.proofs.input.read_input.Given as goal

abbrev pub invariant-reading : goal.invariant-reading
invariant-reading g l = record {
  read : WasRead (g.S.Source.held l.fn.source) (g.S.Source.held l.source) l.bytes.items;
  within : length l.bytes.items ≤ most_input;
  later : g.S.Source.faults l.fn.source ≤ g.S.Source.faults l.source;
}

abbrev pub decreases-reading : goal.decreases-reading
decreases-reading g l = most_input + 1 - length l.bytes.items
