use Rattle.std.proofs.Common.{◌≡◌, ◌≤◌, ◌-◌, length, take}
use Rattle.std.specs.Io.KnownBytes.{append_known}
use Rattle.muxrpc_app.proofs.output.write_bytes.Given as goal

abbrev pub invariant-writing : goal.invariant-writing
invariant-writing g l = record {
  written : g.K.Sink.given l.sink ≡ append_known (g.K.Sink.given l.fn.sink) (take l.at l.bytes);
  later : g.K.Sink.faults l.fn.sink ≤ g.K.Sink.faults l.sink;
  within : l.at ≤ length l.bytes;
}

abbrev pub decreases-writing : goal.decreases-writing
decreases-writing g l = length l.bytes - l.at
