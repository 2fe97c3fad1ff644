use Rattle.std.specs.List.{flat_map}
use Rattle.std.proofs.Common.{◌≡◌, ◌≤◌, take}
use Rattle.std.specs.Io.KnownBytes.{append_known}
use Rattle.muxrpc_app.proofs.standard_error.write_texts.Given as goal

abbrev pub invariant-loop-text : goal.invariant-loop-text
invariant-loop-text g l = record {
  written : g.K.Sink.given l.sink ≡ append_known (g.K.Sink.given l.fn.sink) (flat_map (λ t. t.now) (take l.text-index l.texts));
  later : g.K.Sink.faults l.fn.sink ≤ g.K.Sink.faults l.sink;
}
