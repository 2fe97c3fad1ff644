use Rattle.std.proofs.Common.{◌≡◌, ◌++◌}
use Rattle.mux_items.specs.Bodies.{frame_texts}
use Rattle.mux_state.specs.Next.{frames_due, settled}
use Rattle.mux_state.specs.Emitting.{left_to_send}
use Rattle.mux_end.proofs.emission.emit_due.Given as goal

abbrev pub invariant-frames : goal.invariant-frames
invariant-frames l = record {
  state : settled l.channel ≡ settled l.fn.channel;
  output : l.out.items ++ frame_texts l.version (frames_due l.key l.channel) ≡ l.fn.out.items ++ frame_texts l.version (frames_due l.key l.fn.channel);
  one_version : l.channel.version ≡ l.fn.channel.version;
}

abbrev pub decreases-frames : goal.decreases-frames
decreases-frames l = left_to_send l.channel
