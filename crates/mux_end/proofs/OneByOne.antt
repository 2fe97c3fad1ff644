-- Frames go one after the other.
use Rattle.std.specs.Prelude.{ℕ, List, ◌++◌}
use Rattle.std.proofs.Common.{◌≡◌, sym, ◌∙◌, ap, append_assoc}
use Rattle.wire_base.specs.declared.frame.Version.{Version}
use Rattle.mux_items.specs.declared.channel.ChannelKey.{ChannelKey}
use Rattle.mux_items.specs.Bodies.{frame_texts}
use Rattle.mux_items.proofs.Texts.{frame_texts-append}
use Rattle.mux_state.specs.State.{ChannelState}
use Rattle.mux_state.specs.Next.{frames_due}
use Rattle.mux_state.specs.Emitting.{due_of, sent_frames, sent_state}
use Rattle.mux_state.proofs.Emits.{sends_one}

-- one more frame was sent
pub output_goes_on : (v : Version) (c : ChannelKey) (s next : ChannelState) (out after whole : List ℕ) → next ≡ sent_state (due_of s) s → after ≡ out ++ frame_texts v (sent_frames c (due_of s) s)
    → out ++ frame_texts v (frames_due c s) ≡ whole → after ++ frame_texts v (frames_due c next) ≡ whole
output_goes_on v c s next out after whole is wrote before =
    let frames : frames_due c s ≡ sent_frames c (due_of s) s ++ frames_due c (sent_state (due_of s) s) = (sends_one c s).frames in
    ap (λ bytes. bytes ++ frame_texts v (frames_due c next)) wrote
    ∙ (append_assoc out _ _
    ∙ (ap (λ n. out ++ (frame_texts v (sent_frames c (due_of s) s) ++ frame_texts v (frames_due c n))) is
    ∙ (ap (λ bytes. out ++ bytes) (sym (frame_texts-append v (sent_frames c (due_of s) s) (frames_due c (sent_state (due_of s) s))))
    ∙ (ap (λ fs. out ++ frame_texts v fs) (sym frames) ∙ before))))
