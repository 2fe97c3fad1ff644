-- The bytes of several frames.
use Rattle.std.specs.Prelude.{List, [], ◌∷◌, ◌++◌}
use Rattle.std.proofs.Common.{◌≡◌, refl, sym, ◌∙◌, ap, append_assoc}
use Rattle.wire_base.specs.declared.frame.Version.{Version}
use Rattle.mux_items.specs.Bodies.{ChannelFrame, frame_text, frame_texts}

pub frame_texts-append : (v : Version) (fs gs : List ChannelFrame) → frame_texts v (fs ++ gs) ≡ frame_texts v fs ++ frame_texts v gs
frame_texts-append v [] gs = refl
frame_texts-append v (f ∷ fs) gs = ap (λ bs. frame_text v f ++ bs) (frame_texts-append v fs gs) ∙ sym (append_assoc (frame_text v f) (frame_texts v fs) (frame_texts v gs))
