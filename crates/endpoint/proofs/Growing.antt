-- What the output of an end grows by, one item after the other.
use Rattle.std.proofs.Common.{◌≡◌, ℕ, List, [], ◌∷◌, ◌++◌, refl, sym, ◌∙◌, ap, append_assoc}
use Rattle.std.proofs.lemmas.List.{append-nil}
use Rattle.wire_base.specs.declared.frame.Version.{Version}
use Rattle.mux_items.specs.Bodies.{frame_texts}
use Rattle.mux_items.specs.Due.{due}
use Rattle.mux_items.specs.Items.{Item}
use Rattle.mux_items.proofs.Texts.{frame_texts-append}
use Rattle.endpoint.specs.Replies.{Sends}

pub sends_none : (v : Version) (m : List Item) (output : List ℕ) → Sends v m m output output
sends_none v m output = record { frames = []; sent_are = sym (append-nil _); output = sym (append-nil output) }

pub sends_one : (v : Version) (item : Item) (m : List Item) (old new : List ℕ) → new ≡ old ++ frame_texts v (due v item m) → Sends v m (item ∷ m) old new
sends_one v item m old new e = record { frames = due v item m; sent_are = refl; output = e }

pub sends_more : (v : Version) (m n k : List Item) (old mid new : List ℕ) → Sends v m n old mid → Sends v n k mid new → Sends v m k old new
sends_more v m n k old mid new p q = record {
  frames = p.frames ++ q.frames;
  sent_are = q.sent_are ∙ (ap (λ fs. fs ++ q.frames) p.sent_are ∙ append_assoc _ p.frames q.frames);
  output = q.output ∙ (ap (λ bs. bs ++ frame_texts v q.frames) p.output ∙ (append_assoc old (frame_texts v p.frames) (frame_texts v q.frames) ∙ ap (λ bs. old ++ bs) (sym (frame_texts-append v p.frames q.frames))));
}
