-- The handshake and the next whole frame are reached by a delivery of just their bytes.
use Rattle.std.specs.Prelude.{suc, true, false}
use Rattle.std.proofs.Common.{◌≡◌, ℕ, ◌+◌, ◌-◌, ◌≤◌, List, [], ◌∷◌, ◌++◌, length, take, drop, map, refl, sym, ◌∙◌, ap, subst, arith, length-append, length-drop, Some, None}
use Rattle.std.proofs.lemmas.List.{length-map, take_at, take-append-drop}
use Rattle.wire_base.specs.declared.frame.Version.{Version}
use Rattle.mux_items.specs.Bodies.{ChannelFrame, flip, frame_text, frame_texts}
use Rattle.mux_items.specs.Items.{Item, is_running}
use Rattle.mux_items.specs.Due.{sent, got}
use Rattle.mux_items.specs.Limits.{most_bytes}
use Rattle.mux_items.specs.Refusals.{is_ready, frame_refusal}
use Rattle.mux_items.specs.Applying.{apply_frame, after_frame}
use Rattle.mux_items.proofs.Texts.{frame_texts-append}
use Rattle.mux_run.specs.Between.{ahead}
use Rattle.mux_run.specs.Run.{RunSide, SideTerms, greeting_size, whole_frames, next_frames, place_after, greet}
use Rattle.mux_run.specs.Spending.{Makes}
use Rattle.mux_run.specs.declared.steps.Side.{Side}
use Rattle.mux_run.specs.declared.steps.Step.TheVariants as step
use Rattle.mux_run.proofs.WholeFrames.{frame_text_not_empty, whole_fits, take_whole}
use Rattle.mux_run.proofs.Growing.{next_front}
use Rattle.endpoint_run.specs.Next.{item_by_refusal, frame_item}
use Rattle.endpoint_run.proofs.Boundary.{run_side, AtBoundary, at_ready}
use Rattle.endpoint_run.proofs.Delivering.{frame_fine, frame_boundary, greet_fine, greet_boundary}
use Rattle.endpoint_run.proofs.Reaching.{Reach}

-- what a frame is to its end

pub frame_item_is : (v : Version) (place : ℕ) (f : ChannelFrame) (m : List Item) → apply_frame v place (flip f).key f.body m ≡ frame_item v place f m ∷ m
frame_item_is v place f m = elim (frame_refusal v (flip f).key f.body m) as (λ r. after_frame v place (flip f).key f.body m r ≡ item_by_refusal v place (flip f).key f.body m r ∷ m) [
  | None ↦ refl
  | Some reason ↦ refl
]

-- the next whole frame of the bytes that were given is the first of those ahead, and lies in these bytes
pub record IsNext (w : SideTerms) (given : ℕ) (m : List Item) (n : RunSide) (f : ChannelFrame) : Type 0 where
  pub later : List ChannelFrame
  pub sends : sent w.version n.items ≡ map flip (got m) ++ f ∷ later
  pub within : greeting_size w + length (frame_texts w.version (map flip (got m))) + length (frame_text w.version f) ≤ given

pub next_is : (w : SideTerms) (given : ℕ) (m : List Item) (n : RunSide) (ahead : List ChannelFrame) (f : ChannelFrame) (fs : List ChannelFrame) → sent w.version n.items ≡ map flip (got m) ++ ahead
    → next_frames w given (length (got m)) n ≡ f ∷ fs → IsNext w given m n f
next_is w given m n ahead f fs sends next =
    let gs = map flip (got m) in
    let room = given - greeting_size w in
    let frames = sent w.version n.items in
    let whole = whole_frames w.version room frames in
    let front = next_front w given m n ahead sends in
    let first : ahead ≡ f ∷ (fs ++ front.0) = sym front.1 ∙ ap (λ gs. gs ++ front.0) next in
    let count : length whole - length (got m) ≡ suc (length fs) = sym (length-drop (length (got m)) whole) ∙ ap length next in
    let taken : take (length (got m)) whole ≡ gs =
    sym (take_whole w.version room (length (got m)) frames (omega arith)) ∙ (ap (take (length (got m))) sends ∙ take_at gs ahead (length (got m)) (length-map (got m) flip)) in
    let all : whole ≡ gs ++ f ∷ fs = sym (take-append-drop (length (got m)) whole) ∙ (ap (λ hs. hs ++ drop (length (got m)) whole) taken ∙ ap (λ hs. gs ++ hs) next) in
    let texts_are : frame_texts w.version whole ≡ frame_texts w.version gs ++ (frame_text w.version f ++ frame_texts w.version fs) = ap (frame_texts w.version) all ∙ frame_texts-append w.version gs (f ∷ fs) in
    record {
      later = fs ++ front.0;
      sends = sends ∙ ap (λ hs. gs ++ hs) first;
      within = omega (
        arith,
        whole_fits w.version room frames,
        frame_text_not_empty w.version f,
        ap length texts_are,
        length-append (frame_texts w.version gs) (frame_text w.version f ++ frame_texts w.version fs),
        length-append (frame_text w.version f) (frame_texts w.version fs),
      );
    }

-- the next item of the peer

pub reach_frame : (side : Side) (w : SideTerms) (n : RunSide) (m : List Item) (given : ℕ) (f : ChannelFrame) (fs : List ChannelFrame) → given ≤ most_bytes → is_running m ≡ true → is_ready w.version m ≡ true
    → next_frames w given (length (got m)) n ≡ f ∷ fs → Reach side w n m (frame_item w.version (place_after w (length (got m)) n) f m ∷ m)
reach_frame side w n m given f fs most runs ready next d j b =
    let place = place_after w (length (got m)) n in
    let size = length (frame_text w.version f) in
    let is = next_is w given m n (ahead w.version m n.items) f fs j.into.applied next in
    let at = at_ready w m d b runs ready in
    let after_is = frame_item_is w.version place f m in
    record {
      steps = Makes (step.Deliver side size) ∷ [];
      at_side = (refl, tt);
      given = d + size;
      reaches = frame_fine w side m d n f is.later b runs ready is.sends (omega (arith, is.within)) ∙ ap (λ ms. run_side ms (d + size)) after_is;
      boundary = subst (λ ms. AtBoundary w ms (d + size)) after_is (frame_boundary w place m d f b runs ready);
    }

pub reach_greet : (side : Side) (w : SideTerms) (n : RunSide) (m : List Item) (given : ℕ) → given ≤ most_bytes → greeting_size w ≤ given → is_running m ≡ true → is_ready w.version m ≡ false
    → Reach side w n m (greet w ∷ m)
reach_greet side w n m given most within runs unready d j b = record {
  steps = Makes (step.Deliver side (greeting_size w)) ∷ [];
  at_side = (refl, tt);
  given = greeting_size w;
  reaches = greet_fine w side m d n b runs unready (omega arith);
  boundary = greet_boundary w m d b runs unready;
}
