-- The bytes that a side was given, by its peer's handshake and whole frames.
use Rattle.std.specs.Prelude.{suc}
use Rattle.std.proofs.Common.{◌≡◌, ℕ, ◌+◌, ◌-◌, ◌≤◌, List, [], ◌∷◌, ◌++◌, length, take, drop, refl, sym, ◌∙◌, ap, subst, arith, length-append, length-drop, add-one}
use Rattle.std.proofs.lemmas.List.{append-nil, drop_at, drop-drop, take-append-le}
use Rattle.frame_text.specs.Hello.{hello}
use Rattle.mux_items.specs.Bodies.{ChannelFrame, frame_text, frame_texts}
use Rattle.mux_items.specs.Due.{sent}
use Rattle.mux_run.specs.Run.{RunSide, SideTerms, out, greeting_size, whole_frames, next_frames, place_after}
use Rattle.mux_run.proofs.Cuts.{IsCut}
use Rattle.mux_items.proofs.Texts.{frame_texts-append}
use Rattle.mux_run.proofs.WholeFrames.{take-append-ge, take_whole, cut_after, take_next}

-- fewer bytes than the handshake
pub stream_short : (w : SideTerms) (given : ℕ) (y : RunSide) → given ≤ greeting_size w → take given (out w.version w.peer y.items) ≡ take given (hello w.version w.peer)
stream_short w given y h = take-append-le given (hello w.version w.peer) (frame_texts w.version (sent w.version y.items)) h

-- the handshake and then bytes of frames
pub stream_front : (w : SideTerms) (given : ℕ) (y : RunSide) → greeting_size w ≤ given
    → take given (out w.version w.peer y.items) ≡ hello w.version w.peer ++ take (given - greeting_size w) (frame_texts w.version (sent w.version y.items))
stream_front w given y h = take-append-ge given (hello w.version w.peer) (frame_texts w.version (sent w.version y.items)) h

-- the bytes after the handshake and k whole frames are the next frames' texts, and then a part of the frame after them
pub stream_cut : (w : SideTerms) (given k : ℕ) (y : RunSide) → greeting_size w ≤ given → k ≤ length (whole_frames w.version (given - greeting_size w) (sent w.version y.items))
    → IsCut w.version (drop (place_after w k y) (take given (out w.version w.peer y.items))) (next_frames w given k y) (drop (length (whole_frames w.version (given - greeting_size w) (sent w.version y.items))) (sent w.version y.items))
stream_cut w given k y h within =
    let front = hello w.version w.peer in
    let n = given - greeting_size w in
    let frames = sent w.version y.items in
    let first = frame_texts w.version (take k frames) in
    let rest = take n (frame_texts w.version frames) in
    let bytes : drop (length first) rest ≡ drop (place_after w k y) (take given (out w.version w.peer y.items)) =
    ap (drop (length first)) (sym (drop_at front rest (length front) refl)) ∙ (drop-drop (length first) (length front) (front ++ rest) ∙ ap (drop (place_after w k y)) (sym (stream_front w given y h))) in
    subst (λ bs. IsCut w.version bs (next_frames w given k y) (drop (length (whole_frames w.version n frames)) frames)) bytes (cut_after w.version n k frames within)

-- one more frame is applied
pub place_after_more : (w : SideTerms) (given k : ℕ) (y : RunSide) (f : ChannelFrame) (fs : List ChannelFrame) → next_frames w given k y ≡ f ∷ fs → place_after w (k + 1) y ≡ place_after w k y + length (frame_text w.version f)
place_after_more w given k y f fs e =
    let n = given - greeting_size w in
    let frames = sent w.version y.items in
    let whole = whole_frames w.version n frames in
    let size : length whole - k ≡ suc (length fs) = sym (length-drop k whole) ∙ ap length e in
    let first : take (suc k) frames ≡ take k frames ++ f ∷ [] =
    take_whole w.version n (suc k) frames (omega arith) ∙ (take_next k whole f fs e ∙ ap (λ gs. gs ++ f ∷ []) (sym (take_whole w.version n k frames (omega arith)))) in
    let texts : frame_texts w.version (take (k + 1) frames) ≡ frame_texts w.version (take k frames) ++ frame_text w.version f =
    ap (λ n. frame_texts w.version (take n frames)) (add-one k) ∙ (ap (frame_texts w.version) first ∙ (frame_texts-append w.version (take k frames) (f ∷ []) ∙ ap (λ bs. frame_texts w.version (take k frames) ++ bs) (append-nil (frame_text w.version f)))) in
    omega (arith, ap length texts, length-append (frame_texts w.version (take k frames)) (frame_text w.version f))
