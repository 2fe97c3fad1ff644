-- Deliveries to one multiplexing end of just the next frame's bytes, or of the handshake's.
use Rattle.std.specs.Prelude.{if◌then◌else◌, not, ◌&&◌, nat_le, true, false, ◌⊎◌}
use Rattle.std.specs.Str.{bytes_eq}
use Rattle.std.proofs.Common.{◌≡◌, ℕ, ◌+◌, ◌-◌, ◌≤◌, List, [], ◌∷◌, ◌++◌, length, drop, map, refl, sym, ◌∙◌, ap, inl, inr, arith, length-append, length-drop, append_assoc, le-leb}
use Rattle.std.proofs.lemmas.Bool.{or_right, and_from, le-ltb}
use Rattle.std.proofs.lemmas.List.{append-nil, length-map, map-append, drop_all, drop_at}
use Rattle.wire_base.specs.declared.reason.Reason.TheVariants as reason
use Rattle.wire_base.specs.declared.state.Cause.{Cause}
use Rattle.wire_base.specs.declared.state.Cause.TheVariants as cause
use Rattle.frame_text.specs.Hello.{hello}
use Rattle.mux_items.specs.Bodies.{ChannelFrame, flip, frame_text, frame_texts, is_three}
use Rattle.mux_items.specs.Items.{Item, Hello, End, is_running}
use Rattle.mux_items.specs.Due.{sent, got}
use Rattle.mux_items.specs.Limits.{most_bytes}
use Rattle.mux_items.specs.Refusals.{is_ready, frame_refusal}
use Rattle.mux_items.specs.Applying.{apply_frame, place_at}
use Rattle.mux_items.specs.Parties.{party_by}
use Rattle.mux_items.proofs.Flips.{flip_flip}
use Rattle.mux_items.proofs.Texts.{frame_texts-append}
use Rattle.mux_run.specs.Run.{RunSide, SideTerms, out, greeting_size, whole_frames, next_frames, place_after, greet, greeted, apply_frames, settled, added, is_spent, delivered_to, side_after}
use Rattle.mux_run.specs.declared.steps.Side.{Side}
use Rattle.mux_run.specs.declared.steps.Step.TheVariants as step
use Rattle.mux_run.proofs.WholeFrames.{whole_none}
use Rattle.mux_run.proofs.Growing.{frame_applies, apply_frames_more}
use Rattle.mux_run.proofs.Fed.{greeting_by, ready_same}
use Rattle.endpoint_run.proofs.Boundary.{run_side, AtBoundary, at_ready, at_start, whole_at, settled_on, settled_ready}

-- a delivery that ends at a place

delivered_here : (w : SideTerms) (m : List Item) (d k t : ℕ) (n : RunSide) → is_running m ≡ true → t ≡ d + k → t ≤ most_bytes → t ≤ length (out w.version w.peer n.items) → delivered_to w k (run_side m d) n ≡ settled w t m n
delivered_here w m d k t n runs sum most within =
    let flight = length-drop d (out w.version w.peer n.items) in
    let all : added w k (run_side m d) n ≡ k = omega arith in
    let room : is_spent w k (run_side m d) n ≡ false = le-ltb most_bytes (d + added w k (run_side m d) n) (omega arith) in
    let now : d + added w k (run_side m d) n ≡ t = omega arith in
    ap (λ b. if not b then run_side m d else if is_spent w k (run_side m d) n then run_side (End cause.Spent ∷ m) d else settled w (d + added w k (run_side m d) n) m n) runs
    ∙ (ap (λ b. if b then run_side (End cause.Spent ∷ m) d else settled w (d + added w k (run_side m d) n) m n) room
    ∙ ap (λ t. settled w t m n) now)

-- the frame that comes next is applied by a delivery of just its bytes

pub frame_fine : (w : SideTerms) (side : Side) (m : List Item) (d : ℕ) (n : RunSide) (f : ChannelFrame) (fs : List ChannelFrame) → AtBoundary w m d → is_running m ≡ true → is_ready w.version m ≡ true
    → sent w.version n.items ≡ map flip (got m) ++ f ∷ fs → d + length (frame_text w.version f) ≤ most_bytes
    → side_after w (step.Deliver side (length (frame_text w.version f))) (run_side m d) n
    ≡ run_side (apply_frame w.version (place_after w (length (got m)) n) (flip f).key f.body m) (d + length (frame_text w.version f))
frame_fine w side m d n f fs b runs ready sends most =
    let gs = map flip (got m) in
    let size = length (frame_text w.version f) in
    let at = at_ready w m d b runs ready in
    let place = place_after w (length (got m)) n in
    let texts_are : frame_texts w.version (sent w.version n.items) ≡ frame_texts w.version gs ++ (frame_text w.version f ++ frame_texts w.version fs) =
    ap (frame_texts w.version) sends ∙ frame_texts-append w.version gs (f ∷ fs) in
    let first_is : frame_texts w.version (gs ++ f ∷ []) ≡ frame_texts w.version gs ++ (frame_text w.version f ++ []) = frame_texts-append w.version gs (f ∷ []) in
    let within : d + size ≤ length (out w.version w.peer n.items) = omega (
      arith,
      length-append (hello w.version w.peer) (frame_texts w.version (sent w.version n.items)),
      ap length texts_are,
      length-append (frame_texts w.version gs) (frame_text w.version f ++ frame_texts w.version fs),
      length-append (frame_text w.version f) (frame_texts w.version fs),
    ) in
    let sends_first : sent w.version n.items ≡ (gs ++ f ∷ []) ++ fs = sends ∙ sym (append_assoc gs (f ∷ []) fs) in
    let reach : (d + size) - greeting_size w ≡ length (frame_texts w.version (gs ++ f ∷ [])) = omega (
      arith,
      ap length first_is,
      length-append (frame_texts w.version gs) (frame_text w.version f ++ []),
      ap length (append-nil (frame_text w.version f)),
    ) in
    let next : next_frames w (d + size) (length (got m)) n ≡ f ∷ [] =
    ap (λ gs. drop (length (got m)) (whole_frames w.version ((d + size) - greeting_size w) gs)) sends_first
    ∙ (ap (drop (length (got m))) (whole_at w.version ((d + size) - greeting_size w) (gs ++ f ∷ []) fs reach) ∙ drop_at gs (f ∷ []) (length (got m)) (length-map (got m) flip)) in
    delivered_here w m d size (d + size) n runs refl most within
    ∙ (settled_ready w (d + size) m n ready
    ∙ (ap (λ fs. run_side (apply_frames w.version place fs m) (d + size)) next
    ∙ ap (λ ms. run_side ms (d + size)) (apply_frames_more w.version place f [] m runs)))

pub frame_boundary : (w : SideTerms) (place : ℕ) (m : List Item) (d : ℕ) (f : ChannelFrame) → AtBoundary w m d → is_running m ≡ true → is_ready w.version m ≡ true
    → AtBoundary w (apply_frame w.version place (flip f).key f.body m) (d + length (frame_text w.version f))
frame_boundary w place m d f b runs ready =
    let after = apply_frame w.version place (flip f).key f.body m in
    let still : is_ready w.version after ≡ true = ready_same w.version m after (greeting_by w.version place (flip f).key f.body m (frame_refusal w.version (flip f).key f.body m)) ∙ ready in
    record {
      at = elim (frame_applies w.version place (flip f).key f.body m ready runs) [
        | inl g ↦ λ r.
            let gs = map flip (got m) in
            let more : map flip (got after) ≡ gs ++ f ∷ [] = ap (map flip) g.applied ∙ (map-append flip (got m) (flip f ∷ []) ∙ ap (λ h. gs ++ h ∷ []) (flip_flip f)) in
            let texts_are : frame_texts w.version (map flip (got after)) ≡ frame_texts w.version gs ++ (frame_text w.version f ++ []) = ap (frame_texts w.version) more ∙ frame_texts-append w.version gs (f ∷ []) in
            let at = at_ready w m d b runs ready in
            let sum : d + length (frame_text w.version f) ≡ greeting_size w + length (frame_texts w.version (map flip (got after))) = omega (
              arith,
              ap length texts_are,
              length-append (frame_texts w.version gs) (frame_text w.version f ++ []),
              ap length (append-nil (frame_text w.version f)),
            ) in
            sum ∙ ap (λ r. if r then greeting_size w + length (frame_texts w.version (map flip (got after))) else 0) (sym still)
        | inr g ↦ λ r. cc (g.1, r)
      ];
      waits = λ u. cc (still, u);
    }

-- the handshake is applied by a delivery of just its bytes

greet_by : (w : SideTerms) (m : List Item) → ((why : Cause) × (greet w ≡ End why)) ⊎ (greet w ≡ Hello (party_by w.own w.peer))
greet_by w m = elim (bytes_eq w.own w.peer) as (λ b. ((why : Cause) × ((if b then End (cause.Refused (place_at (greeting_size w - length w.peer)) reason.SameNonce) else Hello (party_by w.own w.peer)) ≡ End why))
    ⊎ ((if b then End (cause.Refused (place_at (greeting_size w - length w.peer)) reason.SameNonce) else Hello (party_by w.own w.peer)) ≡ Hello (party_by w.own w.peer))) [
      | true ↦ inl (cause.Refused (place_at (greeting_size w - length w.peer)) reason.SameNonce, refl)
      | false ↦ inr refl
    ]

got_greet : (w : SideTerms) (m : List Item) → got (greet w ∷ m) ≡ got m
got_greet w m = elim (greet_by w m) [
  | inl h ↦ ap (λ item. got (item ∷ m)) h.1
  | inr h ↦ ap (λ item. got (item ∷ m)) h
]

-- once it is whole
pub greeted_now : (w : SideTerms) (given : ℕ) (m : List Item) → is_running m ≡ true → is_ready w.version m ≡ false → greeting_size w ≤ given → greeted w given m ≡ greet w ∷ m
greeted_now w given m runs unready h =
    let test : (is_running m && not (is_ready w.version m) && nat_le (greeting_size w) given) ≡ true =
    and_from (is_running m && not (is_ready w.version m)) (nat_le (greeting_size w) given) (and_from (is_running m) (not (is_ready w.version m)) runs (ap not unready)) (le-leb (greeting_size w) given h) in
    ap (λ b. if b then greet w ∷ m else m) test

pub greet_fine : (w : SideTerms) (side : Side) (m : List Item) (d : ℕ) (n : RunSide) → AtBoundary w m d → is_running m ≡ true → is_ready w.version m ≡ false → greeting_size w ≤ most_bytes
    → side_after w (step.Deliver side (greeting_size w)) (run_side m d) n ≡ run_side (greet w ∷ m) (greeting_size w)
greet_fine w side m d n b runs unready most =
    let size = greeting_size w in
    let none = at_start w m d b runs unready in
    let within : size ≤ length (out w.version w.peer n.items) = omega (arith, length-append (hello w.version w.peer) (frame_texts w.version (sent w.version n.items))) in
    let on = greeted_now w size m runs unready (omega arith) in
    let after = greet w ∷ m in
    let zero_left : size - size ≡ 0 = omega arith in
    let next : next_frames w size (length (got after)) n ≡ [] =
    ap (λ k. drop (length (got after)) (whole_frames w.version k (sent w.version n.items))) zero_left
    ∙ (ap (drop (length (got after))) (whole_none w.version (sent w.version n.items)) ∙ drop_all (length (got after)) [] (omega arith)) in
    delivered_here w m d size size n runs (omega arith) most within
    ∙ (ap (λ after. settled_on w size after n) on
    ∙ (elim (is_ready w.version after) as (λ b. run_side (if b then apply_frames w.version (place_after w (length (got after)) n) (next_frames w size (length (got after)) n) after else after) size ≡ run_side after size) [
      | true ↦ ap (λ fs. run_side (apply_frames w.version (place_after w (length (got after)) n) fs after) size) next
      | false ↦ refl
    ]))

pub greet_boundary : (w : SideTerms) (m : List Item) (d : ℕ) → AtBoundary w m d → is_running m ≡ true → is_ready w.version m ≡ false → AtBoundary w (greet w ∷ m) (greeting_size w)
greet_boundary w m d b runs unready =
    let none : got (greet w ∷ m) ≡ [] = got_greet w m ∙ b.waits unready in
    record {
      at = elim (greet_by w m) [
        | inl h ↦ λ r. (let stopped : is_running (greet w ∷ m) ≡ false = ap (λ item. is_running (item ∷ m)) h.1 in cc (stopped, r))
        | inr h ↦ λ r.
            let ready : is_ready w.version (greet w ∷ m) ≡ true = ap (λ item. is_ready w.version (item ∷ m)) h ∙ or_right (is_three w.version) true refl in
            let sum : greeting_size w ≡ greeting_size w + length (frame_texts w.version (map flip (got (greet w ∷ m)))) = omega (arith, ap (λ fs. length (frame_texts w.version (map flip fs))) none) in
            sum ∙ ap (λ r. if r then greeting_size w + length (frame_texts w.version (map flip (got (greet w ∷ m)))) else 0) (sym ready)
      ];
      waits = λ u. none;
    }
