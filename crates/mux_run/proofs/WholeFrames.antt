-- The whole frames among the first bytes of frames.
use Rattle.std.specs.Prelude.{if◌then◌else◌, nat_lt, Bool, true, false, zero, suc}
use Rattle.std.specs.Int.{to_be_bytes, w16, w32}
use Rattle.std.proofs.Common.{◌≡◌, ℕ, ◌+◌, ◌-◌, ◌<◌, ◌≤◌, List, [], ◌∷◌, ◌++◌, length, take, drop, refl, sym, ◌∙◌, ap, inl, inr, arith, length-append, length-drop, append_assoc, le-leb, take-add}
use Rattle.std.proofs.lemmas.Bool.{cases_lt, lt-leb}
use Rattle.std.proofs.lemmas.List.{take_all, take_at, drop_at, take-append-le, take-append-drop}
use Rattle.wire_base.specs.declared.frame.Version.{Version}
use Rattle.wire_base.specs.declared.frame.Version.TheVariants as version
use Rattle.wire_base.specs.declared.frame.Frame.{Frame}
use Rattle.wire_base.specs.Shortest.{array_head, unsigned_text}
use Rattle.frame_text.specs.Frames.{text, packed_text, payload_text, is_empty, code_number, origin_text, payload_element}
use Rattle.mux_items.specs.Bodies.{ChannelFrame, frame_of, frame_text, frame_texts}
use Rattle.mux_items.proofs.Texts.{frame_texts-append}
use Rattle.mux_run.specs.Run.{whole_frames}
use Rattle.mux_run.proofs.Cuts.{IsCut}

-- Texts have bytes.

either_not_empty : (b : Bool) (xs ys : List ℕ) → 0 < length xs → 0 < length ys → 0 < length (if b then xs else ys)
either_not_empty true xs ys p q = p
either_not_empty false xs ys p q = q

head_not_empty : (n : ℕ) → 0 < length (array_head n)
head_not_empty n =
    either_not_empty (nat_lt n 0x10) ((0x90 + n) ∷ []) (if nat_lt n 0x10000 then 0xdc ∷ to_be_bytes w16 n else 0xdd ∷ to_be_bytes w32 n) (omega arith)
    (either_not_empty (nat_lt n 0x10000) (0xdc ∷ to_be_bytes w16 n) (0xdd ∷ to_be_bytes w32 n) (omega arith) (omega arith))

not_empty_more : (xs ys : List ℕ) → 0 < length xs → 0 < length (xs ++ ys)
not_empty_more xs ys h = omega (arith, length-append xs ys)

packed_not_empty : (elements : ℕ) (f : Frame) → 0 < length (packed_text elements f)
packed_not_empty elements f =
    let head = array_head (if is_empty (payload_text f.payload) then elements else elements + 1) in
    let code = unsigned_text (code_number f.code) in
    let id = unsigned_text f.id in
    not_empty_more (head ++ code ++ id ++ origin_text f.origin) (payload_element (payload_text f.payload))
    (not_empty_more (head ++ code ++ id) (origin_text f.origin)
    (not_empty_more (head ++ code) id (not_empty_more head code (head_not_empty (if is_empty (payload_text f.payload) then elements else elements + 1)))))

text_not_empty : (v : Version) (f : Frame) → 0 < length (text v f)
text_not_empty version.One f = omega arith
text_not_empty version.Two f = packed_not_empty 2 f
text_not_empty version.Three f = packed_not_empty 3 f

pub frame_text_not_empty : (v : Version) (f : ChannelFrame) → 0 < length (frame_text v f)
frame_text_not_empty v f = text_not_empty v (frame_of v f)

-- Lists.

pub take-append-ge : (n : ℕ) (xs ys : List ℕ) → length xs ≤ n → take n (xs ++ ys) ≡ xs ++ take (n - length xs) ys
take-append-ge n xs ys h =
    let sum : n ≡ length xs + (n - length xs) = omega arith in
    ap (λ k. take k (xs ++ ys)) sum ∙ (take-add (length xs) (n - length xs) (xs ++ ys)
    ∙ (ap (λ front. front ++ take (n - length xs) (drop (length xs) (xs ++ ys))) (take_at xs ys (length xs) refl)
    ∙ ap (λ back. xs ++ take (n - length xs) back) (drop_at xs ys (length xs) refl)))

-- Steps of whole_frames.

pub whole_here : (v : Version) (n : ℕ) (f : ChannelFrame) (fs : List ChannelFrame) → length (frame_text v f) ≤ n → whole_frames v n (f ∷ fs) ≡ f ∷ whole_frames v (n - length (frame_text v f)) fs
whole_here v n f fs h = ap (λ b. if b then f ∷ whole_frames v (n - length (frame_text v f)) fs else []) (le-leb (length (frame_text v f)) n h)

pub whole_stops : (v : Version) (n : ℕ) (f : ChannelFrame) (fs : List ChannelFrame) → n < length (frame_text v f) → whole_frames v n (f ∷ fs) ≡ []
whole_stops v n f fs h = ap (λ b. if b then f ∷ whole_frames v (n - length (frame_text v f)) fs else []) (lt-leb (length (frame_text v f)) n h)

-- the whole frames are a front of the frames
pub whole_front : (v : Version) (n : ℕ) (fs : List ChannelFrame) → whole_frames v n fs ++ drop (length (whole_frames v n fs)) fs ≡ fs
whole_front v n [] = refl
whole_front v n (f ∷ fs) = elim (cases_lt n (length (frame_text v f))) [
  | inl h ↦ rw (whole_stops v n f fs h) refl
  | inr h ↦ rw (whole_here v n f fs h) (ap (λ gs. f ∷ gs) (whole_front v (n - length (frame_text v f)) fs))
]

-- they fit into the bytes
pub whole_fits : (v : Version) (n : ℕ) (fs : List ChannelFrame) → length (frame_texts v (whole_frames v n fs)) ≤ n
whole_fits v n [] = omega arith
whole_fits v n (f ∷ fs) = elim (cases_lt n (length (frame_text v f))) [
  | inl h ↦ rw (whole_stops v n f fs h) (omega arith)
  | inr h ↦ rw (whole_here v n f fs h) (omega (arith, length-append (frame_text v f) (frame_texts v (whole_frames v (n - length (frame_text v f)) fs)), whole_fits v (n - length (frame_text v f)) fs))
]

-- the first bytes of frames are the texts of the whole frames, and then a part of the next frame's text
pub whole_frames_split : (v : Version) (n : ℕ) (fs : List ChannelFrame) → IsCut v (take n (frame_texts v fs)) (whole_frames v n fs) (drop (length (whole_frames v n fs)) fs)
whole_frames_split v n [] = record { part = []; is = take_all n [] (omega arith); begins = refl }
whole_frames_split v n (f ∷ fs) = elim (cases_lt n (length (frame_text v f))) [
  | inl h ↦
      let t = frame_text v f in
      rw (whole_stops v n f fs h) (record {
        part = take n t;
        is = take-append-le n t (frame_texts v fs) (omega arith);
        begins = record { rest = drop n t; is = take-append-drop n t; more = omega (arith, length-drop n t) };
      })
  | inr h ↦
      let t = frame_text v f in
      let m = n - length t in
      let on = whole_frames_split v m fs in
      rw (whole_here v n f fs h) (record {
        part = on.part;
        is = take-append-ge n t (frame_texts v fs) h ∙ (ap (λ bs. t ++ bs) on.is ∙ sym (append_assoc t (frame_texts v (whole_frames v m fs)) on.part));
        begins = on.begins;
      })
]

-- more bytes have all whole frames of fewer
pub whole_more : (v : Version) (n m : ℕ) (fs : List ChannelFrame) → n ≤ m → (more : List ChannelFrame) × (whole_frames v m fs ≡ whole_frames v n fs ++ more)
whole_more v n m [] h = ([], refl)
whole_more v n m (f ∷ fs) h = elim (cases_lt n (length (frame_text v f))) [
  | inl i ↦ (whole_frames v m (f ∷ fs), ap (λ ws. ws ++ whole_frames v m (f ∷ fs)) (sym (whole_stops v n f fs i)))
  | inr i ↦
      let size = length (frame_text v f) in
      let on = whole_more v (n - size) (m - size) fs (omega arith) in
      (on.0, whole_here v m f fs (omega arith) ∙ (ap (λ ws. f ∷ ws) on.1 ∙ ap (λ ws. ws ++ on.0) (sym (whole_here v n f fs i))))
]

-- no bytes have no whole frame
pub whole_none : (v : Version) (fs : List ChannelFrame) → whole_frames v 0 fs ≡ []
whole_none v [] = refl
whole_none v (f ∷ fs) = whole_stops v 0 f fs (frame_text_not_empty v f)

-- frames behind those that reach over the bytes do not count
pub whole_same : (v : Version) (n : ℕ) (fs gs : List ChannelFrame) → n ≤ length (frame_texts v fs) → whole_frames v n (fs ++ gs) ≡ whole_frames v n fs
whole_same v n [] gs h =
    let none : n ≡ 0 = omega arith in
    ap (λ n. whole_frames v n gs) none ∙ whole_none v gs
whole_same v n (f ∷ fs) gs h = elim (cases_lt n (length (frame_text v f))) [
  | inl i ↦ whole_stops v n f (fs ++ gs) i ∙ sym (whole_stops v n f fs i)
  | inr i ↦
      let m = n - length (frame_text v f) in
      let within : m ≤ length (frame_texts v fs) = omega (arith, length-append (frame_text v f) (frame_texts v fs)) in
      whole_here v n f (fs ++ gs) i ∙ (ap (λ ws. f ∷ ws) (whole_same v m fs gs within) ∙ sym (whole_here v n f fs i))
]

-- all bytes have all frames
pub whole_all : (v : Version) (n : ℕ) (fs : List ChannelFrame) → length (frame_texts v fs) ≤ n → whole_frames v n fs ≡ fs
whole_all v n [] h = refl
whole_all v n (f ∷ fs) h =
    let size : length (frame_text v f ++ frame_texts v fs) ≡ length (frame_text v f) + length (frame_texts v fs) = length-append (frame_text v f) (frame_texts v fs) in
    whole_here v n f fs (omega (arith, size)) ∙ ap (λ ws. f ∷ ws) (whole_all v (n - length (frame_text v f)) fs (omega (arith, size)))

-- the first of the whole frames are the first frames
pub take_whole : (v : Version) (n k : ℕ) (fs : List ChannelFrame) → k ≤ length (whole_frames v n fs) → take k fs ≡ take k (whole_frames v n fs)
take_whole v n k fs h =
    ap (take k) (sym (whole_front v n fs)) ∙ take-append-le k (whole_frames v n fs) (drop (length (whole_frames v n fs)) fs) h

-- the bytes after the first k frames, which are whole
pub cut_after : (v : Version) (n k : ℕ) (fs : List ChannelFrame) → k ≤ length (whole_frames v n fs)
    → IsCut v (drop (length (frame_texts v (take k fs))) (take n (frame_texts v fs))) (drop k (whole_frames v n fs)) (drop (length (whole_frames v n fs)) fs)
cut_after v n k fs h =
    let whole = whole_frames v n fs in
    let first = frame_texts v (take k fs) in
    let second = frame_texts v (drop k whole) in
    let all = whole_frames_split v n fs in
    let texts : frame_texts v whole ≡ first ++ second =
    ap (frame_texts v) (sym (take-append-drop k whole)) ∙ (frame_texts-append v (take k whole) (drop k whole) ∙ ap (λ gs. frame_texts v gs ++ second) (sym (take_whole v n k fs h))) in
    record {
      part = all.part;
      is = ap (drop (length first)) (all.is ∙ (ap (λ bs. bs ++ all.part) texts ∙ append_assoc first second all.part)) ∙ drop_at first (second ++ all.part) (length first) refl;
      begins = all.begins;
    }

-- one more of some elements

pub take_next : {A : Type 0} (k : ℕ) (xs : List A) (x : A) (rest : List A) → drop k xs ≡ x ∷ rest → take (suc k) xs ≡ take k xs ++ x ∷ []
take_next zero [] x rest e = cc
take_next zero (y ∷ xs) x rest e = cc
take_next (suc k) [] x rest e = cc
take_next (suc k) (y ∷ xs) x rest e = ap (λ ys. y ∷ ys) (take_next k xs x rest e)
