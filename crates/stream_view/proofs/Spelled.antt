-- The frames of a view are those that are spelled in the stream.
use Rattle.std.proofs.Common.{◌≡◌, ℕ, zero, suc, ◌+◌, ◌-◌, ◌≤◌, List, [], ◌∷◌, ◌++◌, length, take, drop, refl, sym, ap, ◌∙◌, subst, arith, length-drop, Some, codes}
use Rattle.std.specs.List.{flat_map}
use Rattle.wire_base.specs.Front.{Whole, Short, Broken}
use Rattle.wire_base.specs.declared.reason.Reason.{Reason}
use Rattle.wire_base.specs.declared.frame.Version.{Version}
use Rattle.wire_base.specs.declared.frame.Frame.{Frame}
use Rattle.frame_text.specs.Front.{Front}
use Rattle.frame_text.specs.Reading.{front}
use Rattle.frame_text.specs.Spelling.{AreFrames, IsBrokenStream}
use Rattle.frame_text.proofs.Laws.{front_within}
use Rattle.frame_reader.specs.Reads.{Begins, HasNone}
use Rattle.frame_reader.proofs.Spelled.{frames_read, frames_begin, refused_breaks}
use Rattle.mux_items.specs.declared.party.Party.{Party}
use Rattle.mux_handshake.proofs.Steady.{whole_within}
use Rattle.stream_view.specs.Lines.{frame_line, hello_line}
use Rattle.stream_view.specs.View.{Stream, no_frame, onto, stream_by, stream_of, stream_behind, stream_lines, left_line, left_refusal, lines_by, refusal_by, greeting, view_text, view_refusal}
use Rattle.stream_view.proofs.Told.{stream_next}

-- what is told of the stream from a place on
record IsOf (v : Version) (at : ℕ) (bytes : List ℕ) (s : Stream) : Type 0 where
  begins : Begins v at bytes s.frames s.rest
  none : HasNone v s.rest
  at_is : s.at + length s.rest ≡ at + length bytes

is_none : (v : Version) (at : ℕ) (bytes : List ℕ) → HasNone v bytes → IsOf v at bytes (no_frame at bytes)
is_none v at bytes none = record { begins = refl; none = none; at_is = refl }

is_by : (v : Version) (most at : ℕ) (bytes : List ℕ) (left : Front) → ((at : ℕ) (bytes : List ℕ) → length bytes ≤ most → IsOf v at bytes (stream_of v most at bytes)) → length bytes ≤ suc most
    → front v bytes ≡ left → IsOf v at bytes (stream_by (stream_of v most) at bytes left)
is_by v most at bytes (Whole f size) later enough e =
    let within = front_within v bytes f size e in
    let behind = later (at + size) (drop size bytes) (omega (arith, within.0, length-drop size bytes)) in
    record { begins = (record { value = f; size = size; whole = e; given_is = refl }, behind.begins); none = behind.none; at_is = omega (arith, behind.at_is, within.1, length-drop size bytes) }
is_by v most at bytes Short later enough e = is_none v at bytes (λ f size w. cc)
is_by v most at bytes (Broken offset reason) later enough e = is_none v at bytes (λ f size w. cc)

is_of : (v : Version) (most at : ℕ) (bytes : List ℕ) → length bytes ≤ most → IsOf v at bytes (stream_of v most at bytes)
is_of v zero at bytes enough = is_none v at bytes (λ f size w. let within = front_within v bytes f size w in omega (arith, within.0, within.1))
is_of v (suc most) at bytes enough = is_by v most at bytes (front v bytes) (is_of v most) enough refl

behind_is : (v : Version) (size : ℕ) (bytes : List ℕ) → IsOf v size (drop size bytes) (stream_behind v size bytes)
behind_is v size bytes = is_of v (length bytes) size (drop size bytes) (omega (arith, length-drop size bytes))

pub view_frames : (v : Version) (bytes : List ℕ) (party : Party) (size : ℕ) → greeting v bytes ≡ Whole party size
    → AreFrames v size (drop size bytes) (stream_behind v size bytes).frames (stream_behind v size bytes).rest
view_frames v bytes party size e =
    let s = behind_is v size bytes in
    frames_read v size (drop size bytes) (stream_behind v size bytes).frames (stream_behind v size bytes).rest s.begins s.none

-- ---- these frames alone

abbrev found : (at : ℕ) (bytes : List ℕ) (frames : List (ℕ × Frame)) (rest : List ℕ) → Stream
found at bytes frames rest = record { frames = frames; at = at + length bytes - length rest; rest = rest }

found_none : (at : ℕ) (bytes rest : List ℕ) → bytes ≡ rest → no_frame at bytes ≡ found at bytes [] rest
found_none at bytes rest e =
    let there : at ≡ at + length bytes - length rest = omega (arith, ap length e) in
    let P : ℕ → List ℕ → Stream = λ n bs. record { frames = []; at = n; rest = bs } in
    ap (λ n. P n bytes) there ∙ ap (P (at + length bytes - length rest)) e

none_by : (v : Version) (most at : ℕ) (bytes : List ℕ) (left : Front) → HasNone v bytes → front v bytes ≡ left → stream_by (stream_of v most) at bytes left ≡ no_frame at bytes
none_by v most at bytes (Whole f size) none e = absurd (none f size e)
none_by v most at bytes Short none e = refl
none_by v most at bytes (Broken offset reason) none e = refl

stream_none : (v : Version) (most at : ℕ) (bytes : List ℕ) → HasNone v bytes → stream_of v most at bytes ≡ no_frame at bytes
stream_none v zero at bytes none = refl
stream_none v (suc most) at bytes none = none_by v most at bytes (front v bytes) none refl

stream_is : (v : Version) (most at : ℕ) (bytes : List ℕ) (frames : List (ℕ × Frame)) (rest : List ℕ) → length bytes ≤ most → Begins v at bytes frames rest → HasNone v rest → stream_of v most at bytes ≡ found at bytes frames rest
stream_is v most at bytes [] rest enough h none =
    stream_none v most at bytes (subst (HasNone v) (sym h) none) ∙ found_none at bytes rest h
stream_is v zero at bytes (x ∷ xs) rest enough h none =
    let within = front_within v bytes h.0.value h.0.size h.0.whole in absurd (omega (arith, within.0, within.1))
stream_is v (suc most) at bytes (x ∷ xs) rest enough h none =
    let n = h.0.size in
    let f = h.0.value in
    let within = front_within v bytes f n h.0.whole in
    let later = stream_is v most (at + n) (drop n bytes) xs rest (omega (arith, within.0, length-drop n bytes)) h.1 none in
    let there : at + n + length (drop n bytes) - length rest ≡ at + length bytes - length rest = omega (arith, within.1, length-drop n bytes) in
    stream_next v most at bytes f n h.0.whole
    ∙ (ap (onto (at, f)) later
    ∙ (ap (λ y. onto y (found (at + n) (drop n bytes) xs rest)) (sym h.0.given_is)
    ∙ ap (λ m. record { frames = x ∷ xs; at = m; rest = rest }) there))

pub view_lines : (v : Version) (bytes : List ℕ) (party : Party) (size : ℕ) (frames : List (ℕ × Frame)) (rest : List ℕ) → greeting v bytes ≡ Whole party size → AreFrames v size (drop size bytes) frames rest
    → view_text v bytes ≡ codes "view 1\n" ++ (hello_line v (take size bytes) ++ (flat_map (λ x. frame_line x.0 x.1) frames ++ left_line (length bytes - length rest) (length rest) (front v rest))) ++ codes "end\n"
view_lines v bytes party size frames rest e are =
    let b = frames_begin v size (drop size bytes) frames rest are in
    let within = whole_within v [] bytes party size e in
    let s = stream_is v (length bytes) size (drop size bytes) frames rest (omega (arith, length-drop size bytes)) b.0 b.1 in
    let there : size + length (drop size bytes) - length rest ≡ length bytes - length rest = omega (arith, within, length-drop size bytes) in
    ap (λ g. codes "view 1\n" ++ lines_by v bytes g ++ codes "end\n") e
    ∙ (ap (λ s. codes "view 1\n" ++ (hello_line v (take size bytes) ++ stream_lines v s) ++ codes "end\n") s
    ∙ ap (λ n. codes "view 1\n" ++ (hello_line v (take size bytes) ++ (flat_map (λ x. frame_line x.0 x.1) frames ++ left_line n (length rest) (front v rest))) ++ codes "end\n") there)

-- ---- where it is refused

some_is : (x y : ℕ × Reason) → Some x ≡ Some y → x ≡ y
some_is x y e = cc

broken_by : (v : Version) (start : ℕ) (stream : List ℕ) (s : Stream) (left : Front) (place : ℕ) (reason : Reason) → IsOf v start stream s → front v s.rest ≡ left → left_refusal s.at left ≡ Some (place, reason) → IsBrokenStream v start stream place reason
broken_by v start stream s (Whole f size) place reason is e r = absurd cc
broken_by v start stream s Short place reason is e r = absurd cc
broken_by v start stream s (Broken offset cause) place reason is e r =
    let one = some_is (s.at + offset, cause) (place, reason) r in
    let there : s.at + offset ≡ place = ap (λ (x : ℕ × Reason). x.0) one in
    let same : cause ≡ reason = ap (λ (x : ℕ × Reason). x.1) one in
    refused_breaks v start stream s.frames place reason (record {
      rest = s.rest;
      offset = offset;
      begins = is.begins;
      broken = e ∙ ap (Broken offset) same;
      place_is = omega (arith, is.at_is, there);
    })

pub view_breaks : (v : Version) (bytes : List ℕ) (party : Party) (size place : ℕ) (reason : Reason) → greeting v bytes ≡ Whole party size → view_refusal v bytes ≡ Some (place, reason) → IsBrokenStream v size (drop size bytes) place reason
view_breaks v bytes party size place reason e r =
    broken_by v size (drop size bytes) (stream_behind v size bytes) (front v (stream_behind v size bytes).rest) place reason (behind_is v size bytes) refl (ap (refusal_by v bytes) (sym e) ∙ r)

pub ruleset spelled = (view_frames, view_lines, view_breaks)
