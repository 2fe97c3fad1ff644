-- Readings of one stream are one.
use Rattle.std.proofs.Common.{◌≡◌, ◌≢◌, ℕ, ◌+◌, ◌-◌, ◌≤◌, Bool, List, [], ◌∷◌, ◌++◌, length, refl, sym, ap, ◌∙◌, arith, length-append}
use Rattle.std.specs.List.{concat}
use Rattle.wire_base.specs.declared.frame.Frame.{Frame}
use Rattle.wire_base.specs.declared.frame.Version.{Version}
use Rattle.wire_base.specs.declared.place.Place.{Place}
use Rattle.wire_base.specs.declared.reason.Reason.{Reason}
use Rattle.frame_text.specs.Front.{Front, Whole, Short, Broken}
use Rattle.frame_text.specs.Reading.{front}
use Rattle.wire_base.proofs.GivenLemmas.{place_is, begins_more, first_given, same_given, all_given, begins_within, last_given}
use Rattle.frame_text.proofs.Laws.{broken_stays}
use Rattle.frame_reader.specs.Unread.{Unread}
use Rattle.frame_reader.specs.Reads.{frames, Begins, Reads, Follows, HasNone}
use Rattle.frame_reader.specs.declared.next_frame.NextFrame.{NextFrame}
use Rattle.frame_reader.specs.declared.next_frame.NextFrame.TheVariants as next
use Rattle.frame_reader.proofs.Streams.{Placed, frames_steady}

-- where no whole frame stands behind them, they are all
pub all_frames : (v : Version) (at : ℕ) (stream : List ℕ) (xs ys : List Placed) (a b : List ℕ) → Begins v at stream xs a → HasNone v a → Begins v at stream ys b → (later : List Placed) × (xs ≡ ys ++ later)
all_frames v = all_given (frames v) (frames_steady v)

-- ---- readers

unread_is : (v w : Version) (m n : ℕ) (s t : List ℕ) (k l : ℕ) (begun : Bool) → v ≡ w → m ≡ n → s ≡ t → k ≡ l → (let left : Unread = record { version = v; at = m; rest = s; fed = k; begun = begun } in left) ≡ record { version = w; at = n; rest = t; fed = l; begun = begun }
unread_is v w m n s t k l begun p q r e = rw (p, q, r, e) refl

pub pieces_given : (a b : Unread) (start : ℕ) (pieces others : List (List ℕ)) (given more : List Placed) → a.version ≡ b.version → concat pieces ≡ concat others → Reads a start (concat pieces) given → Reads b start (concat others) more → length given ≤ length more → (later : List Placed) × (more ≡ given ++ later)
pieces_given a b start pieces others given more v s h k le =
    let begins : Begins a.version start (concat pieces) more b.rest = rw (v, s) k.begins in
    first_given (frames a.version) (frames_steady a.version) start (concat pieces) given more a.rest b.rest h.begins begins le

pub pieces_left : (a b : Unread) (start : ℕ) (pieces others : List (List ℕ)) (given more : List Placed) → a.version ≡ b.version → concat pieces ≡ concat others → Reads a start (concat pieces) given → Reads b start (concat others) more → length given ≡ length more → (given ≡ more) × (a ≡ record b { begun = a.begun })
pieces_left a b start pieces others given more v s h k le =
    let begins : Begins a.version start (concat pieces) more b.rest = rw (v, s) k.begins in
    let same = same_given (frames a.version) (frames_steady a.version) start (concat pieces) given more a.rest b.rest h.begins begins le in
    let len : length a.rest ≡ length b.rest = ap length same.1 in
    let all : length (concat pieces) ≡ length (concat others) = ap length s in
    (same.0, unread_is a.version b.version a.at b.at a.rest b.rest a.fed b.fed a.begun v (omega (arith, h.place_is, k.place_is, len, all)) same.1 (omega (arith, h.fed_is, k.fed_is, all)))

-- ---- answers

-- the answer by what stands at the front, whose first byte stands at a place
pub answer_of : ℕ → Front → NextFrame
answer_of at (Whole frame size) = next.Frame (record { 0 = at }) frame
answer_of at Short = next.Short
answer_of at (Broken offset reason) = next.Refused (record { 0 = at + offset }) reason

pub record Answered (v : Version) (start : ℕ) (stream : List ℕ) (given : List Placed) (answer : NextFrame) : Type 0 where
  pub rest : List ℕ
  pub at : ℕ
  pub begins : Begins v start stream given rest
  pub place_is : at + length rest ≡ start + length stream
  pub is : answer ≡ answer_of at (front v rest)

answered : (v : Version) (start : ℕ) (stream : List ℕ) (given : List Placed) (answer : NextFrame) → Follows v start stream given answer → answer ≢ next.OutOfMemory → Answered v start stream given answer
unfolding answer_of
answered v start stream given (next.Frame place frame) h some =
    let last = last_given (frames v) (frames_steady v) start stream given (place.0, frame) h.0 h.1 in
    let same : place.0 ≡ last.there = ap (λ (x : Placed). x.0) last.first.given_is in
    let frame_is : frame ≡ last.first.value = ap (λ (x : Placed). x.1) last.first.given_is in
    record { rest = last.rest; at = last.there; begins = last.begins; place_is = last.place_is; is = rw last.first.whole (λ i. next.Frame (place_is place (record { 0 = last.there }) same i) (frame_is i)) }
answered v start stream given next.Short h some =
    let within : length h.0 ≤ length stream = begins_within (frames v) (frames_steady v) start stream given h.0 h.1 in
    record { rest = h.0; at = (start + length stream) - length h.0; begins = h.1; place_is = omega arith; is = rw h.2 refl }
answered v start stream given (next.Refused place reason) h some =
    let within : length h.rest ≤ length stream = begins_within (frames v) (frames_steady v) start stream given h.rest h.begins in
    let at = (start + length stream) - length h.rest in
    let there : place.0 ≡ at + h.offset = omega (arith, h.place_is) in
    record { rest = h.rest; at = at; begins = h.begins; place_is = omega arith; is = rw h.broken (ap (λ (p : Place). next.Refused p reason) (place_is place (record { 0 = at + h.offset }) there)) }
answered v start stream given next.OutOfMemory h some = absurd (some refl)

pub one_answer : (v : Version) (start : ℕ) (stream : List ℕ) (given : List Placed) (a b : NextFrame) → Follows v start stream given a → Follows v start stream given b → a ≢ next.OutOfMemory → b ≢ next.OutOfMemory → a ≡ b
one_answer v start stream given a b h k some other =
    let p = answered v start stream given a h some in
    let q = answered v start stream given b k other in
    let same : p.rest ≡ q.rest = (same_given (frames v) (frames_steady v) start stream given given p.rest q.rest p.begins q.begins refl).1 in
    let len : length p.rest ≡ length q.rest = ap length same in
    let there : p.at ≡ q.at = omega (arith, p.place_is, q.place_is, len) in
    p.is ∙ ap (λ (s : List ℕ). answer_of p.at (front v s)) same ∙ ap (λ n. answer_of n (front v q.rest)) there ∙ sym q.is

pub refused_stays : (v : Version) (start : ℕ) (stream more : List ℕ) (given : List Placed) (place : Place) (reason : Reason) → Follows v start stream given (next.Refused place reason) → Follows v start (stream ++ more) given (next.Refused place reason)
refused_stays v start stream more given place reason h = record {
  rest = h.rest ++ more;
  offset = h.offset;
  begins = begins_more (frames v) (frames_steady v) start stream given h.rest more h.begins;
  broken = broken_stays v h.rest more h.offset reason h.broken;
  place_is = omega (arith, h.place_is, length-append h.rest more, length-append stream more);
}

pub frame_stays : (v : Version) (start : ℕ) (stream more : List ℕ) (given : List Placed) (place : Place) (frame : Frame) → Follows v start stream given (next.Frame place frame) → Follows v start (stream ++ more) given (next.Frame place frame)
frame_stays v start stream more given place frame h = (h.0 ++ more, begins_more (frames v) (frames_steady v) start stream (given ++ (place.0, frame) ∷ []) h.0 more h.1)

pub ruleset one_stream = (pieces_given, pieces_left)

pub ruleset answers = (all_frames, one_answer, refused_stays, frame_stays)
