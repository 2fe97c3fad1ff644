-- The frames that are read are those that are spelled.
use Rattle.std.proofs.Common.{◌≡◌, ℕ, ◌+◌, List, [], ◌∷◌, length, take, drop, sym, ap, subst, ◌∙◌}
use Rattle.std.proofs.lemmas.List.{take-append-drop, length-take-le}
use Rattle.std.proofs.Math.Seq.{drop-append_seam}
use Rattle.wire_base.specs.declared.frame.Version.{Version}
use Rattle.wire_base.specs.declared.reason.Reason.{Reason}
use Rattle.frame_text.specs.Front.{Whole, Broken}
use Rattle.frame_text.specs.Reading.{front}
use Rattle.frame_text.specs.Spelling.{AreFrames, IsBrokenStream}
use Rattle.wire_base.proofs.GivenLemmas.{first_within}
use Rattle.frame_text.proofs.Laws.{every_front_spelled, every_spelled_front, broken_first, first_broken}
use Rattle.frame_reader.specs.Reads.{frames, Begins, BreaksAfter, HasNone}
use Rattle.frame_reader.proofs.Streams.{Placed, frames_steady}

pub frames_read : (v : Version) (at : ℕ) (stream : List ℕ) (given : List Placed) (rest : List ℕ) → Begins v at stream given rest → HasNone v rest → AreFrames v at stream given rest
frames_read v at stream [] rest h none = (h, λ f b more spelled e. none f (length b) (rw e (every_spelled_front v f b more spelled)))
frames_read v at stream (x ∷ xs) rest h none =
    let n = h.0.size in
    let within = first_within (frames v) (frames_steady v) at stream x h.0 in
    let size : n ≡ length (take n stream) = sym (length-take-le n stream within.1) in
    let whole : front v stream ≡ Whole x.1 n = h.0.whole ∙ ap (λ (p : Placed). Whole p.1 n) (sym h.0.given_is) in
    let then : AreFrames v (at + n) (drop n stream) xs rest = frames_read v (at + n) (drop n stream) xs rest h.1 none in
    (ap (λ (p : Placed). p.0) h.0.given_is, take n stream, drop n stream, every_front_spelled v stream x.1 n whole, sym (take-append-drop n stream), subst (λ m. AreFrames v (at + m) (drop n stream) xs rest) size then)

placed_is : (at : ℕ) (x : Placed) → x.0 ≡ at → x ≡ (at, x.1)
placed_is at x e = ap (λ n. (n, x.1)) e

pub record ReadAs (v : Version) (at : ℕ) (stream : List ℕ) (given : List Placed) (rest : List ℕ) : Type 0 where
  pub begins : Begins v at stream given rest
  pub none : HasNone v rest

read_as : (v : Version) (at : ℕ) (stream : List ℕ) (given : List Placed) (rest : List ℕ) → AreFrames v at stream given rest → ReadAs v at stream given rest
read_as v at stream [] rest h = record {
  begins = h.0;
  none = λ f size e. h.1 f (take size rest) (drop size rest) (every_front_spelled v rest f size e) (sym (take-append-drop size rest));
}
read_as v at stream (x ∷ xs) rest h =
    let r = read_as v (at + length h.1) h.2 xs rest h.5 in
    let whole : front v stream ≡ Whole x.1 (length h.1) = rw h.4 (every_spelled_front v x.1 h.1 h.2 h.3) in
    let behind : h.2 ≡ drop (length h.1) stream = sym (ap (drop (length h.1)) h.4 ∙ drop-append_seam h.1 h.2) in
    record {
      begins = (record { value = x.1; size = length h.1; whole = whole; given_is = placed_is at x h.0 }, subst (λ (s : List ℕ). Begins v (at + length h.1) s xs rest) behind r.begins);
      none = r.none;
    }

pub frames_begin : (v : Version) (at : ℕ) (stream : List ℕ) (given : List Placed) (rest : List ℕ) → AreFrames v at stream given rest → Begins v at stream given rest × HasNone v rest
frames_begin v at stream given rest h = let r = read_as v at stream given rest h in (r.begins, r.none)

broken_none : (v : Version) (bytes : List ℕ) (offset : ℕ) (reason : Reason) → front v bytes ≡ Broken offset reason → HasNone v bytes
broken_none v bytes offset reason e = λ f size w. cc

pub refused_breaks : (v : Version) (start : ℕ) (stream : List ℕ) (given : List Placed) (place : ℕ) (reason : Reason) → BreaksAfter v start stream given place reason → IsBrokenStream v start stream place reason
refused_breaks v start stream given place reason h = record {
  frames = given;
  rest = h.rest;
  offset = h.offset;
  are_frames = frames_read v start stream given h.rest h.begins (broken_none v h.rest h.offset reason h.broken);
  broken = broken_first v h.rest h.offset reason h.broken;
  place_is = h.place_is;
}

pub broken_refused : (v : Version) (start : ℕ) (stream : List ℕ) (place : ℕ) (reason : Reason) → IsBrokenStream v start stream place reason → (given : List Placed) × BreaksAfter v start stream given place reason
broken_refused v start stream place reason h =
    (h.frames, record { rest = h.rest; offset = h.offset; begins = (read_as v start stream h.frames h.rest h.are_frames).begins; broken = first_broken v h.rest h.offset reason h.broken; place_is = h.place_is })

pub ruleset spelled = (frames_read, frames_begin, refused_breaks, broken_refused)
