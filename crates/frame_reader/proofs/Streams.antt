-- Readings of streams, as pieces come and frames go.
use Rattle.std.proofs.Common.{◌≡◌, ℕ, ◌+◌, ◌<◌, ◌≤◌, ◌⊎◌, inl, inr, List, [], ◌∷◌, ◌++◌, length, drop, refl, sym, ◌∙◌, arith, length-append, length-drop}
use Rattle.wire_base.specs.declared.frame.Frame.{Frame}
use Rattle.wire_base.specs.declared.frame.Version.{Version}
use Rattle.wire_base.specs.declared.place.Place.{Place}
use Rattle.wire_base.specs.declared.reason.Reason.{Reason}
use Rattle.frame_text.specs.Front.{Whole, Broken}
use Rattle.frame_text.specs.Reading.{front}
use Rattle.wire_base.specs.Given.{First}
use Rattle.wire_base.proofs.GivenLemmas.{IsSteadyWay, place_is, begins_more, begins_next}
use Rattle.frame_text.proofs.Within.{is_front-within}
use Rattle.frame_text.proofs.Steady.{front-steady}
use Rattle.frame_text.proofs.Laws.{front_within, broken_stays}
use Rattle.frame_reader.specs.Unread.{Unread, with_piece, without_front, with_refusal}
use Rattle.frame_reader.specs.Answers.{AnswersFrame, HasFrame, RefusesAt}
use Rattle.frame_reader.specs.Reads.{frames, Reads, Follows, given_with}
use Rattle.frame_reader.specs.declared.next_frame.NextFrame.{NextFrame}
use Rattle.frame_reader.specs.declared.next_frame.NextFrame.TheVariants as next

abbrev pub Placed : Type 0
Placed = ℕ × Frame

pub frames_steady : (v : Version) → IsSteadyWay (frames v)
frames_steady v = record { within = is_front-within v; stays = front-steady v }

-- the frame at the front is given first
abbrev pub frame_first : (v : Version) (at : ℕ) (stream : List ℕ) (frame : Frame) (size : ℕ) → front v stream ≡ Whole frame size → First (frames v) at stream (at, frame)
frame_first v at stream frame size e = record { value = frame; size = size; whole = e; given_is = refl }

reads-piece : (reader : Unread) (start : ℕ) (stream : List ℕ) (given : List Placed) (piece : List ℕ) → Reads reader start stream given → Reads (with_piece piece reader) start (stream ++ piece) given
reads-piece reader start stream given piece h = record {
  begins = begins_more (frames reader.version) (frames_steady reader.version) start stream given reader.rest piece h.begins;
  place_is = omega (arith, h.place_is, length-append reader.rest piece, length-append stream piece);
  fed_is = omega (arith, h.fed_is, length-append stream piece);
}

pub reads-fed : (old new : Unread) (start : ℕ) (stream : List ℕ) (given : List Placed) (piece : List ℕ) → new ≡ with_piece piece old → Reads old start stream given → Reads new start (stream ++ piece) given
reads-fed old new start stream given piece e h = rw e (reads-piece old start stream given piece h)

reads-frame : (reader : Unread) (start : ℕ) (stream : List ℕ) (given : List Placed) (size : ℕ) (frame : Frame) → Reads reader start stream given → front reader.version reader.rest ≡ Whole frame size → Reads (without_front size reader) start stream (given ++ (reader.at, frame) ∷ [])
reads-frame reader start stream given size frame h e =
    let within = front_within reader.version reader.rest frame size e in
    record {
      begins = begins_next (frames reader.version) (frames_steady reader.version) start stream given reader.rest reader.at (reader.at, frame) h.begins h.place_is (frame_first reader.version reader.at reader.rest frame size e);
      place_is = omega (arith, h.place_is, within.1, length-drop size reader.rest);
      fed_is = h.fed_is;
    }

reads-refusal : (reader : Unread) (start : ℕ) (stream : List ℕ) (given : List Placed) → Reads reader start stream given → Reads (with_refusal reader) start stream given
reads-refusal reader start stream given h = record { begins = h.begins; place_is = h.place_is; fed_is = h.fed_is }

pub reads-answer : (answer : NextFrame) (old new : Unread) (start : ℕ) (stream : List ℕ) (given : List Placed) → AnswersFrame answer old new → Reads old start stream given → Reads new start stream (given_with answer given)
reads-answer (next.Frame place frame) old new start stream given a h =
    rw (a.3, a.2) (reads-frame old start stream given a.0 frame h a.1)
reads-answer next.Short old new start stream given a h = rw a.1 h
reads-answer (next.Refused place reason) old new start stream given a h = rw a.1 (reads-refusal old start stream given h)
reads-answer next.OutOfMemory old new start stream given a h = rw a h

pub answer-follows : (answer : NextFrame) (old new : Unread) (start : ℕ) (stream : List ℕ) (given : List Placed) → AnswersFrame answer old new → Reads old start stream given → Follows old.version start stream given answer
answer-follows (next.Frame place frame) old new start stream given a h =
    let there : place.0 + length old.rest ≡ start + length stream = omega (arith, h.place_is, a.2) in
    (drop a.0 old.rest, begins_next (frames old.version) (frames_steady old.version) start stream given old.rest place.0 (place.0, frame) h.begins there (frame_first old.version place.0 old.rest frame a.0 a.1))
answer-follows next.Short old new start stream given a h = (old.rest, h.begins, a.0)
answer-follows (next.Refused place reason) old new start stream given a h =
    record { rest = old.rest; offset = a.0.offset; begins = h.begins; broken = a.0.broken; place_is = omega (arith, h.place_is, a.0.place_is) }
answer-follows next.OutOfMemory old new start stream given a h = tt

pub refuses-more : (old new : Unread) (piece : List ℕ) (place : Place) (reason : Reason) → new ≡ with_piece piece old → RefusesAt old place reason → RefusesAt new place reason
refuses-more old new piece place reason e h = rw e (record { offset = h.offset; broken = broken_stays old.version old.rest piece h.offset reason h.broken; place_is = h.place_is })

pub refuses-again : (answer : NextFrame) (old new : Unread) (place : Place) (reason : Reason) → AnswersFrame answer old new → RefusesAt old place reason → (answer ≡ next.Refused place reason) ⊎ (answer ≡ next.OutOfMemory)
refuses-again (next.Frame at frame) old new place reason a h = absurd (let e : Whole frame a.0 ≡ Broken h.offset reason = sym a.1 ∙ h.broken in cc)
refuses-again next.Short old new place reason a h = absurd (let short = a.0 in let broken = h.broken in cc)
refuses-again (next.Refused at cause) old new place reason a h =
    let e : Broken a.0.offset cause ≡ Broken h.offset reason = sym a.0.broken ∙ h.broken in
    let offset : a.0.offset ≡ h.offset = cc in
    let same : cause ≡ reason = cc in
    let there : at ≡ place = place_is at place (omega (arith, a.0.place_is, h.place_is, offset)) in
    inl cc
refuses-again next.OutOfMemory old new place reason a h = inr refl

pub shorter-frame : (old new : Unread) (place : Place) (frame : Frame) → AnswersFrame (next.Frame place frame) old new → length new.rest < length old.rest
shorter-frame old new place frame a =
    let within = front_within old.version old.rest frame a.0 a.1 in
    rw a.3 (omega (arith, within.0, within.1, length-drop a.0 old.rest))

pub ruleset answers = (refuses-again, shorter-frame)

pub frame_within : (size : ℕ) (reader : Unread) → HasFrame size reader → size ≤ length reader.rest
frame_within size reader h = (front_within reader.version reader.rest h.0 size h.1).1
