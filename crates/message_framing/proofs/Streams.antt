-- Readings of streams, as pieces come and bodies go.
use Rattle.std.proofs.Common.{◌≡◌, ℕ, ◌+◌, ◌<◌, ◌≤◌, ◌⊎◌, inl, inr, List, [], ◌∷◌, ◌++◌, length, take, drop, refl, sym, ap, ◌∙◌, arith, length-append, length-drop}
use Rattle.std.proofs.lemmas.List.{drop-append-le, take-append-le}
use Rattle.wire_base.specs.declared.place.Place.{Place}
use Rattle.wire_base.specs.declared.reason.Reason.{Reason}
use Rattle.message_framing.specs.declared.framing.Framing.{Framing}
use Rattle.message_framing.specs.declared.front.Front.{Front}
use Rattle.message_framing.specs.declared.front.Front.TheVariants.{Whole, Short, Broken}
use Rattle.wire_base.specs.Front as fronts
use Rattle.wire_base.specs.Given.{First}
use Rattle.wire_base.proofs.Fronts.{IsFrontWithin, IsFrontSteady}
use Rattle.wire_base.proofs.GivenLemmas.{IsSteadyWay, place_is, begins_more, begins_next}
use Rattle.message_framing.specs.declared.next_body.NextBody.{NextBody}
use Rattle.message_framing.specs.declared.next_body.NextBody.TheVariants as next
use Rattle.message_framing.specs.Front.{front, IsWithin}
use Rattle.message_framing.specs.Unread.{Unread, with_piece, without_front}
use Rattle.message_framing.specs.Answers.{AnswersBody, GivesBody, HasMessage, RefusesAt, front_body}
use Rattle.message_framing.specs.Reads.{message_of, messages, Begins, Reads, Follows, given_with}
use Rattle.message_framing.proofs.FrontLemmas.{front_within, whole_within, front_stays, broken_stays}

abbrev pub Placed : Type 0
Placed = ℕ × List ℕ

body_stays : (start size : ℕ) (stream more : List ℕ) → start + size ≤ length stream → take size (drop start stream) ≡ take size (drop start (stream ++ more))
body_stays start size stream more h =
    sym (take-append-le size (drop start stream) more (omega (arith, length-drop start stream)))
    ∙ ap (λ (s : List ℕ). take size s) (sym (drop-append-le start stream more (omega arith)))

message-within : (bytes : List ℕ) (x : Front) → IsWithin (length bytes) x → IsFrontWithin (length bytes) (message_of bytes x)
message-within bytes (Whole start size) h = (omega (arith, h.0), h.1)
message-within bytes Short h = tt
message-within bytes (Broken offset reason) h = h

message-stays : (f : Framing) (bytes more : List ℕ) (x : Front) → front f bytes ≡ x → IsFrontSteady (message_of bytes x) (message_of (bytes ++ more) (front f (bytes ++ more)))
message-stays f bytes more (Whole start size) e =
    let within = whole_within f bytes start size e in
    let same = body_stays start size bytes more within.1 in
    rw (front_stays f bytes more start size e) (ap (λ (body : List ℕ). fronts.Whole (start, body) (start + size)) (sym same))
message-stays f bytes more Short e = tt
message-stays f bytes more (Broken offset reason) e = ap (message_of (bytes ++ more)) (broken_stays f bytes more offset reason e)

pub messages_steady : (f : Framing) → IsSteadyWay (messages f)
messages_steady f = record { within = λ bytes. message-within bytes (front f bytes) (front_within f bytes); stays = λ bytes more. message-stays f bytes more (front f bytes) refl }

reads-piece : (reader : Unread) (stream : List ℕ) (given : List Placed) (piece : List ℕ) → Reads reader stream given → Reads (with_piece piece reader) (stream ++ piece) given
reads-piece reader stream given piece h = record {
  begins = begins_more (messages reader.framing) (messages_steady reader.framing) 0 stream given reader.rest piece h.begins;
  place_is = omega (arith, h.place_is, length-append reader.rest piece, length-append stream piece);
  fed_is = omega (arith, h.fed_is, length-append stream piece);
}

pub reads-fed : (old new : Unread) (stream : List ℕ) (given : List Placed) (piece : List ℕ) → new ≡ with_piece piece old → Reads old stream given → Reads new (stream ++ piece) given
reads-fed old new stream given piece e h = rw e (reads-piece old stream given piece h)

begins-given : (old new : Unread) (place : Place) (body : List ℕ) (stream : List ℕ) (given : List Placed) → (a : GivesBody old new place body) → Reads old stream given → Begins old.framing 0 stream (given ++ (place.0, body) ∷ []) (drop (a.start + a.size) old.rest)
begins-given old new place body stream given a h =
    let there : old.at + length old.rest ≡ 0 + length stream = omega (arith, h.place_is) in
    let first : First (messages old.framing) old.at old.rest (place.0, body) = record {
      value = (a.start, take a.size (drop a.start old.rest));
      size = a.start + a.size;
      whole = ap (message_of old.rest) a.whole;
      given_is = λ i. (a.place_is i, a.body_is i);
    } in
    begins_next (messages old.framing) (messages_steady old.framing) 0 stream given old.rest old.at (place.0, body) h.begins there first

reads-body : (old new : Unread) (place : Place) (body : List ℕ) (stream : List ℕ) (given : List Placed) → (a : GivesBody old new place body) → Reads old stream given → Reads (without_front (a.start + a.size) old) stream (given ++ (place.0, body) ∷ [])
reads-body old new place body stream given a h =
    let within = whole_within old.framing old.rest a.start a.size a.whole in
    record {
      begins = begins-given old new place body stream given a h;
      place_is = omega (arith, h.place_is, within.1, length-drop (a.start + a.size) old.rest);
      fed_is = h.fed_is;
    }

pub reads-answer : (answer : NextBody) (old new : Unread) (stream : List ℕ) (given : List Placed) → AnswersBody answer old new → Reads old stream given → Reads new stream (given_with answer given)
reads-answer (next.Body place body) old new stream given a h = rw a.then (reads-body old new place body stream given a h)
reads-answer next.Short old new stream given a h = rw a.1 h
reads-answer (next.Refused place reason) old new stream given a h = rw a.1 h
reads-answer next.OutOfMemory old new stream given a h = rw a h

pub answer-follows : (answer : NextBody) (old new : Unread) (stream : List ℕ) (given : List Placed) → AnswersBody answer old new → Reads old stream given → Follows old.framing stream given answer
answer-follows (next.Body place body) old new stream given a h = (drop (a.start + a.size) old.rest, begins-given old new place body stream given a h)
answer-follows next.Short old new stream given a h = (old.rest, h.begins, a.0)
answer-follows (next.Refused place reason) old new stream given a h =
    record { rest = old.rest; offset = a.0.offset; begins = h.begins; broken = a.0.broken; place_is = omega (arith, h.place_is, a.0.place_is) }
answer-follows next.OutOfMemory old new stream given a h = tt

pub refuses-more : (old new : Unread) (piece : List ℕ) (place : Place) (reason : Reason) → new ≡ with_piece piece old → RefusesAt old place reason → RefusesAt new place reason
refuses-more old new piece place reason e h = rw e (record { offset = h.offset; broken = broken_stays old.framing old.rest piece h.offset reason h.broken; place_is = h.place_is })

pub refuses-again : (answer : NextBody) (old new : Unread) (place : Place) (reason : Reason) → AnswersBody answer old new → RefusesAt old place reason → (answer ≡ next.Refused place reason) ⊎ (answer ≡ next.OutOfMemory)
refuses-again (next.Body at body) old new place reason a h = absurd (let e : Whole a.start a.size ≡ Broken h.offset reason = sym a.whole ∙ h.broken in cc)
refuses-again next.Short old new place reason a h = absurd (let e : Short ≡ Broken h.offset reason = sym a.0 ∙ h.broken in cc)
refuses-again (next.Refused at cause) old new place reason a h =
    let e : Broken a.0.offset cause ≡ Broken h.offset reason = sym a.0.broken ∙ h.broken in
    let offset : a.0.offset ≡ h.offset = cc in
    let same : cause ≡ reason = cc in
    let there : at ≡ place = place_is at place (omega (arith, a.0.place_is, h.place_is, offset)) in
    inl cc
refuses-again next.OutOfMemory old new place reason a h = inr refl

-- the message at the front is given up

pub skip_within : (old : Unread) (start size : ℕ) → HasMessage start size old → start + size ≤ length old.rest
skip_within old start size m = (whole_within old.framing old.rest start size m).1

pub skip_reads : (old new : Unread) (start size : ℕ) (stream : List ℕ) (given : List Placed) → HasMessage start size old → new ≡ without_front (start + size) old → Reads old stream given → Reads new stream (given ++ front_body start size old ∷ [])
skip_reads old new start size stream given m e h =
    let then = without_front (start + size) old in
    let a : GivesBody old then (record { 0 = old.at + start }) (take size (drop start old.rest)) = record { start = start; size = size; whole = m; place_is = refl; body_is = refl; then = refl } in
    rw e (reads-body old then (record { 0 = old.at + start }) (take size (drop start old.rest)) stream given a h)

pub skip_refuses : (old new : Unread) (start size : ℕ) (place : Place) (reason : Reason) → HasMessage start size old → RefusesAt old place reason → RefusesAt new place reason
skip_refuses old new start size place reason m h = absurd (let e : Whole start size ≡ Broken h.offset reason = sym m ∙ h.broken in cc)

pub shorter-body : (old new : Unread) (place : Place) (body : List ℕ) → AnswersBody (next.Body place body) old new → length new.rest < length old.rest
shorter-body old new place body a =
    let within = whole_within old.framing old.rest a.start a.size a.whole in
    rw a.then (omega (arith, within.0, within.1, length-drop (a.start + a.size) old.rest))

pub ruleset answers = (refuses-again, shorter-body)
