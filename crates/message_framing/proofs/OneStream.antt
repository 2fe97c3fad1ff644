-- Readings of one stream are one.
use Rattle.std.proofs.Common.{◌≡◌, ◌≢◌, ℕ, ◌+◌, ◌-◌, ◌≤◌, List, [], ◌∷◌, ◌++◌, length, take, drop, refl, sym, ap, ◌∙◌, arith, length-append}
use Rattle.std.specs.List.{concat}
use Rattle.wire_base.specs.declared.place.Place.{Place}
use Rattle.wire_base.specs.declared.reason.Reason.{Reason}
use Rattle.message_framing.specs.declared.framing.Framing.{Framing}
use Rattle.message_framing.specs.declared.front.Front.{Front}
use Rattle.message_framing.specs.declared.front.Front.TheVariants.{Whole, Short, Broken}
use Rattle.message_framing.specs.declared.next_body.NextBody.{NextBody}
use Rattle.message_framing.specs.declared.next_body.NextBody.TheVariants as next
use Rattle.message_framing.specs.Front.{front}
use Rattle.message_framing.specs.Unread.{Unread}
use Rattle.message_framing.specs.Reads.{message_of, messages, Begins, Reads, Follows, HasNone}
use Rattle.message_framing.proofs.FrontLemmas.{broken_stays}
use Rattle.wire_base.specs.Front as fronts
use Rattle.wire_base.proofs.GivenLemmas.{place_is, value_is, begins_more, first_given, same_given, all_given, begins_within, last_given}
use Rattle.message_framing.proofs.Streams.{Placed, messages_steady}

pub all_from_start : (f : Framing) (stream : List ℕ) (given more : List Placed) (rest left : List ℕ) → Begins f 0 stream given rest → HasNone f rest → Begins f 0 stream more left → (later : List Placed) × (given ≡ more ++ later)
all_from_start f = all_given (messages f) (messages_steady f) 0

-- ---- readers

unread_is : (f g : Framing) (m n : ℕ) (s t : List ℕ) (k l : ℕ) → f ≡ g → m ≡ n → s ≡ t → k ≡ l → (let left : Unread = record { framing = f; at = m; rest = s; fed = k } in left) ≡ record { framing = g; at = n; rest = t; fed = l }
unread_is f g m n s t k l p q r e = rw (p, q, r, e) refl

pub pieces_given : (a b : Unread) (pieces others : List (List ℕ)) (given more : List Placed) → a.framing ≡ b.framing → concat pieces ≡ concat others → Reads a (concat pieces) given → Reads b (concat others) more → length given ≤ length more → (later : List Placed) × (more ≡ given ++ later)
pieces_given a b pieces others given more f s h k le =
    let begins : Begins a.framing 0 (concat pieces) more b.rest = rw (f, s) k.begins in
    first_given (messages a.framing) (messages_steady a.framing) 0 (concat pieces) given more a.rest b.rest h.begins begins le

pub pieces_left : (a b : Unread) (pieces others : List (List ℕ)) (given more : List Placed) → a.framing ≡ b.framing → concat pieces ≡ concat others → Reads a (concat pieces) given → Reads b (concat others) more → length given ≡ length more → (given ≡ more) × (a ≡ b)
pieces_left a b pieces others given more f s h k le =
    let begins : Begins a.framing 0 (concat pieces) more b.rest = rw (f, s) k.begins in
    let same = same_given (messages a.framing) (messages_steady a.framing) 0 (concat pieces) given more a.rest b.rest h.begins begins le in
    let len : length a.rest ≡ length b.rest = ap length same.1 in
    let all : length (concat pieces) ≡ length (concat others) = ap length s in
    (same.0, unread_is a.framing b.framing a.at b.at a.rest b.rest a.fed b.fed f (omega (arith, h.place_is, k.place_is, len, all)) same.1 (omega (arith, h.fed_is, k.fed_is, all)))

-- ---- answers

-- the answer by what stands at the front of these bytes, whose first byte stands at a place
answer_of : ℕ → List ℕ → Front → NextBody
answer_of at bytes (Whole start size) = next.Body (record { 0 = at + start }) (take size (drop start bytes))
answer_of at bytes Short = next.Short
answer_of at bytes (Broken offset reason) = next.Refused (record { 0 = at + offset }) reason

record Answered (f : Framing) (stream : List ℕ) (given : List Placed) (answer : NextBody) : Type 0 where
  pub rest : List ℕ
  pub at : ℕ
  pub begins : Begins f 0 stream given rest
  pub place_is : at + length rest ≡ length stream
  pub is : answer ≡ answer_of at rest (front f rest)

-- the first body of some bytes is the answer
first_answer : (at : ℕ) (bytes body : List ℕ) (place : Place) (found : Front) (value : ℕ × List ℕ) (size : ℕ) → message_of bytes found ≡ fronts.Whole value size → ◌≡◌ {A = Placed} (place.0, body) (at + value.0, value.1) → next.Body place body ≡ answer_of at bytes found
unfolding answer_of
first_answer at bytes body place (Whole start n) value size e given =
    let same : ◌≡◌ {A = Placed} (start, take n (drop start bytes)) value = value_is (start, take n (drop start bytes)) value (start + n) size e in
    let there : place.0 ≡ at + start = ap (λ (x : Placed). x.0) given ∙ ap (λ (x : Placed). at + x.0) (sym same) in
    let body_is : body ≡ take n (drop start bytes) = ap (λ (x : Placed). x.1) given ∙ ap (λ (x : Placed). x.1) (sym same) in
    λ i. next.Body (place_is place (record { 0 = at + start }) there i) (body_is i)
first_answer at bytes body place Short value size e given = absurd cc
first_answer at bytes body place (Broken offset reason) value size e given = absurd cc

answered : (f : Framing) (stream : List ℕ) (given : List Placed) (answer : NextBody) → Follows f stream given answer → answer ≢ next.OutOfMemory → Answered f stream given answer
unfolding answer_of
answered f stream given (next.Body place body) h some =
    let last = last_given (messages f) (messages_steady f) 0 stream given (place.0, body) h.0 h.1 in
    let m = last.first in
    record { rest = last.rest; at = last.there; begins = last.begins; place_is = omega (arith, last.place_is); is = first_answer last.there last.rest body place (front f last.rest) m.value m.size m.whole m.given_is }
answered f stream given next.Short h some =
    let within : length h.0 ≤ length stream = begins_within (messages f) (messages_steady f) 0 stream given h.0 h.1 in
    record { rest = h.0; at = length stream - length h.0; begins = h.1; place_is = omega arith; is = rw h.2 refl }
answered f stream given (next.Refused place reason) h some =
    let within : length h.rest ≤ length stream = begins_within (messages f) (messages_steady f) 0 stream given h.rest h.begins in
    let at = length stream - length h.rest in
    let there : place.0 ≡ at + h.offset = omega (arith, h.place_is) in
    record { rest = h.rest; at = at; begins = h.begins; place_is = omega arith; is = rw h.broken (ap (λ (p : Place). next.Refused p reason) (place_is place (record { 0 = at + h.offset }) there)) }
answered f stream given next.OutOfMemory h some = absurd (some refl)

pub one_answer : (f : Framing) (stream : List ℕ) (given : List Placed) (a b : NextBody) → Follows f stream given a → Follows f stream given b → a ≢ next.OutOfMemory → b ≢ next.OutOfMemory → a ≡ b
one_answer f stream given a b h k some other =
    let p = answered f stream given a h some in
    let q = answered f stream given b k other in
    let same : p.rest ≡ q.rest = (same_given (messages f) (messages_steady f) 0 stream given given p.rest q.rest p.begins q.begins refl).1 in
    let len : length p.rest ≡ length q.rest = ap length same in
    let there : p.at ≡ q.at = omega (arith, p.place_is, q.place_is, len) in
    p.is ∙ ap (λ (s : List ℕ). answer_of p.at s (front f s)) same ∙ ap (λ n. answer_of n q.rest (front f q.rest)) there ∙ sym q.is

pub refused_stays : (f : Framing) (stream more : List ℕ) (given : List Placed) (place : Place) (reason : Reason) → Follows f stream given (next.Refused place reason) → Follows f (stream ++ more) given (next.Refused place reason)
refused_stays f stream more given place reason h = record {
  rest = h.rest ++ more;
  offset = h.offset;
  begins = begins_more (messages f) (messages_steady f) 0 stream given h.rest more h.begins;
  broken = broken_stays f h.rest more h.offset reason h.broken;
  place_is = omega (arith, h.place_is, length-append h.rest more, length-append stream more);
}

pub body_stays : (f : Framing) (stream more : List ℕ) (given : List Placed) (place : Place) (body : List ℕ) → Follows f stream given (next.Body place body) → Follows f (stream ++ more) given (next.Body place body)
body_stays f stream more given place body h = (h.0 ++ more, begins_more (messages f) (messages_steady f) 0 stream (given ++ (place.0, body) ∷ []) h.0 more h.1)
