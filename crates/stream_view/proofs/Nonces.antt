-- What stands at the front of a handshake is the same at every end, but where the peer's nonce is its own.
use Rattle.std.proofs.Common.{◌≡◌, ◌≢◌, ℕ, ◌-◌, ◌≤◌, List, [], ◌∷◌, length, take, drop, Bool, true, false, cond, Ok, Err, refl, sym, ap, ◌∙◌, subst, arith}
use Rattle.std.specs.Prelude.{nat_lt}
use Rattle.std.specs.Int.{w8}
use Rattle.std.specs.Str.{bytes_eq}
use Rattle.std.proofs.lemmas.List.{length-take-le}
use Rattle.std.proofs.lemmas.Bool.{ltb-false}
use Rattle.std.proofs.lemmas.Slice.Eq.{bytes_eq-Decides}
use Rattle.wire_base.specs.Front.{Whole, Broken, front_of}
use Rattle.wire_base.specs.declared.frame.Version.{Version}
use Rattle.wire_base.specs.declared.frame.Version.TheVariants as version
use Rattle.wire_base.specs.declared.place.Place.{Place}
use Rattle.wire_base.specs.declared.reason.Reason.{Reason}
use Rattle.wire_base.specs.declared.reason.Reason.TheVariants.{BadMagic, SameNonce, BadShape2}
use Rattle.wire_base.specs.declared.reading.Fault.{Fault}
use Rattle.wire_base.specs.declared.reading.Fault.TheVariants.{Ends, Breaks}
use Rattle.wire_base.specs.Tokens.{Reading, Reader, follow, only, a_number, a_bin, an_array, count_in, token_at, field_at, bytes_at}
use Rattle.mux_items.specs.declared.party.Party.{Party}
use Rattle.mux_items.specs.Parties.{party_by}
use Rattle.mux_handshake.specs.Handshake.{Handshake, nonce_at, major_at, plain_at, packed_at, handshake_at, handshake}
use Rattle.mux_handshake.specs.Shaking.{Shakes}
use Rattle.mux_handshake.specs.declared.shaken.Shaken.{Shaken}
use Rattle.mux_handshake.specs.declared.shaken.Shaken.TheVariants as shaken
use Rattle.mux_handshake.proofs.Stopping.{judged}
use Rattle.stream_view.specs.Answers.{Greets}

-- both read to the same place, or break there by the same rule
abbrev pub AreAlike : Reading Party → Reading Party → Type 0
AreAlike (Ok x) (Ok y) = x.1 ≡ y.1
AreAlike (Ok x) (Err f) = ⊥
AreAlike (Err e) (Ok y) = ⊥
AreAlike (Err e) (Err f) = e ≡ f

abbrev pub IsRead : Reading Party → Type 0
IsRead (Ok x) = Unit {0}
IsRead (Err e) = ⊥

-- the first of two ends met its own nonce, and the second didn't
pub record MetFirst (r s t : Reading Party) : Type 0 where
  pub left : ℕ
  pub met : r ≡ Err (Breaks left SameNonce)
  pub alike : AreAlike s t

-- what is read at two ends with different nonces, and at one without: both are like the last, but where one met its own nonce
pub data OneMet (r s t : Reading Party) : Type 0 where
  neither : AreAlike r t → AreAlike s t → OneMet r s t
  first : MetFirst r s t → OneMet r s t
  second : AreAlike r t → IsRead t → OneMet r s t

follow_met : {A : Type 0} (r : Reading A) (k l m : A → Reader Party) → ((x : A) (rest : List ℕ) → OneMet (k x rest) (l x rest) (m x rest)) → OneMet (follow r k) (follow r l) (follow r m)
follow_met (Ok x) k l m h = h x.0 x.1
follow_met (Err fault) k l m h = neither refl refl

tests_met : (p q r : Bool) (total : ℕ) (rest : List ℕ) (x y z : Party) → (p ≡ true → q ≡ true → ⊥) → r ≡ false
    → OneMet (cond p (Err (Breaks total SameNonce)) (Ok (x, rest))) (cond q (Err (Breaks total SameNonce)) (Ok (y, rest))) (cond r (Err (Breaks total SameNonce)) (Ok (z, rest)))
tests_met p q true total rest x y z h e = absurd cc
tests_met true true false total rest x y z h e = absurd (h refl refl)
tests_met true false false total rest x y z h e = first (record { left = total; met = refl; alike = refl })
tests_met false true false total rest x y z h e = second refl tt
tests_met false false false total rest x y z h e = neither refl refl

other_nonce : (same : Bool) (a nonce : List ℕ) → bytes_eq a nonce ≡ same → a ≢ nonce → bytes_eq a nonce ≡ false
other_nonce true a nonce e differ = absurd (differ ((bytes_eq-Decides a nonce).0 e))
other_nonce false a nonce e differ = e

judged_met : (a b : List ℕ) (total : ℕ) (nonce rest : List ℕ) → a ≢ b → [] ≢ nonce → OneMet (judged a total nonce rest) (judged b total nonce rest) (judged [] total nonce rest)
judged_met a b total nonce rest differ some =
    tests_met (bytes_eq a nonce) (bytes_eq b nonce) (bytes_eq [] nonce) total rest (party_by a nonce) (party_by b nonce) (party_by [] nonce)
    (λ e f. differ ((bytes_eq-Decides a nonce).0 e ∙ sym ((bytes_eq-Decides b nonce).0 f)))
    (other_nonce (bytes_eq [] nonce) [] nonce refl some)

read_met : (a b : List ℕ) (total : ℕ) (r : Reading (List ℕ)) → a ≢ b → ((x : List ℕ × List ℕ) → r ≡ Ok x → [] ≢ x.0) → OneMet (follow r (judged a total)) (follow r (judged b total)) (follow r (judged [] total))
read_met a b total (Ok x) differ some = judged_met a b total x.0 x.1 differ (some x refl)
read_met a b total (Err fault) differ some = neither refl refl

whole_by : (short : Bool) (bytes : List ℕ) (x : List ℕ × List ℕ) → nat_lt (length bytes) 16 ≡ short → cond short (Err Ends) (Ok (take 16 bytes, drop 16 bytes)) ≡ Ok x → [] ≢ x.0
whole_by true bytes x t e none = absurd cc
whole_by false bytes x t e none =
    let h : 16 ≤ length bytes = ltb-false (length bytes) 16 t in
    let is : take 16 bytes ≡ x.0 = cc in
    omega (arith, ap length none, ap length is, length-take-le 16 bytes h)

whole_nonce : (bytes : List ℕ) (x : List ℕ × List ℕ) → bytes_at 16 bytes ≡ Ok x → [] ≢ x.0
unfolding bytes_at
whole_nonce bytes x e = whole_by (nat_lt (length bytes) 16) bytes x refl e

nonce_met : (a b : List ℕ) → a ≢ b → (bytes : List ℕ) → OneMet (nonce_at a bytes) (nonce_at b bytes) (nonce_at [] bytes)
unfolding nonce_at
nonce_met a b differ bytes = read_met a b (length bytes) (bytes_at 16 bytes) differ (whole_nonce bytes)

plain_met : (a b : List ℕ) → a ≢ b → (bytes : List ℕ) → OneMet (plain_at a bytes) (plain_at b bytes) (plain_at [] bytes)
unfolding plain_at
plain_met a b differ bytes =
    follow_met (field_at w8 (only 0x2f) BadMagic bytes) _ _ _ (λ first one.
    follow_met (field_at w8 (only 0xdf) BadMagic one) _ _ _ (λ second two.
    follow_met (field_at w8 (only 0x1d) BadMagic two) _ _ _ (λ third three.
    follow_met (field_at w8 (only 0x50) BadMagic three) _ _ _ (λ fourth. nonce_met a b differ))))

packed_met : (a b : List ℕ) → a ≢ b → (bytes : List ℕ) → OneMet (packed_at a bytes) (packed_at b bytes) (packed_at [] bytes)
unfolding packed_at
packed_met a b differ bytes =
    follow_met (token_at an_array (only 2) BadShape2 bytes) _ _ _ (λ parts one.
    follow_met (token_at an_array (only 2) BadShape2 one) _ _ _ (λ numbers two.
    follow_met (major_at two) _ _ _ (λ major three.
    follow_met (token_at a_number count_in BadShape2 three) _ _ _ (λ minor four.
    follow_met (token_at a_bin (only 16) BadShape2 four) _ _ _ (λ size. nonce_met a b differ)))))

handshake_met : (v : Version) (a b : List ℕ) → a ≢ b → (bytes : List ℕ) → OneMet (handshake_at v a bytes) (handshake_at v b bytes) (handshake_at v [] bytes)
handshake_met version.One a b differ bytes = plain_met a b differ bytes
handshake_met version.Two a b differ bytes = packed_met a b differ bytes
handshake_met version.Three a b differ bytes = neither refl refl

-- ---- what is answered

broken_greets : (s : Shaken) (bytes : List ℕ) (total : ℕ) (fault : Fault) → Shakes s bytes (front_of total (Err fault)) → Greets s bytes (front_of total (Err fault))
broken_greets (shaken.Done party size) bytes total Ends h = absurd (let e = h.0 in cc)
broken_greets (shaken.Done party size) bytes total (Breaks left reason) h = absurd (let e = h.0 in cc)
broken_greets shaken.Short bytes total fault h = h
broken_greets (shaken.Refused place reason) bytes total fault h = h.0

alike_greets : (s : Shaken) (bytes : List ℕ) (total : ℕ) (r t : Reading Party) → AreAlike r t → Shakes s bytes (front_of total r) → Greets s bytes (front_of total t)
alike_greets s bytes total (Ok x) (Err f) alike h = absurd alike
alike_greets s bytes total (Err e) (Ok y) alike h = absurd alike
alike_greets s bytes total (Err e) (Err f) alike h = broken_greets s bytes total f (subst (λ (e : Fault). Shakes s bytes (front_of total (Err e))) alike h)
alike_greets (shaken.Done party size) bytes total (Ok x) (Ok y) alike h =
    let e : Whole x.0 (total - length x.1) ≡ Whole party size = h.0 in
    let is : total - length x.1 ≡ size = cc in
    ((y.0, ap (λ n. Whole y.0 n) (ap (λ bs. total - length bs) (sym alike) ∙ is)), h.1)
alike_greets shaken.Short bytes total (Ok x) (Ok y) alike h = absurd cc
alike_greets (shaken.Refused place reason) bytes total (Ok x) (Ok y) alike h = absurd (let e = h.0 in cc)

-- it isn't that the own nonce was met
abbrev pub IsOther : Shaken → Type 0
IsOther s = (place : Place) → s ≢ shaken.Refused place SameNonce

same_reason : (offset at : ℕ) (found reason : Reason) (x y : Handshake) → x ≡ Broken offset found → y ≡ Broken at reason → x ≡ y → found ≡ reason
same_reason offset at found reason x y e f same = cc

met_greets : (s : Shaken) (bytes : List ℕ) (offset : ℕ) (front : Handshake) → IsOther s → Shakes s bytes (Broken offset SameNonce) → Greets s bytes front
met_greets (shaken.Done party size) bytes offset front other h = absurd (let e = h.0 in cc)
met_greets shaken.Short bytes offset front other h = absurd cc
met_greets (shaken.Refused place reason) bytes offset front other h =
    absurd (other place (ap (shaken.Refused place) (sym (same_reason offset place.0 SameNonce reason (Broken offset SameNonce) (Broken place.0 reason) refl refl h.0))))

read_breaks_not : (place : Place) (bytes : List ℕ) (total : ℕ) (r t : Reading Party) → AreAlike r t → IsRead t → Shakes (shaken.Refused place SameNonce) bytes (front_of total r) → ⊥
read_breaks_not place bytes total (Ok x) t alike is h = let e = h.0 in cc
read_breaks_not place bytes total (Err e) (Ok y) alike is h = alike
read_breaks_not place bytes total (Err e) (Err f) alike is h = is

-- one end's answer, which met no own nonce
first_greets : (v : Version) (a b bytes : List ℕ) (s : Shaken) → a ≢ b → Shakes s bytes (handshake v a bytes) → IsOther s → Greets s bytes (handshake v [] bytes)
unfolding handshake
first_greets v a b bytes s differ h other =
    elim (handshake_met v a b differ bytes) [
      | neither alike also ↦ alike_greets s bytes (length bytes) _ _ alike h
      | first m ↦ met_greets s bytes (length bytes - m.left) _ other (subst (λ (r : Reading Party). Shakes s bytes (front_of (length bytes) r)) m.met h)
      | second alike is ↦ alike_greets s bytes (length bytes) _ _ alike h
    ]

-- the answer of another end, where the first met its own nonce
second_greets : (v : Version) (a b bytes : List ℕ) (place : Place) (s : Shaken) → a ≢ b → Shakes (shaken.Refused place SameNonce) bytes (handshake v a bytes) → Shakes s bytes (handshake v b bytes) → Greets s bytes (handshake v [] bytes)
unfolding handshake
second_greets v a b bytes place s differ met h =
    elim (handshake_met v a b differ bytes) [
      | neither also alike ↦ alike_greets s bytes (length bytes) _ _ alike h
      | first m ↦ alike_greets s bytes (length bytes) _ _ m.alike h
      | second alike is ↦ absurd (read_breaks_not place bytes (length bytes) _ _ alike is met)
    ]

-- the nonces of the two ends that are asked
abbrev zeros : List ℕ
zeros = 0 ∷ 0 ∷ 0 ∷ 0 ∷ 0 ∷ 0 ∷ 0 ∷ 0 ∷ 0 ∷ 0 ∷ 0 ∷ 0 ∷ 0 ∷ 0 ∷ 0 ∷ 0 ∷ []

abbrev ones : List ℕ
ones = 1 ∷ 1 ∷ 1 ∷ 1 ∷ 1 ∷ 1 ∷ 1 ∷ 1 ∷ 1 ∷ 1 ∷ 1 ∷ 1 ∷ 1 ∷ 1 ∷ 1 ∷ 1 ∷ []

nonces_differ : zeros ≢ ones
nonces_differ e = cc

refused_reason : (p q : Place) (r s : Reason) → shaken.Refused p r ≡ shaken.Refused q s → r ≡ s
refused_reason p q r s e = cc

pub first_answer : (v : Version) (bytes : List ℕ) (s : Shaken) → Shakes s bytes (handshake v zeros bytes) → IsOther s → Greets s bytes (handshake v [] bytes)
first_answer v bytes s h other = first_greets v zeros ones bytes s nonces_differ h other

pub refused_answer : (v : Version) (bytes : List ℕ) (s : Shaken) (place : Place) (reason : Reason) → s ≡ shaken.Refused place reason → reason ≢ SameNonce → Shakes s bytes (handshake v zeros bytes) → Greets (shaken.Refused place reason) bytes (handshake v [] bytes)
refused_answer v bytes s place reason is other h =
    first_answer v bytes (shaken.Refused place reason) (subst (λ (s : Shaken). Shakes s bytes (handshake v zeros bytes)) is h) (λ p e. other (refused_reason place p reason SameNonce e))

pub second_answer : (v : Version) (bytes : List ℕ) (s t : Shaken) (place : Place) (reason : Reason) → s ≡ shaken.Refused place reason → reason ≡ SameNonce → Shakes s bytes (handshake v zeros bytes) → Shakes t bytes (handshake v ones bytes) → Greets t bytes (handshake v [] bytes)
second_answer v bytes s t place reason is same h later =
    second_greets v zeros ones bytes place t nonces_differ (subst (λ (s : Shaken). Shakes s bytes (handshake v zeros bytes)) (is ∙ ap (shaken.Refused place) same) h) later

pub ruleset greetings = (first_answer, refused_answer, second_answer)
