-- What a head is, whatever stands behind it.
use Rattle.std.proofs.Common.{◌≡◌, ℕ, suc, ◌+◌, ◌≤◌, ◌<◌, inl, inr, List, [], ◌∷◌, ◌++◌, length, take, refl, sym, ap, ◌∙◌, arith, length-append, add-one}
use Rattle.std.specs.Prelude.{pos}
use Rattle.std.specs.Int.{Width, w8, w16, w32, w64, w128, byte_len, from_be_bytes, cast_signed}
use Rattle.std.proofs.lemmas.Bool.{cases_lt, le-ltb, lt-ltb}
use Rattle.std.proofs.lemmas.List.{take-take, take-append-le, length-take}
use Rattle.wire_base.specs.declared.reason.Reason.{Reason}
use Rattle.wire_base.specs.declared.token.TokenHead.{TokenHead}
use Rattle.wire_base.specs.declared.token.TokenHead.TheVariants as token
use Rattle.wire_base.specs.declared.token.HeadStep.{HeadStep}
use Rattle.wire_base.specs.declared.token.HeadStep.TheVariants.{Got, Refused, Short}
use Rattle.wire_base.specs.Head.{Kind, whole_head, unsigned, signed, str, bin, array, map, refused, kind_of, numbered, read_kind, head_of}

-- what holds of a head by the first byte alone, of a number behind it, and of a refusal, holds of every kind
by_kind : (P : (List ℕ → HeadStep) → Type 0) → ((h : TokenHead) → P (λ rest. Got h 1)) → ((w : Width) (f : ℕ → TokenHead) → P (numbered w f)) → ((r : Reason) → P (λ rest. Refused r)) → (k : Kind) → P (read_kind k)
by_kind P at_once number refuse (whole_head h) = at_once h
by_kind P at_once number refuse (unsigned w) = number w (λ n. token.Whole (pos n))
by_kind P at_once number refuse (signed w) = number w (λ n. token.Whole (cast_signed w n))
by_kind P at_once number refuse (str w) = number w (λ n. token.Str n)
by_kind P at_once number refuse (bin w) = number w (λ n. token.Bin n)
by_kind P at_once number refuse (array w) = number w (λ n. token.Array n)
by_kind P at_once number refuse (map w) = number w (λ n. token.Map n)
by_kind P at_once number refuse (refused r) = refuse r

module _ (w : Width) (f : ℕ → TokenHead) where
  numbered_short : (rest : List ℕ) → length rest < byte_len w → numbered w f rest ≡ Short
  numbered_short rest lt = rw (lt-ltb (length rest) (byte_len w) lt) refl

  numbered_got : (rest : List ℕ) → byte_len w ≤ length rest → numbered w f rest ≡ Got (f (from_be_bytes w (take (byte_len w) rest))) (byte_len w + 1)
  numbered_got rest le = rw (le-ltb (length rest) (byte_len w) le) refl

  -- a number that was read was there
  numbered_there : (rest : List ℕ) (h : TokenHead) (n : ℕ) → numbered w f rest ≡ Got h n → (byte_len w ≤ length rest) × (n ≡ byte_len w + 1)
  numbered_there rest h n e = elim (cases_lt (length rest) (byte_len w)) [
    | inl lt ↦ let short = numbered_short rest lt in absurd (cc)
    | inr le ↦ let got = numbered_got rest le in (le, cc)
  ]

  pub numbered_not_refused : (rest : List ℕ) (r : Reason) → numbered w f rest ≡ Refused r → ⊥
  numbered_not_refused rest r e = elim (cases_lt (length rest) (byte_len w)) [
    | inl lt ↦ let short = numbered_short rest lt in cc
    | inr le ↦ let got = numbered_got rest le in cc
  ]

  numbered-append : (rest more : List ℕ) → byte_len w ≤ length rest → numbered w f (rest ++ more) ≡ numbered w f rest
  numbered-append rest more le =
      numbered_got (rest ++ more) (omega (arith, length-append rest more))
      ∙ ap (λ (bytes : List ℕ). Got (f (from_be_bytes w bytes)) (byte_len w + 1)) (take-append-le (byte_len w) rest more le)
      ∙ sym (numbered_got rest le)

  numbered-take : (rest : List ℕ) → byte_len w ≤ length rest → numbered w f (take (byte_len w) rest) ≡ numbered w f rest
  numbered-take rest le =
      numbered_got (take (byte_len w) rest) (simp length-take (omega arith))
      ∙ ap (λ (bytes : List ℕ). Got (f (from_be_bytes w bytes)) (byte_len w + 1)) (take-take (byte_len w) (byte_len w) rest (omega arith))
      ∙ sym (numbered_got rest le)

-- a head takes a byte at least, and stands within the bytes
pub head_within : (bytes : List ℕ) (h : TokenHead) (n : ℕ) → head_of bytes ≡ Got h n → (0 < n) × (n ≤ length bytes)
head_within [] h n e = absurd (cc)
head_within (b ∷ rest) h n e = by_kind (λ read. read rest ≡ Got h n → (0 < n) × (n ≤ suc (length rest)))
    (λ g e. let is_1 : n ≡ 1 = cc in (omega arith, omega arith))
    (λ w f e. let there = numbered_there w f rest h n e in (omega (arith, there.1), omega (arith, there.0, there.1)))
    (λ r e. absurd (cc))
    (kind_of b) e

-- what follows doesn't change a head
pub head_stays : (bytes more : List ℕ) (h : TokenHead) (n : ℕ) → head_of bytes ≡ Got h n → head_of (bytes ++ more) ≡ Got h n
head_stays [] more h n e = absurd (cc)
head_stays (b ∷ rest) more h n e = by_kind (λ read. read rest ≡ Got h n → read (rest ++ more) ≡ Got h n)
    (λ g e. e)
    (λ w f e. let there = numbered_there w f rest h n e in numbered-append w f rest more there.0 ∙ e)
    (λ r e. absurd (cc))
    (kind_of b) e

-- a refusal is by the first byte, whatever follows
pub refused_first : (b : ℕ) (rest more : List ℕ) (r : Reason) → head_of (b ∷ rest) ≡ Refused r → head_of (b ∷ more) ≡ Refused r
refused_first b rest more r e = by_kind (λ read. read rest ≡ Refused r → read more ≡ Refused r)
    (λ g e. absurd (cc))
    (λ w f e. absurd (numbered_not_refused w f rest r e))
    (λ s e. e)
    (kind_of b) e

-- what follows doesn't change a refusal
pub refused_stays : (bytes more : List ℕ) (r : Reason) → head_of bytes ≡ Refused r → head_of (bytes ++ more) ≡ Refused r
refused_stays [] more r e = absurd (cc)
refused_stays (b ∷ rest) more r e = refused_first b rest (rest ++ more) r e

-- a head's own bytes are enough
pub head_front : (bytes : List ℕ) (h : TokenHead) (n : ℕ) → head_of bytes ≡ Got h n → head_of (take n bytes) ≡ Got h n
head_front [] h n e = absurd (cc)
head_front (b ∷ rest) h n e = by_kind (λ read. (front : List ℕ → HeadStep) → ((s : List ℕ) → front (b ∷ s) ≡ read s) → read rest ≡ Got h n → front (take n (b ∷ rest)) ≡ Got h n)
    (λ g front is e. let is_1 : n ≡ 1 = cc in rw (is_1, is (take 0 rest)) (cc))
    (λ w f front is e. let there = numbered_there w f rest h n e in
    let taken : take n (b ∷ rest) ≡ b ∷ take (byte_len w) rest = rw (there.1, add-one (byte_len w)) refl in
    rw taken (is (take (byte_len w) rest) ∙ (numbered-take w f rest there.0 ∙ e)))
    (λ r front is e. absurd (cc))
    (kind_of b) head_of (λ s. refl) e

-- fewer of a head's bytes are not enough
pub head_cut : (bytes more : List ℕ) (h : TokenHead) (n : ℕ) → head_of (bytes ++ more) ≡ Got h n → length bytes < n → head_of bytes ≡ Short
head_cut [] more h n e lt = refl
head_cut (b ∷ rest) more h n e lt = by_kind (λ read. read (rest ++ more) ≡ Got h n → read rest ≡ Short)
    (λ g e. let is_1 : n ≡ 1 = cc in absurd (omega arith))
    (λ w f e. let there = numbered_there w f (rest ++ more) h n e in numbered_short w f rest (omega (arith, there.1)))
    (λ r e. absurd (cc))
    (kind_of b) e

-- what isn't whole isn't refused later
pub kind_unfinished : (k : Kind) (rest other : List ℕ) (r : Reason) → read_kind k rest ≡ Short → read_kind k other ≡ Refused r → ⊥
kind_unfinished k rest other r = by_kind (λ read. read rest ≡ Short → read other ≡ Refused r → ⊥)
    (λ g e d. cc)
    (λ w f e d. numbered_not_refused w f other r d)
    (λ q e d. cc)
    k

pub byte_len_most : (w : Width) → byte_len w ≤ 16
byte_len_most w8 = omega arith
byte_len_most w16 = omega arith
byte_len_most w32 = omega arith
byte_len_most w64 = omega arith
byte_len_most w128 = omega arith

-- no head is longer
pub head_most : (bytes : List ℕ) (h : TokenHead) (n : ℕ) → head_of bytes ≡ Got h n → n ≤ 17
head_most [] h n e = absurd (cc)
head_most (b ∷ rest) h n e = by_kind (λ read. read rest ≡ Got h n → n ≤ 17)
    (λ g e. let is_1 : n ≡ 1 = cc in omega arith)
    (λ w f e. let there = numbered_there w f rest h n e in omega (arith, there.1, byte_len_most w))
    (λ r e. absurd (cc))
    (kind_of b) e
