-- Numbers with a sign in front.
use Rattle.std.proofs.Common.{◌≡◌, ◌≢◌, ◌<◌, ℕ, pos, Bool, true, false, eqb, inl, inr, List, [], ◌∷◌, length, refl, sym, ap, ◌∙◌, subst, Some, None, arith}
use Rattle.std.specs.Fmt.{decimal}
use Rattle.std.specs.Option.{option_map}
use Rattle.std.specs.Str.Parse.{AllDigits}
use Rattle.std.proofs.lemmas.Bool.Decides.{nat_tests}
use Rattle.std.proofs.lemmas.Fmt.{decimal_nonempty, digits_decimal}
use Rattle.std.proofs.lemmas.Option.{option_and_then_some}
use Rattle.std.proofs.lemmas.Str.Parse.{digit_from_value}
use Rattle.text_words.specs.Bytes.{minus}
use Rattle.text_words.specs.Written.{Signed, signed_word, signed_value, is_number}
use Rattle.text_words.specs.Reading.{decimal_base, number_in, signed_in, with_sign}
use Rattle.text_words.proofs.ByteTests.{tested}
use Rattle.text_words.proofs.Numbers.{own, none_or_some, number_in-some}
use Rattle.text_words.proofs.Values.{number_in-word, number_in-is}

-- the empty word is no number
number_in-empty : number_in [] ≡ None
number_in-empty = none_or_some (number_in []) (λ n e.
    let p = number_in-some [] n e in
    let some : 0 < length (decimal n) = decimal_nonempty n (omega arith) in
    let none : length (decimal n) ≡ 0 = ap length p.1 in
    omega arith)

-- a word without a minus in front
signed_in-plain : (word : List ℕ) → ((rest : List ℕ) → word ≢ minus ∷ rest) → signed_in word ≡ with_sign false word
unfolding signed_in
signed_in-plain [] h = rw number_in-empty refl
signed_in-plain (c ∷ cs) h =
    let differs : c ≢ minus = λ e. h cs (ap (λ x. x ∷ cs) e) in
    let other : eqb c minus ≡ false = grind (arith, nat_tests) in
    rw other refl

pub signed_in-none : (word : List ℕ) → ((rest : List ℕ) → word ≢ minus ∷ rest) → number_in word ≡ None → option_map signed_value (signed_in word) ≡ None
signed_in-none word h e = rw (signed_in-plain word h, e) refl

pub signed_in-number : (word : List ℕ) (n : ℕ) → ((rest : List ℕ) → word ≢ minus ∷ rest) → number_in word ≡ Some n → option_map signed_value (signed_in word) ≡ Some (pos n)
signed_in-number word n h e = rw (signed_in-plain word h, e) refl

-- no number has a minus in front
no_minus : (n : ℕ) → is_number n ≡ true → (rest : List ℕ) → decimal n ≢ minus ∷ rest
no_minus n h rest e =
    let P : List ℕ → Type 0 = AllDigits decimal_base in
    let digits = subst P e (digits_decimal own n (grind (arith, nat_tests))) in
    let r = digit_from_value minus digits.0 in
    omega arith

-- ---- what is written is read

signed_in-parts : (negative : Bool) (size : ℕ) → is_number size ≡ true
    → signed_in (signed_word (record { negative = negative; size = size })) ≡ Some (record { negative = negative; size = size })
unfolding signed_in
signed_in-parts true size h = rw (number_in-word size h) refl
signed_in-parts false size h = signed_in-plain (decimal size) (no_minus size h) ∙ rw (number_in-word size h) refl

pub signed_in-word : (x : Signed) → is_number x.size ≡ true → signed_in (signed_word x) ≡ Some x
signed_in-word x h = signed_in-parts x.negative x.size h

-- ---- what is read is written so

with_sign-some : (negative : Bool) (digits : List ℕ) (x : Signed) → with_sign negative digits ≡ Some x
    → (negative ≡ x.negative) × (decimal x.size ≡ digits) × (is_number x.size ≡ true)
with_sign-some negative digits x h =
    option_and_then_some _ (number_in digits) x h (λ n e g.
    let p = number_in-is digits n e in
    let same : record { negative = negative; size = n } ≡ x = cc in
    (ap (λ (s : Signed). s.negative) same, ap (λ (s : Signed). decimal s.size) (sym same) ∙ p.0, rw (← same) p.1))

pub signed_in-some : (w : List ℕ) (x : Signed) → signed_in w ≡ Some x → (signed_word x ≡ w) × (is_number x.size ≡ true)
unfolding signed_in
signed_in-some [] x h = cc h
signed_in-some (b ∷ bs) x h = elim (tested (eqb b minus)) [
  | inl e ↦
      let p = with_sign-some true bs x (rw e at h) in
      let front : b ≡ minus = grind (arith, nat_tests) in
      (rw (← p.0, front, p.1) refl, p.2)
  | inr e ↦
      let p = with_sign-some false (b ∷ bs) x (rw e at h) in
      (rw (← p.0) p.1, p.2)
]
