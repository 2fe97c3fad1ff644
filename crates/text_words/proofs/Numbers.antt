-- Decimal words.
use Rattle.std.proofs.Common.{◌≡◌, ◌≢◌, ℕ, zero, suc, ◌^◌, ◌<◌, Bool, true, false, cond, ltb, eqb, ◌||◌, ◌&&◌, lit<, List, length, get_or, refl, sym, ap, ◌∙◌, subst, Option, Some, None, Result, Ok, Err, arith}
use Rattle.std.specs.Fmt.{decimal}
use Rattle.std.specs.Result.{result_ok}
use Rattle.std.specs.Str.{bytes_eq}
use Rattle.std.specs.Str.Parse.{digits_value, AllDigits, ParsesUnsigned}
use Rattle.std.proofs.lemmas.Str.Parse.{IsNumeralModel, numerals_by_value, tells_digits, parse_plain}
use Rattle.std.proofs.lemmas.Fmt.{decimal_nonempty, first_decimal, decimal_digit, decimal-digits_value, digits_decimal, digits_value-decimal}
use Rattle.std.proofs.lemmas.Bool.Decides.{nat_tests}
use Rattle.text_words.proofs.ByteTests.{bytes_eq-same, same_from_bytes_eq}
use Rattle.rpc_items.specs.Meanings.{zero_digit}
use Rattle.text_words.specs.Bytes.{plus}
use Rattle.text_words.specs.Written.{number_bound}
use Rattle.text_words.specs.Reading.{decimal_base, number_in, has_other_front}

pub own : IsNumeralModel (AllDigits decimal_base) (digits_value decimal_base)
own = numerals_by_value (AllDigits decimal_base) tells_digits

-- a number, written
pub number_in-decimal : (n : ℕ) → n < number_bound → number_in (decimal n) ≡ Some n
unfolding number_in
number_in-decimal n lt =
    let v : digits_value decimal_base (decimal n) ≡ n = digits_value-decimal own n (omega arith) in
    let small : ltb n number_bound ≡ true = grind (arith, nat_tests) in
    rw (v, small, bytes_eq-same (decimal n) (decimal n) refl) refl

-- what number_in found, in its parts
chosen : (b d : Bool) (v n : ℕ) → cond b (cond d (Some v) None) None ≡ Some n → (b ≡ true) × (d ≡ true) × (v ≡ n)
chosen true true v n h = (refl, refl, cc)
chosen true false v n h = cc
chosen false true v n h = cc
chosen false false v n h = cc

-- a number that was read
pub number_in-some : (word : List ℕ) (n : ℕ) → number_in word ≡ Some n → (n < number_bound) × (decimal n ≡ word)
unfolding number_in
number_in-some word n h =
    let p = chosen (ltb (digits_value decimal_base word) number_bound) (bytes_eq (decimal (digits_value decimal_base word)) word) (digits_value decimal_base word) n h in
    let same = same_from_bytes_eq (decimal (digits_value decimal_base word)) word p.1 in
    let v = p.2 in
    (grind (arith, nat_tests), rw v at same)

-- what has no value
pub none_or_some : (o : Option ℕ) → ((n : ℕ) → o ≡ Some n → ⊥) → o ≡ None
none_or_some None h = refl
none_or_some (Some n) h = absurd (h n refl)

front_fails : (first len : ℕ) → zero_digit < first → (eqb first plus || (eqb first zero_digit && ltb 1 len)) ≡ true → ⊥
front_fails first len lt h = grind (arith, nat_tests)

-- a number has no other front
front_of_decimal : (n : ℕ) → n < number_bound → has_other_front (decimal n) ≡ true → ⊥
front_of_decimal zero lt h = let e = rw (decimal_digit 0 (lit< tt)) at h in cc
front_of_decimal (suc n) lt h =
    front_fails (get_or (decimal (suc n)) 0 0) (length (decimal (suc n))) (first_decimal (suc n) (omega arith) (omega arith)) h

-- what begins as no number does
pub number_in-other_front : (word : List ℕ) → has_other_front word ≡ true → number_in word ≡ None
number_in-other_front word h = none_or_some (number_in word) (λ n e.
    let s = number_in-some word n e in
    front_of_decimal n s.0 (rw (s.1) h))

-- the front of a number that parse reads too
plain_front : (first len : ℕ) → 0 < len → (eqb first plus || (eqb first zero_digit && ltb 1 len)) ≡ false → (first ≢ plus) × (first ≡ zero_digit → len ≡ 1)
plain_front first len lt h = (λ e. grind (arith, nat_tests), λ e. grind (arith, nat_tests))

sign_front : (first len : ℕ) → (eqb first plus || (eqb first zero_digit && ltb 1 len)) ≡ false → first ≢ plus
sign_front first len h = λ e. grind (arith, nat_tests)

-- what parse answers
pub number_in-parse : {E : Type 0} (word : List ℕ) (r : Result ℕ E) → has_other_front word ≡ false → ParsesUnsigned 32 decimal_base word r → result_ok r ≡ number_in word
number_in-parse {E} word (Ok x) plain h =
    let p = parse_plain own {E = E} 32 word (Ok x) h (sign_front (get_or word 0 0) (length word) plain) in
    let f = plain_front (get_or word 0 0) (length word) p.0.1 plain in
    let small : digits_value decimal_base word < 2 ^ 64 = omega (arith, p.0.2) in
    let d = decimal-digits_value own word p.0.0 p.0.1 f.1 small in
    let e = number_in-decimal (digits_value decimal_base word) p.0.2 in
    ap Some p.1 ∙ sym e ∙ ap number_in d
number_in-parse {E} word (Err e) plain h =
    let p = parse_plain own {E = E} 32 word (Err e) h (sign_front (get_or word 0 0) (length word) plain) in
    sym (none_or_some (number_in word) (λ n s.
    let w = number_in-some word n s in
    let P : List ℕ → Type 0 = λ ds. AllDigits decimal_base ds × (0 < length ds) × (digits_value decimal_base ds < number_bound) in
    p (subst P w.1 (digits_decimal own n (omega arith), decimal_nonempty n (omega arith), rw (digits_value-decimal own n (omega arith)) w.0))))

pub ruleset numbers = (number_in-other_front, number_in-parse)
