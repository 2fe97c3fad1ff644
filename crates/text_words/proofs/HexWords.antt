-- Hex words in lower case.
use Rattle.std.proofs.Common.{◌≡◌, ◌≢◌, ℕ, zero, suc, ◌+◌, ◌*◌, ◌/◌, ◌%◌, ◌<◌, Bool, true, false, cond, ltb, eqb, ◌||◌, ◌&&◌, List, [], ◌∷◌, length, slice_index, refl, sym, ap, ◌∙◌, Option, Some, None, option_and_then, Result, Ok, Err, arith, inl, inr, if◌then◌else◌}
use Rattle.std.specs.List.{list_any}
use Rattle.std.specs.Result.{result_ok, result_unwrap_or}
use Rattle.std.specs.Str.{bytes_eq}
use Rattle.std.proofs.lemmas.Bool.{cases_lt, and_parts, eqb-true}
use Rattle.std.proofs.lemmas.Bool.Decides.{nat_tests}
use Rattle.std.proofs.lemmas.List.{get_or_past}
use Rattle.hex.specs.Hex.{IsBytes, decode_of, decode_pairs, digit_or_error, hex_digit_value, encode_lower, encode_with, lower_digits, pair_value, value_at, ◌>>=◌}
use Rattle.hex.specs.declared.error.FromHexError.{FromHexError}
use Rattle.hex.proofs.HexLemmas.{decode_of-encode_lower, decode_pairs-ok, length-encode_with}
use Rattle.text_words.specs.Written.{hyphen, bytes_word}
use Rattle.text_words.specs.Reading.{bytes_in, is_capital, if_written}
use Rattle.text_words.proofs.ByteTests.{bytes_eq-same, same_from_bytes_eq, or_false, not_true, tested}

-- the digit of a value below 16
abbrev pub glyph : ℕ → ℕ
glyph d = if ltb d 10 then 48 + d else 87 + d

abbrev all_glyphs : ℕ → Bool
all_glyphs zero = true
all_glyphs (suc n) = eqb (slice_index lower_digits n) (glyph n) && all_glyphs n

all_glyphs-at : (n k : ℕ) → all_glyphs n ≡ true → k < n → slice_index lower_digits k ≡ glyph k
all_glyphs-at zero k h lt = absurd (omega arith)
all_glyphs-at (suc n) k h lt =
    let parts = and_parts (eqb (slice_index lower_digits n) (glyph n)) (all_glyphs n) h in
    elim (cases_lt k n) [
      | inl below ↦ all_glyphs-at n k parts.1 below
      | inr top ↦
          let e : k ≡ n = omega arith in
          rw e (eqb-true (slice_index lower_digits n) (glyph n) parts.0)
    ]

pub lower_is_glyph : (k : ℕ) → k < 16 → slice_index lower_digits k ≡ glyph k
lower_is_glyph k lt = all_glyphs-at 16 k refl lt

-- a digit that is no capital is the one that is written
glyph_back : (c v : ℕ) → hex_digit_value c ≡ Some v → is_capital c ≡ false → (v < 16) × (glyph v ≡ c)
glyph_back c v h low = (grind (arith, nat_tests), grind (arith, nat_tests))

digit_back : (c v : ℕ) → hex_digit_value c ≡ Some v → is_capital c ≡ false → (v < 16) × (slice_index lower_digits v ≡ c)
digit_back c v h low =
    let p = glyph_back c v h low in
    (p.0, lower_is_glyph v p.0 ∙ p.1)

-- what is written has no capital
glyph_low : (d : ℕ) → d < 16 → is_capital (glyph d) ≡ false
glyph_low d lt = grind (arith, nat_tests)

digit_low : (d : ℕ) → is_capital (slice_index lower_digits d) ≡ false
digit_low d = elim (cases_lt d 16) [
  | inl below ↦ rw (lower_is_glyph d below) (glyph_low d below)
  | inr past ↦ rw (get_or_past lower_digits d 0 past) refl
]

low_text : (bs : List ℕ) → list_any is_capital (encode_lower bs) ≡ false
unfolding encode_with
low_text [] = refl
low_text (b ∷ bs) = rw (digit_low (b / 16), digit_low (b % 16)) (low_text bs)

bind_ok : {A B : Type 0} (r : Result A FromHexError) (f : A → Result B FromHexError) (y : B) → (r >>= f) ≡ Ok y → (x : A) × (r ≡ Ok x) × (f x ≡ Ok y)
bind_ok (Ok x) f y h = (x, refl, h)
bind_ok (Err e) f y h = cc h

digit_read : (c i : ℕ) (o : Option ℕ) (v : ℕ) → digit_or_error c i o ≡ Ok v → o ≡ Some v
digit_read c i (Some w) v h = cc
digit_read c i None v h = cc

-- what decodes and has no capital is how its bytes are written
written_back : (i : ℕ) (s bytes : List ℕ) → decode_pairs i s ≡ Ok bytes → list_any is_capital s ≡ false → encode_lower bytes ≡ s
unfolding decode_pairs encode_with
written_back i [] bytes h low =
    let e : [] ≡ bytes = ap (λ (r : Result (List ℕ) FromHexError). result_unwrap_or r []) h in
    rw (← e) refl
written_back i (a ∷ []) bytes h low = cc h
written_back i (a ∷ b ∷ rest) bytes h low =
    let p0 = bind_ok (pair_value a b i) _ bytes h in
    let p1 = bind_ok (value_at a i) _ p0.0 p0.1 in
    let p2 = bind_ok (value_at b (i + 1)) _ p0.0 p1.2 in
    let p3 = bind_ok (decode_pairs (i + 2) rest) _ bytes p0.2 in
    let low_a = or_false (is_capital a) (is_capital b || list_any is_capital rest) low in
    let low_b = or_false (is_capital b) (list_any is_capital rest) low_a.1 in
    let ih = written_back (i + 2) rest p3.0 p3.1 low_b.1 in
    let e : p0.0 ∷ p3.0 ≡ bytes = ap (λ (r : Result (List ℕ) FromHexError). result_unwrap_or r []) p3.2 in
    let high = digit_back a p1.0 (digit_read a i (hex_digit_value a) p1.0 p1.1) low_a.0 in
    let small = digit_back b p2.0 (digit_read b (i + 1) (hex_digit_value b) p2.0 p2.1) low_b.0 in
    let byte : p1.0 * 16 + p2.0 ≡ p0.0 = ap (λ (r : Result ℕ FromHexError). result_unwrap_or r 0) p2.2 in
    let upper : p0.0 / 16 ≡ p1.0 = omega arith in
    let lower : p0.0 % 16 ≡ p2.0 = omega arith in
    rw (← e, upper, lower, high.1, small.1, ih) refl

decode_ok_pairs : (s bytes : List ℕ) → decode_of s ≡ Ok bytes → decode_pairs 0 s ≡ Ok bytes
decode_ok_pairs s bytes h = grind arith

-- the hyphen
pub bytes_in-hyphen : (word : List ℕ) → bytes_eq word hyphen ≡ true → bytes_in word ≡ Some []
unfolding bytes_in
bytes_in-hyphen word e = rw e refl

pub bytes_in-empty : (word : List ℕ) → length word ≡ 0 → bytes_in word ≡ None
unfolding bytes_in decode_pairs
bytes_in-empty [] e = refl
bytes_in-empty (b ∷ bs) e = absurd (omega arith)

low_word : (bs : List ℕ) → list_any is_capital (bytes_word bs) ≡ false
low_word [] = refl
low_word (b ∷ bs) = low_text (b ∷ bs)

-- no value is written so
if_written-none : (word bs : List ℕ) → (bytes_word bs ≡ word → ⊥) → if_written bytes_word word bs ≡ None
if_written-none word bs h = rw (not_true (bytes_eq (bytes_word bs) word) (λ e. h (same_from_bytes_eq (bytes_word bs) word e))) refl

bytes_in-other : (word : List ℕ) → bytes_eq word hyphen ≡ false → bytes_in word ≡ option_and_then (if_written bytes_word word) (result_ok (decode_of word))
unfolding bytes_in
bytes_in-other word h = rw h refl

capital_word : (word : List ℕ) (r : Result (List ℕ) FromHexError) → list_any is_capital word ≡ true → option_and_then (if_written bytes_word word) (result_ok r) ≡ None
capital_word word (Err e) h = refl
capital_word word (Ok bs) h = if_written-none word bs (λ e. let low = rw e at (low_word bs) in cc)

-- a capital
pub bytes_in-capital : (word : List ℕ) → list_any is_capital word ≡ true → bytes_in word ≡ None
bytes_in-capital word h =
    let other : bytes_eq word hyphen ≡ false = not_true (bytes_eq word hyphen) (λ e. let d = rw (same_from_bytes_eq word hyphen e) at h in cc) in
    bytes_in-other word other ∙ capital_word word (decode_of word) h

written_word : (word bs : List ℕ) → encode_lower bs ≡ word → length word ≢ 0 → if_written bytes_word word bs ≡ Some bs
unfolding encode_with
written_word word [] e some = absurd (some (ap length (sym e)))
written_word word (b ∷ bs) e some = rw (bytes_eq-same (encode_lower (b ∷ bs)) word e) refl

-- digits in lower case
pub bytes_in-decoded : (word bs : List ℕ) → decode_of word ≡ Ok bs → list_any is_capital word ≡ false → length word ≢ 0 → bytes_in word ≡ Some bs
bytes_in-decoded word bs h low some =
    let other : bytes_eq word hyphen ≡ false = not_true (bytes_eq word hyphen) (λ e. let d = rw (same_from_bytes_eq word hyphen e) at h in cc) in
    let back = written_back 0 word bs (decode_ok_pairs word bs h) low in
    bytes_in-other word other ∙ ap (λ r. option_and_then (if_written bytes_word word) (result_ok r)) h ∙ written_word word bs back some

-- no digits
pub bytes_in-failed : (word : List ℕ) (e : FromHexError) → decode_of word ≡ Err e → bytes_eq word hyphen ≡ false → bytes_in word ≡ None
bytes_in-failed word e h other = bytes_in-other word other ∙ ap (λ r. option_and_then (if_written bytes_word word) (result_ok r)) h

-- the bytes of a written word
pub bytes_in-written : (bs : List ℕ) → IsBytes bs → bytes_in (bytes_word bs) ≡ Some bs
bytes_in-written [] h = bytes_in-hyphen hyphen refl
bytes_in-written (b ∷ bs) h =
    bytes_in-decoded (encode_lower (b ∷ bs)) (b ∷ bs) (decode_of-encode_lower (b ∷ bs) h) (low_text (b ∷ bs))
    (λ e. let l = length-encode_with lower_digits (b ∷ bs) in omega arith)

chosen : {X : Type 0} (b : Bool) (x y : X) → cond b (Some x) None ≡ Some y → (b ≡ true) × (x ≡ y)
chosen true x y h = (refl, cc)
chosen false x y h = cc h

read_back : (word bs : List ℕ) (r : Result (List ℕ) FromHexError) → decode_of word ≡ r → option_and_then (if_written bytes_word word) (result_ok r) ≡ Some bs → (bytes_word bs ≡ word) × IsBytes bs
read_back word bs (Err e) d h = cc h
read_back word bs (Ok x) d h =
    let p = chosen (bytes_eq (bytes_word x) word) x bs h in
    let same = same_from_bytes_eq (bytes_word x) word p.0 in
    let e = p.1 in
    let all = decode_pairs-ok 0 word x (decode_ok_pairs word x d) in
    (rw e at same, rw e at (all.2))

none_are_bytes : IsBytes []
none_are_bytes i = omega arith

-- what was read is written so
pub bytes_in-some : (word bs : List ℕ) → bytes_in word ≡ Some bs → (bytes_word bs ≡ word) × IsBytes bs
bytes_in-some word bs h = elim (tested (bytes_eq word hyphen)) [
  | inl e ↦
      let none : [] ≡ bs = let s = sym (bytes_in-hyphen word e) ∙ h in cc in
      rw (← none) (sym (same_from_bytes_eq word hyphen e), none_are_bytes)
  | inr e ↦ read_back word bs (decode_of word) refl (sym (bytes_in-other word e) ∙ h)
]

pub ruleset hex_words = (bytes_in-hyphen, bytes_in-empty, bytes_in-capital, bytes_in-decoded, bytes_in-failed)
