-- The first of the lines.
use Rattle.std.proofs.Common.{◌≡◌, ℕ, zero, suc, ◌+◌, ◌<◌, ◌==◌, Bool, true, false, List, [], ◌∷◌, length, take, drop, get_or, refl, Some, None, add-one, arith, cond, ltb}
use Rattle.std.specs.List.{position, position_or_len}
use Rattle.std.proofs.lemmas.List.Quantifiers.{position-Some}
use Rattle.std.proofs.lemmas.List.Sums.{fails_before_first}
use Rattle.text_words.specs.Bytes.{line_feed_byte}
use Rattle.script.specs.Lines.{lines_of}

abbrev is_line_end : ℕ → Bool
is_line_end b = b == line_feed_byte

lines_at : (bs : List ℕ) (k : ℕ) → k < length bs → is_line_end (get_or bs k 0) ≡ true → ((j : ℕ) → j < k → is_line_end (get_or bs j 0) ≡ false)
    → lines_of bs ≡ record { text = take k bs; has_end = true } ∷ lines_of (drop (suc k) bs)
lines_at [] k lt hit miss = absurd (omega arith)
lines_at (b ∷ bs) zero lt hit miss = rw hit refl
lines_at (b ∷ bs) (suc k) lt hit miss =
    rw (miss 0 (omega arith), lines_at bs k (omega arith) hit (λ j h. miss (suc j) (omega arith))) refl

lines_none : (b : ℕ) (bs : List ℕ) → ((j : ℕ) → j < length (b ∷ bs) → is_line_end (get_or (b ∷ bs) j 0) ≡ false)
    → lines_of (b ∷ bs) ≡ record { text = b ∷ bs; has_end = false } ∷ []
lines_none b [] miss = rw (miss 0 (omega arith)) refl
lines_none b (a ∷ bs) miss = rw (miss 0 (omega arith), lines_none a bs (λ j h. miss (suc j) (omega arith))) refl

-- a line that has an end
pub lines_of-ended : (bs : List ℕ) (k : ℕ) → position is_line_end bs ≡ Some k
    → lines_of bs ≡ record { text = take k bs; has_end = true } ∷ lines_of (drop (k + 1) bs)
lines_of-ended bs k h =
    let p = position-Some is_line_end bs k 0 h in
    rw add-one (lines_at bs k p.0 p.1 p.2)

cond_none : (b : Bool) (n : ℕ) → cond b (Some n) None ≡ None → b ≡ false
cond_none true n h = cc
cond_none false n h = refl

-- a line that has none
pub lines_of-open : (bs : List ℕ) → 0 < length bs → position is_line_end bs ≡ None → lines_of bs ≡ record { text = bs; has_end = false } ∷ []
lines_of-open [] lt h = absurd (omega arith)
lines_of-open (b ∷ bs) lt h =
    let e = cond_none (ltb (position_or_len is_line_end (b ∷ bs)) (length (b ∷ bs))) (position_or_len is_line_end (b ∷ bs)) h in
    lines_none b bs (λ j below. fails_before_first is_line_end (b ∷ bs) j 0 (grind arith))

-- behind the last byte stands no line
pub lines_of_end : (bs : List ℕ) → lines_of (drop (length bs) bs) ≡ []
lines_of_end [] = refl
lines_of_end (b ∷ bs) = lines_of_end bs
