-- A shortest head is a head, whatever follows it, of 1 to 9 bytes.
use Rattle.std.proofs.Common.{◌≡◌, ℕ, suc, ◌+◌, ◌-◌, ◌^◌, ◌≤◌, ◌<◌, inl, inr, cond, ltb, List, [], ◌∷◌, ◌++◌, length, refl, ap, ◌∙◌, arith}
use Rattle.std.specs.Prelude.{ℤ, pos, negsuc}
use Rattle.std.specs.Int.{w8, w16, w32, w64, to_be_bytes, cast_signed, cast_unsigned}
use Rattle.std.proofs.Math.Facts.{to_z-neg}
use Rattle.std.proofs.lemmas.Int.{ints}
use Rattle.std.proofs.lemmas.Nat.{from_be_bytes-to_be_bytes_2, from_be_bytes-to_be_bytes_4, from_be_bytes-to_be_bytes_8}
use Rattle.std.proofs.lemmas.Bool.{cases_lt, le-ltb, lt-ltb}
use Rattle.wire_base.specs.declared.token.TokenHead.{TokenHead}
use Rattle.wire_base.specs.declared.token.TokenHead.TheVariants as token
use Rattle.wire_base.specs.declared.token.HeadStep.TheVariants.{Got}
use Rattle.wire_base.specs.Head.{head_of, lettered, numbered, IsHead}
use Rattle.wire_base.specs.Shortest.{unsigned_text, negative_text, whole_text, str_head, bin_head, array_head, map_head}
use Rattle.wire_base.specs.Whole.{IsWhole}
use Rattle.wire_base.proofs.HeadLemmas.{head_stays}

-- what holds of both choices, each where it is taken, holds of the choice
choice : (P : List ℕ → Type 0) (n limit : ℕ) (x y : List ℕ) → (n < limit → P x) → (limit ≤ n → P y) → P (cond (ltb n limit) x y)
choice P n limit x y below above = elim (cases_lt n limit) [
  | inl lt ↦ rw (lt-ltb n limit lt) (below lt)
  | inr le ↦ rw (le-ltb n limit le) (above le)
]

-- what holds of each form holds of the shortest
unsigned-cases : (P : List ℕ → Type 0) (n : ℕ) → (n < 0x80 → P (n ∷ [])) → (n < 0x100 → P (0xcc ∷ n ∷ [])) → (n < 0x10000 → P (0xcd ∷ to_be_bytes w16 n)) → (n < 0x100000000 → P (0xce ∷ to_be_bytes w32 n)) → P (0xcf ∷ to_be_bytes w64 n) → P (unsigned_text n)
unsigned-cases P n one two three five nine = choice P n 0x80 _ _ one (λ _. choice P n 0x100 _ _ two (λ _. choice P n 0x10000 _ _ three (λ _. choice P n 0x100000000 _ _ five (λ _. nine))))

negative-cases : (P : List ℕ → Type 0) (k : ℕ) → (k < 0x20 → P (cast_unsigned w8 (negsuc k) ∷ [])) → (k < 0x80 → P (0xd0 ∷ cast_unsigned w8 (negsuc k) ∷ [])) → (k < 0x8000 → P (0xd1 ∷ to_be_bytes w16 (cast_unsigned w16 (negsuc k)))) → (k < 0x80000000 → P (0xd2 ∷ to_be_bytes w32 (cast_unsigned w32 (negsuc k)))) → P (0xd3 ∷ to_be_bytes w64 (cast_unsigned w64 (negsuc k))) → P (negative_text k)
negative-cases P k one two three five nine = choice P k 0x20 _ _ one (λ _. choice P k 0x80 _ _ two (λ _. choice P k 0x8000 _ _ three (λ _. choice P k 0x80000000 _ _ five (λ _. nine))))

str-cases : (P : List ℕ → Type 0) (n : ℕ) → (n < 0x20 → P ((0xa0 + n) ∷ [])) → (n < 0x100 → P (0xd9 ∷ n ∷ [])) → (n < 0x10000 → P (0xda ∷ to_be_bytes w16 n)) → P (0xdb ∷ to_be_bytes w32 n) → P (str_head n)
str-cases P n one two three five = choice P n 0x20 _ _ one (λ _. choice P n 0x100 _ _ two (λ _. choice P n 0x10000 _ _ three (λ _. five)))

bin-cases : (P : List ℕ → Type 0) (n : ℕ) → (n < 0x100 → P (0xc4 ∷ n ∷ [])) → (n < 0x10000 → P (0xc5 ∷ to_be_bytes w16 n)) → P (0xc6 ∷ to_be_bytes w32 n) → P (bin_head n)
bin-cases P n two three five = choice P n 0x100 _ _ two (λ _. choice P n 0x10000 _ _ three (λ _. five))

array-cases : (P : List ℕ → Type 0) (n : ℕ) → (n < 0x10 → P ((0x90 + n) ∷ [])) → (n < 0x10000 → P (0xdc ∷ to_be_bytes w16 n)) → P (0xdd ∷ to_be_bytes w32 n) → P (array_head n)
array-cases P n one three five = choice P n 0x10 _ _ one (λ _. choice P n 0x10000 _ _ three (λ _. five))

map-cases : (P : List ℕ → Type 0) (n : ℕ) → (n < 0x10 → P ((0x80 + n) ∷ [])) → (n < 0x10000 → P (0xde ∷ to_be_bytes w16 n)) → P (0xdf ∷ to_be_bytes w32 n) → P (map_head n)
map-cases P n one three five = choice P n 0x10 _ _ one (λ _. choice P n 0x10000 _ _ three (λ _. five))

-- a first byte that says which number follows, and that number
module _ (b : ℕ) (f : ℕ → TokenHead) (n : ℕ) where
  after_8 : ((s : List ℕ) → head_of (b ∷ s) ≡ numbered w8 f s) → head_of (b ∷ n ∷ []) ≡ Got (f n) 2
  after_8 is = is (n ∷ [])

  after_16 : ((s : List ℕ) → head_of (b ∷ s) ≡ numbered w16 f s) → n < 2 ^ 16 → head_of (b ∷ to_be_bytes w16 n) ≡ Got (f n) 3
  after_16 is lt = is (to_be_bytes w16 n) ∙ ap (λ (m : ℕ). Got (f m) 3) (from_be_bytes-to_be_bytes_2 n lt)

  after_32 : ((s : List ℕ) → head_of (b ∷ s) ≡ numbered w32 f s) → n < 2 ^ 32 → head_of (b ∷ to_be_bytes w32 n) ≡ Got (f n) 5
  after_32 is lt = is (to_be_bytes w32 n) ∙ ap (λ (m : ℕ). Got (f m) 5) (from_be_bytes-to_be_bytes_4 n lt)

  after_64 : ((s : List ℕ) → head_of (b ∷ s) ≡ numbered w64 f s) → n < 2 ^ 64 → head_of (b ∷ to_be_bytes w64 n) ≡ Got (f n) 9
  after_64 is lt = is (to_be_bytes w64 n) ∙ ap (λ (m : ℕ). Got (f m) 9) (from_be_bytes-to_be_bytes_8 n lt)

pub is_unsigned : (n : ℕ) → n < 2 ^ 64 → IsHead (token.Whole (pos n)) (unsigned_text n)
unfolding lettered
is_unsigned n lt = unsigned-cases (λ s. IsHead (token.Whole (pos n)) s) n
    (λ lt. rw (lt-ltb n 0x80 lt) refl)
    (λ _. after_8 0xcc (λ m. token.Whole (pos m)) n (λ s. refl))
    (after_16 0xcd (λ m. token.Whole (pos m)) n (λ s. refl))
    (after_32 0xce (λ m. token.Whole (pos m)) n (λ s. refl))
    (after_64 0xcf (λ m. token.Whole (pos m)) n (λ s. refl) lt)

-- a byte from e0 on is a negative number
fixed_negative : (b k : ℕ) → 0xe0 ≤ b → 0xff - b ≡ k → head_of (b ∷ []) ≡ Got (token.Whole (negsuc k)) 1
fixed_negative b k le e = rw (le-ltb b 0x80 (omega arith), le-ltb b 0x90 (omega arith), le-ltb b 0xa0 (omega arith), le-ltb b 0xc0 (omega arith), le-ltb b 0xe0 (omega arith)) (ap (λ (j : ℕ). Got (token.Whole (negsuc j)) 1) e)

is_negative : (k : ℕ) → k < 2 ^ 63 → IsHead (token.Whole (negsuc k)) (negative_text k)
unfolding lettered
is_negative k lt = negative-cases (λ s. IsHead (token.Whole (negsuc k)) s) k
    (λ lt. fixed_negative (2 ^ 8 - suc k) k (omega arith) (omega arith))
    (λ lt. after_8 0xd0 (λ m. token.Whole (cast_signed w8 m)) (2 ^ 8 - suc k) (λ s. refl) ∙ ap (λ (z : ℤ). Got (token.Whole z) 2) (to_z-neg w8 k lt))
    (λ lt. after_16 0xd1 (λ m. token.Whole (cast_signed w16 m)) (2 ^ 16 - suc k) (λ s. refl) (omega arith) ∙ ap (λ (z : ℤ). Got (token.Whole z) 3) (to_z-neg w16 k lt))
    (λ lt. after_32 0xd2 (λ m. token.Whole (cast_signed w32 m)) (2 ^ 32 - suc k) (λ s. refl) (omega arith) ∙ ap (λ (z : ℤ). Got (token.Whole z) 5) (to_z-neg w32 k lt))
    (after_64 0xd3 (λ m. token.Whole (cast_signed w64 m)) (2 ^ 64 - suc k) (λ s. refl) (omega arith) ∙ ap (λ (z : ℤ). Got (token.Whole z) 9) (to_z-neg w64 k lt))

pub is_str : (n : ℕ) → n < 2 ^ 32 → IsHead (token.Str n) (str_head n)
unfolding lettered
is_str n lt = str-cases (λ s. IsHead (token.Str n) s) n
    (λ lt. grind (arith, le-ltb, lt-ltb))
    (λ _. after_8 0xd9 (λ m. token.Str m) n (λ s. refl))
    (after_16 0xda (λ m. token.Str m) n (λ s. refl))
    (after_32 0xdb (λ m. token.Str m) n (λ s. refl) lt)

pub is_bin : (n : ℕ) → n < 2 ^ 32 → IsHead (token.Bin n) (bin_head n)
unfolding lettered
is_bin n lt = bin-cases (λ s. IsHead (token.Bin n) s) n
    (λ _. after_8 0xc4 (λ m. token.Bin m) n (λ s. refl))
    (after_16 0xc5 (λ m. token.Bin m) n (λ s. refl))
    (after_32 0xc6 (λ m. token.Bin m) n (λ s. refl) lt)

pub is_array : (n : ℕ) → n < 2 ^ 32 → IsHead (token.Array n) (array_head n)
unfolding lettered
is_array n lt = array-cases (λ s. IsHead (token.Array n) s) n
    (λ lt. grind (arith, le-ltb, lt-ltb))
    (after_16 0xdc (λ m. token.Array m) n (λ s. refl))
    (after_32 0xdd (λ m. token.Array m) n (λ s. refl) lt)

pub is_map : (n : ℕ) → n < 2 ^ 32 → IsHead (token.Map n) (map_head n)
unfolding lettered
is_map n lt = map-cases (λ s. IsHead (token.Map n) s) n
    (λ lt. grind (arith, le-ltb, lt-ltb))
    (after_16 0xde (λ m. token.Map m) n (λ s. refl))
    (after_32 0xdf (λ m. token.Map m) n (λ s. refl) lt)

pub is_whole : (z : ℤ) → IsWhole z → IsHead (token.Whole z) (whole_text z)
is_whole (pos n) range = is_unsigned n (omega (arith, ints, range.1))
is_whole (negsuc k) range = is_negative k (omega (arith, ints, range.0))

pub head_of-unsigned_text : (n : ℕ) (rest : List ℕ) → n < 2 ^ 64 → head_of (unsigned_text n ++ rest) ≡ Got (token.Whole (pos n)) (length (unsigned_text n))
head_of-unsigned_text n rest lt = head_stays (unsigned_text n) rest _ _ (is_unsigned n lt)

pub head_of-whole_text : (z : ℤ) (rest : List ℕ) → IsWhole z → head_of (whole_text z ++ rest) ≡ Got (token.Whole z) (length (whole_text z))
head_of-whole_text z rest range = head_stays (whole_text z) rest _ _ (is_whole z range)

pub head_of-str_head : (n : ℕ) (rest : List ℕ) → n < 2 ^ 32 → head_of (str_head n ++ rest) ≡ Got (token.Str n) (length (str_head n))
head_of-str_head n rest lt = head_stays (str_head n) rest _ _ (is_str n lt)

pub head_of-bin_head : (n : ℕ) (rest : List ℕ) → n < 2 ^ 32 → head_of (bin_head n ++ rest) ≡ Got (token.Bin n) (length (bin_head n))
head_of-bin_head n rest lt = head_stays (bin_head n) rest _ _ (is_bin n lt)

pub head_of-array_head : (n : ℕ) (rest : List ℕ) → n < 2 ^ 32 → head_of (array_head n ++ rest) ≡ Got (token.Array n) (length (array_head n))
head_of-array_head n rest lt = head_stays (array_head n) rest _ _ (is_array n lt)

pub head_of-map_head : (n : ℕ) (rest : List ℕ) → n < 2 ^ 32 → head_of (map_head n ++ rest) ≡ Got (token.Map n) (length (map_head n))
head_of-map_head n rest lt = head_stays (map_head n) rest _ _ (is_map n lt)

-- a byte at least, and at most so many
abbrev pub HasUpTo : ℕ → List ℕ → Type 0
HasUpTo most s = (0 < length s) × (length s ≤ most)

pub length-unsigned_text : (n : ℕ) → HasUpTo 9 (unsigned_text n)
length-unsigned_text n = unsigned-cases (HasUpTo 9) n (λ _. (omega arith, omega arith)) (λ _. (omega arith, omega arith)) (λ _. (omega arith, omega arith)) (λ _. (omega arith, omega arith)) (omega arith, omega arith)

length-negative_text : (k : ℕ) → HasUpTo 9 (negative_text k)
length-negative_text k = negative-cases (HasUpTo 9) k (λ _. (omega arith, omega arith)) (λ _. (omega arith, omega arith)) (λ _. (omega arith, omega arith)) (λ _. (omega arith, omega arith)) (omega arith, omega arith)

pub length-whole_text : (z : ℤ) → HasUpTo 9 (whole_text z)
length-whole_text (pos n) = length-unsigned_text n
length-whole_text (negsuc k) = length-negative_text k

pub length-str_head : (n : ℕ) → HasUpTo 5 (str_head n)
length-str_head n = str-cases (HasUpTo 5) n (λ _. (omega arith, omega arith)) (λ _. (omega arith, omega arith)) (λ _. (omega arith, omega arith)) (omega arith, omega arith)

pub length-bin_head : (n : ℕ) → HasUpTo 5 (bin_head n)
length-bin_head n = bin-cases (HasUpTo 5) n (λ _. (omega arith, omega arith)) (λ _. (omega arith, omega arith)) (omega arith, omega arith)

pub length-array_head : (n : ℕ) → HasUpTo 5 (array_head n)
length-array_head n = array-cases (HasUpTo 5) n (λ _. (omega arith, omega arith)) (λ _. (omega arith, omega arith)) (omega arith, omega arith)

pub length-map_head : (n : ℕ) → HasUpTo 5 (map_head n)
length-map_head n = map-cases (HasUpTo 5) n (λ _. (omega arith, omega arith)) (λ _. (omega arith, omega arith)) (omega arith, omega arith)

pub ruleset shortest = (head_of-unsigned_text, head_of-whole_text, head_of-str_head, head_of-bin_head, head_of-array_head, head_of-map_head)
