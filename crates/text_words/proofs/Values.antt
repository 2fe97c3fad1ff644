-- The values of words: what is written is read, and what is read is written so.
use Rattle.std.proofs.Common.{◌≡◌, ℕ, zero, suc, ◌<◌, Bool, true, false, cond, eqb, eqb-true, leb, not, ◌||◌, ◌&&◌, inl, inr, List, [], ◌∷◌, ◌++◌, length, refl, Some, None, sym, ap, subst, codes, arith}
use Rattle.std.specs.Fmt.{decimal, digits}
use Rattle.std.specs.List.{list_all}
use Rattle.std.specs.Str.{bytes_eq}
use Rattle.std.proofs.lemmas.Bool.{and_parts}
use Rattle.std.proofs.lemmas.Bool.Decides.{nat_tests}
use Rattle.std.proofs.lemmas.Option.{option_and_then_some, cond_some}
use Rattle.std.proofs.lemmas.Str.{is_utf8-from_IsUtf8, IsUtf8-nil}
use Rattle.hex.specs.Hex.{IsBytes}
use Rattle.mux_run.specs.declared.steps.Side.{Side}
use Rattle.mux_run.specs.declared.steps.Side.TheVariants.{A, B}
use Rattle.text_words.specs.declared.channel_name.ChannelName.{ChannelName}
use Rattle.mux_items.specs.Limits.{nonce_size}
use Rattle.text_words.specs.Written.{side_word, channel_word, name_word, bytes_word, count_word, hyphen, everything, number_bound, is_number, is_name, is_byte, is_nonce, is_text_word}
use Rattle.text_words.specs.Reading.{side_in, front_in, number_in, number_up_to, channel_in, name_in, bytes_in, byte_in, only_byte, nonce_in, count_in}
use Rattle.text_words.proofs.ByteTests.{tested, not_true, same_from_bytes_eq, and_true, chosen}
use Rattle.text_words.proofs.Choices.{chosen_of_two}
use Rattle.text_words.proofs.Numbers.{number_in-decimal, number_in-some}
use Rattle.text_words.proofs.HexWords.{bytes_in-written, bytes_in-some}

not_false : (b : Bool) → not b ≡ true → b ≡ false
not_false true h = cc
not_false false h = refl

-- ---- what is written is read

pub side_in-word : (side : Side) → side_in (side_word side) ≡ Some side
unfolding side_in
side_in-word A = refl
side_in-word B = refl

pub number_in-word : (n : ℕ) → is_number n ≡ true → number_in (decimal n) ≡ Some n
number_in-word n h = number_in-decimal n (grind (arith, nat_tests))

pub number_up_to-word : (limit n : ℕ) → (is_number n && leb n limit) ≡ true → number_up_to limit (decimal n) ≡ Some n
unfolding number_up_to
number_up_to-word limit n h =
    let p = and_parts (is_number n) (leb n limit) h in
    rw (number_in-word n p.0, p.1) refl

front_in-word : (side : Side) (digits : List ℕ) → front_in (side_word side ++ digits) ≡ Some (side, digits)
unfolding front_in side_in
front_in-word A digits = refl
front_in-word B digits = refl

pub channel_in-word : (name : ChannelName) → is_number name.id ≡ true → channel_in (channel_word name) ≡ Some name
unfolding channel_in
channel_in-word name h = rw (front_in-word name.offering (decimal name.id), number_in-word name.id h) refl

pub name_in-word : (name : List ℕ) → is_name name ≡ true → name_in (name_word name) ≡ Some name
unfolding name_in
name_in-word [] h = refl
name_in-word (b ∷ bs) h =
    let p = and_parts (is_text_word (b ∷ bs)) (not (bytes_eq (b ∷ bs) hyphen)) h in
    rw (not_false (bytes_eq (b ∷ bs) hyphen) p.1) refl

bytes_from_test : (bs : List ℕ) → list_all is_byte bs ≡ true → IsBytes bs
bytes_from_test [] h i = omega arith
bytes_from_test (b ∷ bs) h zero = let p = (and_parts (is_byte b) (list_all is_byte bs) h).0 in grind (arith, nat_tests)
bytes_from_test (b ∷ bs) h (suc i) = bytes_from_test bs (and_parts (is_byte b) (list_all is_byte bs) h).1 i

pub bytes_in-word : (bs : List ℕ) → list_all is_byte bs ≡ true → bytes_in (bytes_word bs) ≡ Some bs
bytes_in-word bs h = bytes_in-written bs (bytes_from_test bs h)

pub byte_in-word : (b : ℕ) → is_byte b ≡ true → byte_in (bytes_word (b ∷ [])) ≡ Some b
unfolding byte_in
byte_in-word b h = rw (bytes_in-word (b ∷ []) (rw h refl)) refl

pub nonce_in-word : (nonce : List ℕ) → is_nonce nonce ≡ true → nonce_in (bytes_word nonce) ≡ Some nonce
unfolding nonce_in
nonce_in-word nonce h =
    let p = and_parts (eqb (length nonce) nonce_size) (list_all is_byte nonce) h in
    rw (bytes_in-word nonce p.1, p.0) refl

all_is_no_number : number_in (codes "all") ≡ None
unfolding number_in digits
all_is_no_number = refl

no_all : (n : ℕ) → number_in (decimal n) ≡ Some n → bytes_eq (decimal n) (codes "all") ≡ false
no_all n h = not_true (bytes_eq (decimal n) (codes "all")) (λ e.
    let g = rw (same_from_bytes_eq (decimal n) (codes "all") e) at h in
    let a = all_is_no_number in cc)

pub count_in-word : (n : ℕ) → (is_number n || eqb n everything) ≡ true → count_in (count_word n) ≡ Some n
unfolding count_in
count_in-word n h = elim (tested (eqb n everything)) [
  | inl e ↦ rw (eqb-true n everything e) refl
  | inr e ↦
      let small : is_number n ≡ true = grind (arith, nat_tests) in
      let number = number_in-word n small in
      rw (e, no_all n number) number
]

-- ---- what is read is written so

pub side_in-some : (w : List ℕ) (s : Side) → side_in w ≡ Some s → side_word s ≡ w
unfolding side_in
side_in-some w s h = chosen_of_two side_word w A B s _ _ refl refl h

is_number-below : (n : ℕ) → n < number_bound → is_number n ≡ true
is_number-below n h = grind (arith, nat_tests)

pub number_in-is : (w : List ℕ) (n : ℕ) → number_in w ≡ Some n → (decimal n ≡ w) × (is_number n ≡ true)
number_in-is w n h = let p = number_in-some w n h in (p.1, is_number-below n p.0)

pub number_up_to-some : (limit : ℕ) (w : List ℕ) (n : ℕ) → number_up_to limit w ≡ Some n → (decimal n ≡ w) × ((is_number n && leb n limit) ≡ true)
unfolding number_up_to
number_up_to-some limit w n h =
    option_and_then_some _ (number_in w) n h (λ x e g.
    let p = cond_some (leb x limit) x n g in
    let read = number_in-is w x e in
    rw (← p.1) (read.0, and_true (is_number x) (leb x limit) read.1 p.0))

front_in-some : (w : List ℕ) (f : Side × List ℕ) → front_in w ≡ Some f → side_word f.0 ++ f.1 ≡ w
unfolding front_in
front_in-some [] f h = cc h
front_in-some (b ∷ bs) f h =
    option_and_then_some (λ (side : Side). Some (side, bs)) (side_in (b ∷ [])) f h (λ s e g.
    let same : (s, bs) ≡ f = cc in
    rw (← same) (ap (λ (x : List ℕ). x ++ bs) (side_in-some (b ∷ []) s e)))

pub channel_in-some : (w : List ℕ) (name : ChannelName) → channel_in w ≡ Some name → (channel_word name ≡ w) × (is_number name.id ≡ true)
unfolding channel_in
channel_in-some w name h =
    option_and_then_some _ (front_in w) name h (λ f e h1.
    option_and_then_some _ (number_in f.1) name h1 (λ id d h2.
    let front = front_in-some w f e in
    let number = number_in-is f.1 id d in
    let same : record { offering = f.0; id = id } ≡ name = cc in
    rw (← same) (rw number.0 front, number.1)))

name_parts : (w n : List ℕ) (b : Bool) → bytes_eq w hyphen ≡ b → cond b (Some []) (cond (bytes_eq w []) None (Some w)) ≡ Some n → (name_word n ≡ w) × (bytes_eq n hyphen ≡ false)
name_parts w n true e h =
    let none : [] ≡ n = cc in
    rw (← none) (sym (same_from_bytes_eq w hyphen e), refl)
name_parts [] n false e h = cc h
name_parts (c ∷ cs) n false e h =
    let same : c ∷ cs ≡ n = cc in
    rw (← same) (refl, e)

name_is : (w n : List ℕ) → is_text_word w ≡ true → name_word n ≡ w → bytes_eq n hyphen ≡ false → is_name n ≡ true
name_is w [] h e other = rw (is_utf8-from_IsUtf8 [] IsUtf8-nil) refl
name_is w (b ∷ bs) h e other =
    let P : List ℕ → Type 0 = λ x. is_text_word x ≡ true in
    let text = subst P (sym e) h in
    and_true (is_text_word (b ∷ bs)) (not (bytes_eq (b ∷ bs) hyphen)) text (rw other refl)

pub name_in-some : (w n : List ℕ) → is_text_word w ≡ true → name_in w ≡ Some n → (name_word n ≡ w) × (is_name n ≡ true)
unfolding name_in
name_in-some w n t h =
    let p = name_parts w n (bytes_eq w hyphen) refl h in
    (p.0, name_is w n t p.0 p.1)

test_from_bytes : (bs : List ℕ) → IsBytes bs → list_all is_byte bs ≡ true
test_from_bytes [] h = refl
test_from_bytes (b ∷ bs) h =
    let small : b < 256 = h 0 in
    let first : is_byte b ≡ true = grind (arith, nat_tests) in
    rw first (test_from_bytes bs (λ i. h (suc i)))

pub bytes_in-is : (w bs : List ℕ) → bytes_in w ≡ Some bs → (bytes_word bs ≡ w) × (list_all is_byte bs ≡ true)
bytes_in-is w bs h = let p = bytes_in-some w bs h in (p.0, test_from_bytes bs p.1)

only_byte-some : (bs : List ℕ) (b : ℕ) → only_byte bs ≡ Some b → bs ≡ b ∷ []
only_byte-some [] b h = cc h
only_byte-some (c ∷ []) b h = cc
only_byte-some (c ∷ d ∷ bs) b h = cc h

pub byte_in-some : (w : List ℕ) (b : ℕ) → byte_in w ≡ Some b → (bytes_word (b ∷ []) ≡ w) × (is_byte b ≡ true)
unfolding byte_in
byte_in-some w b h =
    option_and_then_some _ (bytes_in w) b h (λ bs e g.
    let same = only_byte-some bs b g in
    let read = rw same at (bytes_in-is w bs e) in
    (read.0, (and_parts (is_byte b) true read.1).0))

pub nonce_in-some : (w nonce : List ℕ) → nonce_in w ≡ Some nonce → (bytes_word nonce ≡ w) × (is_nonce nonce ≡ true)
unfolding nonce_in
nonce_in-some w nonce h =
    option_and_then_some _ (bytes_in w) nonce h (λ bs e g.
    let p = cond_some (eqb (length bs) nonce_size) bs nonce g in
    let read = bytes_in-is w bs e in
    rw (← p.1) (read.0, and_true (eqb (length bs) nonce_size) (list_all is_byte bs) p.0 read.1))

pub count_in-some : (w : List ℕ) (n : ℕ) → count_in w ≡ Some n → (count_word n ≡ w) × ((is_number n || eqb n everything) ≡ true)
unfolding count_in
count_in-some w n h = elim (chosen (bytes_eq w (codes "all")) everything (number_in w) n h) [
  | inl p ↦ rw (← p.1) (sym (same_from_bytes_eq w (codes "all") p.0), refl)
  | inr g ↦
      let number = number_in-is w n g in
      let small = number.1 in
      let other : eqb n everything ≡ false = grind (arith, nat_tests) in
      (rw other number.0, rw small refl)
]
