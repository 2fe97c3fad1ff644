-- Words that are joined are the words of their line.
use Rattle.std.proofs.Common.{◌≡◌, ℕ, Bool, true, false, eqb, List, [], ◌∷◌, ◌++◌, refl, sym, ap, ◌∙◌, inl, inr, arith, ◌<◌, ◌+◌, length, length-append, get_or, take, drop, subst, lit<}
use Rattle.std.specs.List.{list_all, onto_first, join_with_byte}
use Rattle.std.specs.Prelude.{IsUtf8}
use Rattle.std.specs.Str.{is_utf8}
use Rattle.std.proofs.lemmas.Bool.{and_parts}
use Rattle.std.proofs.lemmas.List.{take_at, drop_at, get_or_at, drop-drop}
use Rattle.std.proofs.lemmas.Str.{IsUtf8-take, IsUtf8-drop, IsUtf8-from_is_utf8, is_utf8-from_IsUtf8, IsCharBoundary-before_ascii, IsCharBoundary-after_ascii}
use Rattle.text_words.specs.Bytes.{space, line_feed_byte}
use Rattle.text_words.specs.Written.{stands_in_word, stands_in_line}
use Rattle.text_words.specs.Reading.{words_of}
use Rattle.text_words.proofs.ByteTests.{not_parts, tested}

-- a list of bytes that is one word or empty
abbrev pub is_word : List ℕ → Bool
is_word word = list_all stands_in_word word

stands : (b : ℕ) → stands_in_word b ≡ true → (eqb b space ≡ false) × (eqb b line_feed_byte ≡ false)
stands b h = not_parts (eqb b space) (eqb b line_feed_byte) h

split_first : (word rest : List ℕ) → is_word word ≡ true → words_of (word ++ space ∷ rest) ≡ word ∷ words_of rest
split_first [] rest h = refl
split_first (b ∷ word) rest h =
    let p = and_parts (stands_in_word b) (is_word word) h in
    rw ((stands b p.0).0, split_first word rest p.1) refl

split_last : (word : List ℕ) → is_word word ≡ true → words_of word ≡ word ∷ []
split_last [] h = refl
split_last (b ∷ word) h =
    let p = and_parts (stands_in_word b) (is_word word) h in
    rw ((stands b p.0).0, split_last word p.1) refl

-- joined words are split into the same
pub words_of-joined : (word : List ℕ) (words : List (List ℕ)) → list_all is_word (word ∷ words) ≡ true → words_of (join_with_byte space (word ∷ words)) ≡ word ∷ words
words_of-joined word [] h = split_last word (and_parts (is_word word) true h).0
words_of-joined word (next ∷ words) h =
    let p = and_parts (is_word word) (list_all is_word (next ∷ words)) h in
    split_first word (join_with_byte space (next ∷ words)) p.0 ∙ ap (λ ws. word ∷ ws) (words_of-joined next words p.1)

onto_words : (b : ℕ) (parts : List (List ℕ)) → stands_in_word b ≡ true → list_all is_word parts ≡ true → list_all is_word (onto_first b parts) ≡ true
onto_words b [] h g = rw h refl
onto_words b (part ∷ parts) h g = rw h g

stands_from : (b : ℕ) → eqb b space ≡ false → stands_in_line b ≡ true → stands_in_word b ≡ true
stands_from b e h = rw e h

-- the words of a line are words
pub words_of-words : (line : List ℕ) → list_all stands_in_line line ≡ true → list_all is_word (words_of line) ≡ true
words_of-words [] h = refl
words_of-words (b ∷ line) h =
    let p = and_parts (stands_in_line b) (list_all stands_in_line line) h in
    let ih = words_of-words line p.1 in
    elim (tested (eqb b space)) [
      | inl e ↦ rw e ih
      | inr e ↦ rw e (onto_words b (words_of line) (stands_from b e p.0) ih)
    ]

-- a text is cut before and after an ASCII byte
pub utf8_around : (xs ys : List ℕ) (c : ℕ) → c < 128 → IsUtf8 (xs ++ c ∷ ys) → IsUtf8 xs × IsUtf8 ys
utf8_around xs ys c small h =
    let at : get_or (xs ++ c ∷ ys) (length xs) 0 ≡ c = get_or_at xs c ys 0 (length xs) refl in
    let within : length xs < length (xs ++ c ∷ ys) = simp length-append (omega arith) in
    let ascii : get_or (xs ++ c ∷ ys) (length xs) 0 < 128 = rw at small in
    let front = IsUtf8-take (xs ++ c ∷ ys) (length xs) h (IsCharBoundary-before_ascii (xs ++ c ∷ ys) (length xs) within ascii) in
    let back = IsUtf8-drop (xs ++ c ∷ ys) (length xs + 1) h (IsCharBoundary-after_ascii (xs ++ c ∷ ys) (length xs) h within ascii) in
    let left : take (length xs) (xs ++ c ∷ ys) ≡ xs = take_at xs (c ∷ ys) (length xs) refl in
    let right : drop (length xs + 1) (xs ++ c ∷ ys) ≡ ys = sym (drop-drop 1 (length xs) (xs ++ c ∷ ys)) ∙ ap (drop 1) (drop_at xs (c ∷ ys) (length xs) refl) in
    (subst IsUtf8 left front, subst IsUtf8 right back)

-- each of the joined words is a text
pub utf8_words : (words : List (List ℕ)) → is_utf8 (join_with_byte space words) ≡ true → list_all is_utf8 words ≡ true
utf8_words [] h = refl
utf8_words (word ∷ []) h = rw h refl
utf8_words (word ∷ next ∷ words) h =
    let p = utf8_around word (join_with_byte space (next ∷ words)) space (lit< tt) (IsUtf8-from_is_utf8 _ h) in
    rw (is_utf8-from_IsUtf8 word p.0) (utf8_words (next ∷ words) (is_utf8-from_IsUtf8 _ p.1))
