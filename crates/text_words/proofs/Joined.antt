-- Words that are joined to a line, and the words of a line.
use Rattle.std.proofs.Common.{◌≡◌, ℕ, true, List, [], ◌∷◌, refl, sym, subst, lit<, arith}
use Rattle.std.specs.Prelude.{IsUtf8}
use Rattle.std.specs.List.{list_all, join_with_byte}
use Rattle.std.specs.Str.{is_utf8}
use Rattle.std.proofs.lemmas.Bool.{and_parts}
use Rattle.std.proofs.lemmas.Bool.Decides.{nat_tests}
use Rattle.std.proofs.lemmas.List.Folds.{list_all-append}
use Rattle.std.proofs.lemmas.List.Splits.{join_with_byte-slice_split}
use Rattle.std.proofs.lemmas.Str.{is_utf8-from_IsUtf8, IsUtf8-from_is_utf8, IsUtf8-from_ascii, IsUtf8-append, IsUtf8-nil}
use Rattle.std.proofs.lemmas.Str.Ascii.{IsAscii-nil, IsAscii-cons}
use Rattle.text_words.specs.Bytes.{space}
use Rattle.text_words.specs.Written.{is_text_word, is_line_text, stands_in_word, stands_in_line}
use Rattle.text_words.specs.Reading.{words_of}
use Rattle.text_words.proofs.ByteTests.{and_true}
use Rattle.text_words.proofs.Splits.{is_word, words_of-joined, words_of-words, utf8_words}

texts_are_utf8 : (words : List (List ℕ)) → list_all is_text_word words ≡ true → list_all is_utf8 words ≡ true
texts_are_utf8 [] h = refl
texts_are_utf8 (w ∷ words) h =
    let p = and_parts (is_text_word w) (list_all is_text_word words) h in
    rw ((and_parts (is_utf8 w) (is_word w) p.0).0) (texts_are_utf8 words p.1)

texts_are_words : (words : List (List ℕ)) → list_all is_text_word words ≡ true → list_all is_word words ≡ true
texts_are_words [] h = refl
texts_are_words (w ∷ words) h =
    let p = and_parts (is_text_word w) (list_all is_text_word words) h in
    rw ((and_parts (is_utf8 w) (is_word w) p.0).1) (texts_are_words words p.1)

words_are_texts : (words : List (List ℕ)) → list_all is_utf8 words ≡ true → list_all is_word words ≡ true → list_all is_text_word words ≡ true
words_are_texts [] h g = refl
words_are_texts (w ∷ words) h g =
    let p = and_parts (is_utf8 w) (list_all is_utf8 words) h in
    let q = and_parts (is_word w) (list_all is_word words) g in
    rw (p.0, q.0) (words_are_texts words p.1 q.1)

space_front : (text : List ℕ) → IsUtf8 text → IsUtf8 (space ∷ text)
space_front text h = IsUtf8-append (space ∷ []) text (IsUtf8-from_ascii (space ∷ []) (IsAscii-cons space [] (lit< tt) IsAscii-nil)) h

utf8_joined : (words : List (List ℕ)) → list_all is_utf8 words ≡ true → IsUtf8 (join_with_byte space words)
utf8_joined [] h = IsUtf8-nil
utf8_joined (w ∷ []) h = IsUtf8-from_is_utf8 w (and_parts (is_utf8 w) true h).0
utf8_joined (w ∷ next ∷ words) h =
    let p = and_parts (is_utf8 w) (list_all is_utf8 (next ∷ words)) h in
    IsUtf8-append w (space ∷ join_with_byte space (next ∷ words)) (IsUtf8-from_is_utf8 w p.0) (space_front (join_with_byte space (next ∷ words)) (utf8_joined (next ∷ words) p.1))

stands_on : (b : ℕ) → stands_in_word b ≡ true → stands_in_line b ≡ true
stands_on b h = grind (arith, nat_tests)

word_in_line : (w : List ℕ) → is_word w ≡ true → list_all stands_in_line w ≡ true
word_in_line [] h = refl
word_in_line (b ∷ w) h =
    let p = and_parts (stands_in_word b) (is_word w) h in
    rw (stands_on b p.0) (word_in_line w p.1)

feed_joined : (words : List (List ℕ)) → list_all is_word words ≡ true → list_all stands_in_line (join_with_byte space words) ≡ true
feed_joined [] h = refl
feed_joined (w ∷ []) h = word_in_line w (and_parts (is_word w) true h).0
feed_joined (w ∷ next ∷ words) h =
    let p = and_parts (is_word w) (list_all is_word (next ∷ words)) h in
    rw (list_all-append stands_in_line w (space ∷ join_with_byte space (next ∷ words)), word_in_line w p.0) (feed_joined (next ∷ words) p.1)

-- words that are joined are a line
pub joined-text : (words : List (List ℕ)) → list_all is_text_word words ≡ true → is_line_text (join_with_byte space words) ≡ true
joined-text words h =
    and_true (is_utf8 (join_with_byte space words)) (list_all stands_in_line (join_with_byte space words))
    (is_utf8-from_IsUtf8 (join_with_byte space words) (utf8_joined words (texts_are_utf8 words h))) (feed_joined words (texts_are_words words h))

-- whose words they are
pub joined-words : (word : List ℕ) (words : List (List ℕ)) → list_all is_text_word (word ∷ words) ≡ true → words_of (join_with_byte space (word ∷ words)) ≡ word ∷ words
joined-words word words h = words_of-joined word words (texts_are_words (word ∷ words) h)

-- the words of a line are words, and it is they, joined
pub line-words : (line : List ℕ) → is_line_text line ≡ true → list_all is_text_word (words_of line) ≡ true
line-words line h =
    let p = and_parts (is_utf8 line) (list_all stands_in_line line) h in
    let P : List ℕ → Type 0 = λ x. is_utf8 x ≡ true in
    words_are_texts (words_of line) (utf8_words (words_of line) (subst P (sym (join_with_byte-slice_split space line)) p.0)) (words_of-words line p.1)
