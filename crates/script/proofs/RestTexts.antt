-- The rest of a line, written and read.
use Rattle.std.proofs.Common.{◌≡◌, ℕ, ◌+◌, ◌<◌, true, cond, eqb, ◌⊎◌, inl, inr, List, [], ◌∷◌, ◌++◌, length, map, refl, Ok, Err, sym, ap, arith}
use Rattle.std.specs.List.{list_all, join_by, join_with_byte}
use Rattle.std.proofs.lemmas.List.{append-nil}
use Rattle.std.proofs.lemmas.List.Splits.{join_with_byte-slice_split, length-slice_split}
use Rattle.text_words.specs.Bytes.{space}
use Rattle.text_words.specs.Reading.{words_of}
use Rattle.text_words.specs.Written.{is_text_word}
use Rattle.text_words.proofs.Joined.{joined-text, joined-words, line-words}
use Rattle.script.specs.declared.reason.ScriptReason.TheVariants as reason
use Rattle.script.specs.Rests.{Rest, nothing, json, arguments, string, array, RestValue, write_rest, text_behind, read_rest, is_there, is_of_form}

-- ---- texts that have words

-- pieces with a byte between each two
pub joined : {X : Type 0} (f : X → List ℕ) (c : ℕ) (xs : List X) → join_by f (c ∷ []) xs ≡ join_with_byte c (map f xs)
joined f c [] = refl
joined f c (x ∷ []) = append-nil (f x)
joined f c (x ∷ y ∷ xs) = ap (λ text. f x ++ c ∷ text) (joined f c (y ∷ xs))

-- the text of words that aren't none
behind_words : (words : List (List ℕ)) (text : List ℕ) → 0 < length words → join_with_byte space words ≡ text → text_behind words ≡ Ok text
behind_words [] text some e = absurd (omega (arith, some))
behind_words (word ∷ words) text some e = ap Ok e

-- a text has words, and it is theirs
text_behind-words_of : (text : List ℕ) → text_behind (words_of text) ≡ Ok text
text_behind-words_of text =
    let count = length-slice_split (λ b. eqb b space) text in
    behind_words (words_of text) text (omega (arith, count)) (join_with_byte-slice_split space text)

-- ---- what is written is read

pub write_rest-texts : (r : Rest) (x : RestValue r) → is_there r x ≡ true → list_all is_text_word (write_rest r x) ≡ true
write_rest-texts nothing x h = refl
write_rest-texts json text h = line-words text h
write_rest-texts arguments text h = line-words text h
write_rest-texts string text h = line-words text h
write_rest-texts array text h = line-words text h

-- a rest is read if it is of its form
pub read_rest-written : (r : Rest) (x : RestValue r) → read_rest r (write_rest r x) ≡ cond (is_of_form r x) (Ok x) (Err reason.BadJson)
read_rest-written nothing x = refl
read_rest-written json text = rw (text_behind-words_of text) refl
read_rest-written arguments text = rw (text_behind-words_of text) refl
read_rest-written string text = rw (text_behind-words_of text) refl
read_rest-written array text = rw (text_behind-words_of text) refl

-- ---- what is read is written so

-- words that are a rest, whatever its form
pub record IsThere (r : Rest) (words : List (List ℕ)) : Type 0 where
  pub rest : RestValue r
  pub is : words ≡ write_rest r rest
  pub there : is_there r rest ≡ true

-- a rest is there, or words are missing or too many
pub rest_or_bad_word : (r : Rest) (words : List (List ℕ)) → list_all is_text_word words ≡ true → (read_rest r words ≡ Err reason.BadWord) ⊎ IsThere r words
rest_or_bad_word nothing [] t = inr (record { rest = tt; is = refl; there = refl })
rest_or_bad_word nothing (word ∷ words) t = inl refl
rest_or_bad_word json [] t = inl refl
rest_or_bad_word json (word ∷ words) t =
    inr (record { rest = join_with_byte space (word ∷ words); is = sym (joined-words word words t); there = joined-text (word ∷ words) t })
rest_or_bad_word arguments [] t = inl refl
rest_or_bad_word arguments (word ∷ words) t =
    inr (record { rest = join_with_byte space (word ∷ words); is = sym (joined-words word words t); there = joined-text (word ∷ words) t })
rest_or_bad_word string [] t = inl refl
rest_or_bad_word string (word ∷ words) t =
    inr (record { rest = join_with_byte space (word ∷ words); is = sym (joined-words word words t); there = joined-text (word ∷ words) t })
rest_or_bad_word array [] t = inl refl
rest_or_bad_word array (word ∷ words) t =
    inr (record { rest = join_with_byte space (word ∷ words); is = sym (joined-words word words t); there = joined-text (word ∷ words) t })
