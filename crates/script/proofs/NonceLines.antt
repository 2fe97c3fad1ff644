-- The line of a nonce, written and read.
use Rattle.std.proofs.Common.{◌≡◌, ℕ, ◌==◌, Bool, true, false, cond, ◌&&◌, List, [], ◌∷◌, length, refl, sym, ap, ◌∙◌, Option, Some, None, Ok, Err, codes}
use Rattle.std.specs.Option.{ok_or}
use Rattle.std.specs.List.{list_all, join_with_byte}
use Rattle.std.specs.Str.{bytes_eq}
use Rattle.std.proofs.lemmas.Bool.{and_parts}
use Rattle.std.proofs.lemmas.List.Splits.{join_with_byte-slice_split}
use Rattle.mux_run.specs.declared.steps.Side.{Side}
use Rattle.text_words.specs.Bytes.{space}
use Rattle.text_words.specs.Reading.{nonce_in, words_of}
use Rattle.mux_items.specs.Limits.{nonce_size}
use Rattle.text_words.specs.Written.{side_word, bytes_word, is_byte, is_nonce, is_text_word}
use Rattle.text_words.proofs.ByteTests.{bytes_eq-same, same_from_bytes_eq}
use Rattle.text_words.proofs.Joined.{joined-words}
use Rattle.text_words.proofs.Texts.{visible_word, text_side, text_bytes}
use Rattle.text_words.proofs.Values.{nonce_in-word, nonce_in-some}
use Rattle.script.specs.declared.reason.ScriptReason.{ScriptReason}
use Rattle.script.specs.declared.reason.ScriptReason.TheVariants as reason
use Rattle.script.specs.Spelling.{nonce_words, nonce_line}
use Rattle.script.specs.Steps.{nonce_of, nonce_line_in}

pub nonce_words-texts : (side : Side) (nonce : List ℕ) → is_nonce nonce ≡ true → list_all is_text_word (nonce_words side nonce) ≡ true
nonce_words-texts side nonce h =
    let p = and_parts (length nonce == nonce_size) (list_all is_byte nonce) h in
    rw (visible_word (codes "nonce") refl, text_side side, text_bytes nonce p.1) refl

same_word : (word : List ℕ) → bytes_eq word word ≡ true
same_word word = bytes_eq-same word word refl

nonce_of-words : (side : Side) (nonce : List ℕ) → is_nonce nonce ≡ true → nonce_of side (nonce_words side nonce) ≡ Some nonce
unfolding nonce_of
nonce_of-words side nonce h = rw (same_word (side_word side), nonce_in-word nonce h) refl

-- the line of a nonce
pub nonce_line_in-line : (side : Side) (nonce : List ℕ) → is_nonce nonce ≡ true → nonce_line_in side (nonce_line side nonce) ≡ Ok nonce
unfolding nonce_line_in
nonce_line_in-line side nonce h =
    let words = joined-words (codes "nonce") (side_word side ∷ bytes_word nonce ∷ []) (nonce_words-texts side nonce h) in
    rw (words, nonce_of-words side nonce h) refl

found_parts : (b d : Bool) (o : Option (List ℕ)) (nonce : List ℕ) → cond (b && d) o None ≡ Some nonce → (b ≡ true) × (d ≡ true) × (o ≡ Some nonce)
found_parts true true o nonce h = (refl, refl, h)
found_parts true false o nonce h = cc h
found_parts false d o nonce h = cc h

nonce_of-some : (side : Side) (words : List (List ℕ)) (nonce : List ℕ) → nonce_of side words ≡ Some nonce → (words ≡ nonce_words side nonce) × (is_nonce nonce ≡ true)
unfolding nonce_of
nonce_of-some side [] nonce h = cc h
nonce_of-some side (a ∷ []) nonce h = cc h
nonce_of-some side (a ∷ b ∷ []) nonce h = cc h
nonce_of-some side (first ∷ letter ∷ digits ∷ []) nonce h =
    let p = found_parts (bytes_eq first (codes "nonce")) (bytes_eq letter (side_word side)) (nonce_in digits) nonce h in
    let read = nonce_in-some digits nonce p.2 in
    (rw (same_from_bytes_eq first (codes "nonce") p.0, same_from_bytes_eq letter (side_word side) p.1, read.0) refl, read.1)
nonce_of-some side (a ∷ b ∷ c ∷ d ∷ words) nonce h = cc h

good : (o : Option (List ℕ)) (nonce : List ℕ) → ok_or o reason.BadHead ≡ Ok nonce → o ≡ Some nonce
good (Some x) nonce h = cc
good None nonce h = cc h

-- a nonce that a line names
pub nonce_line_in-ok : (side : Side) (text nonce : List ℕ) → nonce_line_in side text ≡ Ok nonce → (text ≡ nonce_line side nonce) × (is_nonce nonce ≡ true)
unfolding nonce_line_in
nonce_line_in-ok side text nonce h =
    let read = nonce_of-some side (words_of text) nonce (good (nonce_of side (words_of text)) nonce h) in
    (sym (join_with_byte-slice_split space text) ∙ ap (join_with_byte space) read.0, read.1)

bad : (o : Option (List ℕ)) (fault : ScriptReason) → ok_or o reason.BadHead ≡ Err fault → fault ≡ reason.BadHead
bad (Some x) fault h = cc h
bad None fault h =
    let same : reason.BadHead ≡ fault = cc in
    sym same

pub nonce_line_in-err : (side : Side) (text : List ℕ) (fault : ScriptReason) → nonce_line_in side text ≡ Err fault → fault ≡ reason.BadHead
unfolding nonce_line_in
nonce_line_in-err side text fault h = bad (nonce_of side (words_of text)) fault h
