-- The words of each form, and of a list of forms: what is written is read, what is read is written so, and it is one word.
use Rattle.std.proofs.Common.{◌≡◌, ℕ, leb, eqb, not, true, List, [], ◌∷◌, ◌++◌, length, refl, sym, Some, ap₂, subst}
use Rattle.std.specs.List.{list_all}
use Rattle.std.specs.Option.{is_some}
use Rattle.std.specs.Str.{bytes_eq}
use Rattle.std.proofs.lemmas.Bool.{and_parts}
use Rattle.std.proofs.lemmas.Option.{option_and_then_some}
use Rattle.mux_items.specs.Limits.{nonce_size}
use Rattle.text_words.specs.Written.{is_number, is_byte, is_text_word}
use Rattle.text_words.specs.Json.{json_id_in}
use Rattle.text_words.specs.Forms.{Form, side, channel, name, number, limited, bytes, byte, nonce, count, framing, encoding, expect, owner, method, signed, json_id, FormValue, read_form, write_form, is_value, FormValues, read_front, write_forms, are_values}
use Rattle.text_words.proofs.ByteTests.{and_true}
use Rattle.text_words.proofs.Values.{side_in-word, channel_in-word, name_in-word, number_in-word, number_up_to-word, bytes_in-word, byte_in-word, nonce_in-word, count_in-word, side_in-some, channel_in-some, name_in-some, number_in-is, number_up_to-some, bytes_in-is, byte_in-some, nonce_in-some, count_in-some}
use Rattle.text_words.proofs.Choices.{framing_in-word, encoding_in-word, expect_in-word, owner_in-word, method_in-word, json_id-word, framing_in-some, encoding_in-some, expect_in-some, owner_in-some, method_in-some, json_id-some}
use Rattle.text_words.proofs.Signs.{signed_in-word, signed_in-some}
use Rattle.text_words.proofs.Texts.{text_side, text_channel, text_name, text_number, text_bytes, text_count, text_framing, text_encoding, text_expect, text_owner, text_signed}

-- what is written is read
pub read_form-written : (f : Form) (x : FormValue f) → is_value f x ≡ true → read_form f (write_form f x) ≡ Some x
read_form-written side x h = side_in-word x
read_form-written channel x h = channel_in-word x h
read_form-written name x h = name_in-word x h
read_form-written number x h = number_in-word x h
read_form-written (limited limit) x h = number_up_to-word limit x h
read_form-written bytes x h = bytes_in-word x h
read_form-written byte x h = byte_in-word x h
read_form-written nonce x h = nonce_in-word x h
read_form-written count x h = count_in-word x h
read_form-written framing x h = framing_in-word x
read_form-written encoding x h = encoding_in-word x
read_form-written expect x h = expect_in-word x
read_form-written owner x h = owner_in-word x
read_form-written method x h = method_in-word x h
read_form-written signed x h = signed_in-word x h
read_form-written json_id x h = json_id-word x h

-- what is read is written so
pub read_form-some : (f : Form) (word : List ℕ) (x : FormValue f) → is_text_word word ≡ true → read_form f word ≡ Some x → (write_form f x ≡ word) × (is_value f x ≡ true)
read_form-some side word x t h = (side_in-some word x h, refl)
read_form-some channel word x t h = channel_in-some word x h
read_form-some name word x t h = name_in-some word x t h
read_form-some number word x t h = number_in-is word x h
read_form-some (limited limit) word x t h = number_up_to-some limit word x h
read_form-some bytes word x t h = bytes_in-is word x h
read_form-some byte word x t h = byte_in-some word x h
read_form-some nonce word x t h = nonce_in-some word x h
read_form-some count word x t h = count_in-some word x h
read_form-some framing word x t h = (framing_in-some word x h, refl)
read_form-some encoding word x t h = (encoding_in-some word x h, refl)
read_form-some expect word x t h = (expect_in-some word x h, refl)
read_form-some owner word x t h = (owner_in-some word x h, refl)
read_form-some method word x t h = method_in-some word x t h
read_form-some signed word x t h = signed_in-some word x h
read_form-some json_id word x t h = json_id-some word x t h

-- what is written is one word
pub write_form-text : (f : Form) (x : FormValue f) → is_value f x ≡ true → is_text_word (write_form f x) ≡ true
write_form-text side x h = text_side x
write_form-text channel x h = text_channel x h
write_form-text name x h = text_name x h
write_form-text number x h = text_number x h
write_form-text (limited limit) x h = text_number x (and_parts (is_number x) (leb x limit) h).0
write_form-text bytes x h = text_bytes x h
write_form-text byte x h = text_bytes (x ∷ []) (rw h refl)
write_form-text nonce x h = text_bytes x (and_parts (eqb (length x) nonce_size) (list_all is_byte x) h).1
write_form-text count x h = text_count x h
write_form-text framing x h = text_framing x
write_form-text encoding x h = text_encoding x
write_form-text expect x h = text_expect x
write_form-text owner x h = text_owner x
write_form-text method x h = (and_parts (is_text_word x) (not (bytes_eq x [])) h).0
write_form-text signed x h = text_signed x h
write_form-text json_id x h = (and_parts (is_text_word x) (is_some (json_id_in x)) h).0

-- the same of a list of forms, with the words behind theirs

pub read_front-written : (fs : List Form) (xs : FormValues fs) (more : List (List ℕ)) → are_values fs xs ≡ true → read_front fs (write_forms fs xs ++ more) ≡ Some (xs, more)
read_front-written [] xs more h = refl
read_front-written (f ∷ fs) xs more h =
    let p = and_parts (is_value f xs.0) (are_values fs xs.1) h in
    rw (read_form-written f xs.0 p.0, read_front-written fs xs.1 more p.1) refl

-- these words are the values' words and those left
abbrev AreParts : (fs : List Form) → List (List ℕ) → FormValues fs × List (List ℕ) → Type 0
AreParts fs words front = (words ≡ write_forms fs front.0 ++ front.1) × (are_values fs front.0 ≡ true)

read_front-parts : (fs : List Form) (words : List (List ℕ)) (front : FormValues fs × List (List ℕ)) → list_all is_text_word words ≡ true → read_front fs words ≡ Some front → AreParts fs words front
read_front-parts [] words front t h =
    let same : (tt, words) ≡ front = cc in
    subst (AreParts [] words) same (refl, refl)
read_front-parts (f ∷ fs) [] front t h = cc h
read_front-parts (f ∷ fs) (word ∷ words) front t h =
    let texts = and_parts (is_text_word word) (list_all is_text_word words) t in
    option_and_then_some _ (read_form f word) front h (λ y e g.
    option_and_then_some _ (read_front fs words) front g (λ ys d s.
    let first = read_form-some f word y texts.0 e in
    let others = read_front-parts fs words ys texts.1 d in
    let same : ((y, ys.0), ys.1) ≡ front = cc in
    subst (AreParts (f ∷ fs) (word ∷ words)) same (ap₂ (λ w ws. w ∷ ws) (sym first.0) others.0, and_true (is_value f y) (are_values fs ys.0) first.1 others.1)))

pub read_front-some : (fs : List Form) (words : List (List ℕ)) (xs : FormValues fs) (left : List (List ℕ)) → list_all is_text_word words ≡ true → read_front fs words ≡ Some (xs, left)
    → (words ≡ write_forms fs xs ++ left) × (are_values fs xs ≡ true)
read_front-some fs words xs left t h = read_front-parts fs words (xs, left) t h

pub write_forms-texts : (fs : List Form) (xs : FormValues fs) → are_values fs xs ≡ true → list_all is_text_word (write_forms fs xs) ≡ true
write_forms-texts [] xs h = refl
write_forms-texts (f ∷ fs) xs h =
    let p = and_parts (is_value f xs.0) (are_values fs xs.1) h in
    and_true (is_text_word (write_form f xs.0)) (list_all is_text_word (write_forms fs xs.1)) (write_form-text f xs.0 p.0) (write_forms-texts fs xs.1 p.1)
