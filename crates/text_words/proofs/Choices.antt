-- Words that are one of two, words that stand for themselves, and what their values are.
use Rattle.std.proofs.Common.{◌≡◌, ℕ, Bool, true, false, cond, ◌&&◌, List, [], ◌∷◌, refl, sym, Option, Some, None}
use Rattle.std.specs.Option.{option_map, is_some}
use Rattle.std.specs.Str.{bytes_eq}
use Rattle.std.proofs.lemmas.Bool.{and_parts}
use Rattle.message_body.specs.declared.encoding.Encoding.{Encoding}
use Rattle.message_body.specs.declared.encoding.Encoding.TheVariants as encoding
use Rattle.message_framing.specs.declared.framing.Framing.{Framing}
use Rattle.message_framing.specs.declared.framing.Framing.TheVariants as framing
use Rattle.rpc_items.specs.declared.calls.Expect.{Expect}
use Rattle.rpc_items.specs.declared.calls.Expect.TheVariants as expect
use Rattle.text_words.specs.Written.{framing_word, encoding_word, expect_word, owner_word, is_method, is_text_word}
use Rattle.text_words.specs.Reading.{framing_in, encoding_in, expect_in, owner_in, method_in}
use Rattle.text_words.specs.Json.{json_id_in}
use Rattle.text_words.proofs.ByteTests.{same_from_bytes_eq, and_true}

-- ---- what is written is read

pub framing_in-word : (x : Framing) → framing_in (framing_word x) ≡ Some x
unfolding framing_in
framing_in-word framing.Header = refl
framing_in-word framing.Length = refl

pub encoding_in-word : (x : Encoding) → encoding_in (encoding_word x) ≡ Some x
unfolding encoding_in
encoding_in-word encoding.Json = refl
encoding_in-word encoding.Pack = refl

pub expect_in-word : (x : Expect) → expect_in (expect_word x) ≡ Some x
unfolding expect_in
expect_in-word expect.Plain = refl
expect_in-word expect.Sequence = refl

pub owner_in-word : (own : Bool) → owner_in (owner_word own) ≡ Some own
unfolding owner_in
owner_in-word true = refl
owner_in-word false = refl

pub method_in-word : (x : List ℕ) → is_method x ≡ true → method_in x ≡ Some x
unfolding method_in
method_in-word [] h = let p = and_parts (is_text_word []) false h in cc (p.1)
method_in-word (b ∷ bs) h = refl

kept-written : {X : Type 0} (word : List ℕ) (o : Option X) → is_some o ≡ true → option_map (λ _. word) o ≡ Some word
kept-written word None h = cc h
kept-written word (Some x) h = refl

pub json_id-word : (word : List ℕ) → (is_text_word word && is_some (json_id_in word)) ≡ true → option_map (λ _. word) (json_id_in word) ≡ Some word
json_id-word word h = kept-written word (json_id_in word) (and_parts (is_text_word word) (is_some (json_id_in word)) h).1

-- ---- what is read is written so

-- the word of the value that a choice of two gave
pub chosen_of_two : {X : Type 0} (write : X → List ℕ) (w : List ℕ) (x y z : X) (b d : Bool) → bytes_eq w (write x) ≡ b → bytes_eq w (write y) ≡ d
    → cond b (Some x) (cond d (Some y) None) ≡ Some z → write z ≡ w
chosen_of_two write w x y z true d e g h =
    let same : x ≡ z = cc in
    rw (← same) (sym (same_from_bytes_eq w (write x) e))
chosen_of_two write w x y z false true e g h =
    let same : y ≡ z = cc in
    rw (← same) (sym (same_from_bytes_eq w (write y) g))
chosen_of_two write w x y z false false e g h = cc h

pub framing_in-some : (w : List ℕ) (x : Framing) → framing_in w ≡ Some x → framing_word x ≡ w
unfolding framing_in
framing_in-some w x h = chosen_of_two framing_word w framing.Header framing.Length x _ _ refl refl h

pub encoding_in-some : (w : List ℕ) (x : Encoding) → encoding_in w ≡ Some x → encoding_word x ≡ w
unfolding encoding_in
encoding_in-some w x h = chosen_of_two encoding_word w encoding.Json encoding.Pack x _ _ refl refl h

pub expect_in-some : (w : List ℕ) (x : Expect) → expect_in w ≡ Some x → expect_word x ≡ w
unfolding expect_in
expect_in-some w x h = chosen_of_two expect_word w expect.Plain expect.Sequence x _ _ refl refl h

pub owner_in-some : (w : List ℕ) (own : Bool) → owner_in w ≡ Some own → owner_word own ≡ w
unfolding owner_in
owner_in-some w own h = chosen_of_two owner_word w true false own _ _ refl refl h

pub method_in-some : (w x : List ℕ) → is_text_word w ≡ true → method_in w ≡ Some x → (x ≡ w) × (is_method x ≡ true)
unfolding method_in
method_in-some [] x t h = cc h
method_in-some (b ∷ bs) x t h =
    let same : b ∷ bs ≡ x = cc in
    rw (← same) (refl, and_true (is_text_word (b ∷ bs)) true t refl)

kept-some : {X : Type 0} (w x : List ℕ) (o : Option X) → option_map (λ _. w) o ≡ Some x → (w ≡ x) × (is_some o ≡ true)
kept-some w x None h = cc h
kept-some w x (Some y) h = (cc, refl)

pub json_id-some : (w x : List ℕ) → is_text_word w ≡ true → option_map (λ _. w) (json_id_in w) ≡ Some x
    → (x ≡ w) × ((is_text_word x && is_some (json_id_in x)) ≡ true)
json_id-some w x t h =
    let p = kept-some w x (json_id_in w) h in
    rw (← p.0) (refl, and_true (is_text_word w) (is_some (json_id_in w)) t p.1)
