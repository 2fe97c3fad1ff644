-- How many bytes short messages have, and that both encodings leave room for them.
use Rattle.std.specs.Prelude.{ℤ, pos, negsuc, codes, nat_lt, nat_le, if◌then◌else◌, decimal}
use Rattle.std.specs.Char.{digit_char}
use Rattle.std.proofs.Common.{◌≡◌, ℕ, suc, ◌+◌, ◌*◌, ◌/◌, ◌%◌, ◌≤◌, Bool, true, false, cond, List, [], ◌∷◌, length, Some, None, refl, arith, length-append}
use Rattle.std.proofs.lemmas.Bool.{le-ltb, ltb-true, ltb-false, leb-true}
use Rattle.std.proofs.lemmas.Fmt.{length-decimal-le}
use Rattle.json.specs.Print.{escape_letter, escape_byte, escape, quoted}
use Rattle.serde_json.specs.Data as json
use Rattle.serde_json.specs.Find.{of_integer}
use Rattle.serde_json.specs.Written.{compact_text}
use Rattle.wire_base.specs.Tree.{Tree, nil, whole, words}
use Rattle.wire_base.specs.Shortest.{str_head}
use Rattle.wire_base.specs.declared.text.Id.{Id}
use Rattle.wire_base.specs.declared.text.Id.TheVariants.{Number, Name}
use Rattle.wire_base.proofs.ShortestLemmas.{length-whole_text, length-str_head}
use Rattle.json_value.specs.Json.{data_of}
use Rattle.json_value.specs.Normal.{norm}
use Rattle.pack_value.specs.Shortest.{text}
use Rattle.rpc_items.specs.declared.messages.Message.TheVariants as message
use Rattle.rpc_items.specs.Ids.{whole_bound, is_id_number, most_id_text, id_value}
use Rattle.rpc_items.specs.Writing.{message_value}
use Rattle.rpc_items.specs.Automatic.{fault}
use Rattle.rpc_items.specs.Bodies.{most_body, most_page}
use Rattle.rpc_items.specs.Fitting.{IsNamed, IsFair}
use Rattle.message_body.specs.declared.encoding.Encoding.{Encoding}
use Rattle.message_body.specs.declared.encoding.Encoding.TheVariants.{Json, Pack}
use Rattle.message_body.specs.Written.{value_text, encoder}

-- ---- a text

-- of one of three forms
form_short : (short control : Bool) (x y z w : ℕ) → length (cond short (92 ∷ x ∷ []) (cond control (92 ∷ 117 ∷ 48 ∷ 48 ∷ y ∷ z ∷ []) (w ∷ []))) ≤ 6
form_short true control x y z w = omega arith
form_short false true x y z w = omega arith
form_short false false x y z w = omega arith

escaped_short : (x : ℕ) → length (escape_byte x) ≤ 6
unfolding escape_byte
escaped_short x = form_short (nat_lt 0 (escape_letter x)) (nat_lt x 32) (escape_letter x) (digit_char (x / 16)) (digit_char (x % 16)) x

escape_short : (s : List ℕ) → length (escape s) ≤ 6 * length s
escape_short [] = omega arith
escape_short (x ∷ s) = omega (arith, escaped_short x, escape_short s, length-append (escape_byte x) (escape s))

quoted_short : (s : List ℕ) → length (quoted s) ≤ 6 * length s + 2
quoted_short s = omega (arith, escape_short s, length-append (escape s) (34 ∷ []))

pub words_short : (e : Encoding) (s : List ℕ) → length (value_text e (words s)) ≤ 6 * length s + 5
words_short Json s = omega (arith, quoted_short s)
words_short Pack s = let head = (length-str_head (length s)).1 in omega (arith, head, length-append (str_head (length s)) s)

-- ---- a number

digits_short : (n : ℕ) → n ≤ whole_bound → length (decimal n) ≤ 20
digits_short n l = length-decimal-le 20 n (omega arith) (omega arith) (omega arith)

number_short : (z : ℤ) → is_id_number z ≡ true → length (compact_text (json.number (of_integer z))) ≤ 21
number_short (pos n) h = let l = ltb-true n whole_bound h in omega (arith, digits_short n (omega arith))
number_short (negsuc n) h = let l = ltb-true n whole_bound h in omega (arith, digits_short (suc n) (omega arith))

pub whole_short : (e : Encoding) (z : ℤ) → is_id_number z ≡ true → length (value_text e (whole z)) ≤ 21
whole_short Json z h = number_short z h
whole_short Pack z h = let p = (length-whole_text z).1 in omega (arith, p)

-- ---- an id

if_some : {A : Type 0} (b : Bool) (x y : A) → (if b then Some x else None) ≡ Some y → b ≡ true
if_some true x y e = refl
if_some false x y e = absurd cc

pub id_short : (e : Encoding) (id : Id) → IsNamed id → length (value_text e (id_value id)) ≤ 6149
id_short e (Number z) h = omega (arith, whole_short e z (if_some (is_id_number z) (Number z) (Number z) h))
id_short e (Name s) h = let l = leb-true (length s) most_id_text (if_some (nat_le (length s) most_id_text) (Name s) (Name s) h) in omega (arith, l, words_short e s)

-- ---- a result and an error around what they hold

-- each member of a JSON object with its key, a result's and an error's
json_result : (id value : json.Data) → length (compact_text (json.object (json.member (codes "id") id (json.member (codes "jsonrpc") (json.string (codes "2.0")) (json.member (codes "result") value json.no_members))))) ≤ length (compact_text id) + length (compact_text value) + 34
unfolding escape_byte
json_result id value = simp length-append (omega arith)

json_error : (id code text : json.Data) → length (compact_text (json.object (json.member (codes "error") (json.object (json.member (codes "code") code (json.member (codes "message") text json.no_members))) (json.member (codes "id") id (json.member (codes "jsonrpc") (json.string (codes "2.0")) json.no_members))))) ≤ length (compact_text id) + length (compact_text code) + length (compact_text text) + 54
unfolding escape_byte
json_error id code text = simp length-append (omega arith)

pub result_size : (e : Encoding) (id : Id) (value : Tree) → length (value_text e (message_value (message.Result id value))) ≤ length (value_text e (id_value id)) + length (value_text e value) + 34
result_size Json id value = json_result (data_of (norm (id_value id))) (data_of (norm value))
result_size Pack id value = simp length-append (omega arith)

pub error_size : (e : Encoding) (id : Id) (code : ℤ) (s : List ℕ) → length (value_text e (message_value (fault id code s))) ≤ length (value_text e (id_value id)) + length (value_text e (whole code)) + length (value_text e (words s)) + 54
error_size Json id code s = json_error (data_of (norm (id_value id))) (json.number (of_integer code)) (json.string s)
error_size Pack id code s = simp length-append (omega arith)

-- ---- room

nil_short : (e : Encoding) → length (value_text e nil) ≤ 4
nil_short Json = omega arith
nil_short Pack = omega arith

pub fair : (e : Encoding) → IsFair (encoder e)
fair e = record {
  page = λ id page n l. le-ltb most_body _ (omega (arith, result_size e id page, id_short e id n, ltb-false most_page (length (value_text e page)) l));
  nil = λ id n. le-ltb most_body _ (omega (arith, result_size e id nil, id_short e id n, nil_short e));
  fault = λ id code s n c l. le-ltb most_body _ (omega (arith, error_size e id code s, id_short e id n, whole_short e code c, words_short e s, l));
}
