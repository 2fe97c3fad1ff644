-- The text of a value is UTF-8, and is read as the value's normal form.
use Rattle.std.proofs.Common.{◌≡◌, ℕ, ◌≤◌, max, ℤ, pos, negsuc, Bool, true, false, List, [], ◌∷◌, Option, Some, option_map, option_and_then, IsUtf8, refl, sym, ap, ◌∙◌, append-nil, arith}
use Rattle.std.proofs.lemmas.Bool.{or_parts}
use Rattle.std.proofs.lemmas.Fmt.{IsAscii-signed, IsAscii-decimal}
use Rattle.std.proofs.lemmas.Int.{ints}
use Rattle.std.proofs.lemmas.Str.{IsUtf8-append, IsUtf8-nil, IsUtf8-from_ascii}
use Rattle.std.specs.declared.cmp.Ordering.{Ordering}
use Rattle.std.specs.declared.cmp.Ordering.TheVariants.{Less, Equal, Greater}
use Rattle.std.specs.Ordering.{match_ordering}
use Rattle.json.specs.Json as grammar
use Rattle.json.specs.Lex.{tokens}
use Rattle.json.specs.Print.{IsNumber}
use Rattle.json.specs.Tree as grown
use Rattle.json.proofs.Printed.Decimals.{IsNumber-decimal, IsNumber-signed_decimal}
use Rattle.json.proofs.Printed.Trees.{ArePrintable-json_tokens, value-json_tokens}
use Rattle.json.proofs.Printed.Tokens.{tokens-print}
use Rattle.json.proofs.Printed.Utf8.{are_ascii, IsUtf8-are_ascii, IsUtf8-quoted, IsUtf8-boolean}
use Rattle.serde_json.specs.Data as json
use Rattle.serde_json.specs.Find.{of_integer}
use Rattle.serde_json.specs.Read.{number_of, of_json, of_items, of_members, max_depth}
use Rattle.serde_json.specs.Written.{number_text, outline, items_outline, members_outline, compact_text, items_text, members_text, comma_if}
use Rattle.serde_json.proofs.Numbers.{number_of-decimal, number_of-negative}
use Rattle.serde_json.proofs.Texts.{print-outline}
use Rattle.wire_base.specs.Tree.{Tree, nil, flag, whole, words, bytes, items, pairs, Trees, no_items, item, Pairs, no_pairs, pair}
use Rattle.wire_base.specs.Whole.{IsWhole}
use Rattle.wire_base.specs.Values.{max_nesting, nesting, holds_bytes, items_hold_bytes, pairs_hold_bytes}
use Rattle.json_value.specs.Value.{IsValue, AreValues, ArePairs}
use Rattle.json_value.specs.Normal.{key_cmp, put, norm, norm_items, norm_onto}
use Rattle.json_value.specs.Json.{data_of, data_items, data_members, shown, json_text}
use Rattle.json_value.specs.Reading.{IsReading}
use Rattle.json_value.proofs.NormLemmas.{norm-norm}
use Rattle.json_value.proofs.ReadsBack.{bytes-norm, reads_back}
use Rattle.json_value.proofs.Readings.{some_is_one}
use Rattle.json_value.proofs.Writings.{plain, data_members-put}

-- ---- a whole number

number_of-whole : (z : ℤ) → IsWhole z → number_of (number_text (of_integer z)) ≡ Some (of_integer z)
number_of-whole (pos n) h = number_of-decimal n (omega (arith, ints, h.1))
number_of-whole (negsuc n) h = number_of-negative n (omega (arith, ints, h.0))

IsNumber-whole : (z : ℤ) → IsWhole z → IsNumber (number_text (of_integer z))
IsNumber-whole (pos n) h = IsNumber-decimal n (omega (arith, ints, h.1))
IsNumber-whole (negsuc n) h = IsNumber-signed_decimal (negsuc n) (omega (arith, ints, h.0))

IsUtf8-whole : (z : ℤ) → IsWhole z → IsUtf8 (number_text (of_integer z))
IsUtf8-whole (pos n) h = IsUtf8-from_ascii _ (IsAscii-decimal n (omega (arith, ints, h.1)))
IsUtf8-whole (negsuc n) h = IsUtf8-from_ascii _ (IsAscii-signed (negsuc n) (omega (arith, ints, h.0)))

-- ---- what the crate reads of the data of a value

mutual
  of_json-data_of : (t : Tree) → IsValue t → of_json (outline (data_of t)) ≡ Some (plain t)
  of_json-data_of nil h = refl
  of_json-data_of (flag b) h = refl
  of_json-data_of (whole z) h = ap (option_map json.number) (number_of-whole z h)
  of_json-data_of (words s) h = refl
  of_json-data_of (bytes s) h = refl
  of_json-data_of (items ts) h = ap (option_map json.array) (of_items-data_items ts h)
  of_json-data_of (pairs ps) h = ap (option_map json.object) (of_members-data_members no_pairs ps h)

  of_items-data_items : (ts : Trees) → AreValues ts → of_items (items_outline (data_items ts)) ≡ Some (data_items (norm_items ts))
  of_items-data_items no_items h = refl
  of_items-data_items (item t ts) h = rw (of_json-data_of t h.0, of_items-data_items ts h.1) refl

  of_members-data_members : (found ps : Pairs) → ArePairs ps → of_members (members_outline (data_members ps)) (data_members found) ≡ Some (data_members (norm_onto found ps))
  of_members-data_members found no_pairs h = refl
  of_members-data_members found (pair k t ps) h =
      rw (of_json-data_of t h.1) (rw (← data_members-put k (norm t) found) (of_members-data_members (put k (norm t) found) ps h.2))

-- ---- the grammar of that data

mutual
  depth-outline : (d : json.Data) → grown.depth (outline d) ≡ json.depth d
  depth-outline json.null = refl
  depth-outline (json.boolean b) = refl
  depth-outline (json.number n) = refl
  depth-outline (json.string s) = refl
  depth-outline (json.array ds) = omega (arith, depth-items_outline ds)
  depth-outline (json.object ms) = omega (arith, depth-members_outline ms)

  depth-items_outline : (ds : json.Items) → grown.items_depth (items_outline ds) ≡ json.items_depth ds
  depth-items_outline json.no_items = refl
  depth-items_outline (json.item d ds) = rw (depth-outline d, depth-items_outline ds) refl

  depth-members_outline : (ms : json.Members) → grown.members_depth (members_outline ms) ≡ json.members_depth ms
  depth-members_outline json.no_members = refl
  depth-members_outline (json.member k d ms) = rw (depth-outline d, depth-members_outline ms) refl

mutual
  HasNumbers-data_of : (t : Tree) → IsValue t → grown.HasNumbers (outline (data_of t))
  HasNumbers-data_of nil h = tt
  HasNumbers-data_of (flag b) h = tt
  HasNumbers-data_of (whole z) h = IsNumber-whole z h
  HasNumbers-data_of (words s) h = tt
  HasNumbers-data_of (bytes s) h = (tt, tt)
  HasNumbers-data_of (items ts) h = HasNumbers-data_items ts h
  HasNumbers-data_of (pairs ps) h = HasNumbers-data_members ps h

  HasNumbers-data_items : (ts : Trees) → AreValues ts → grown.ItemsHaveNumbers (items_outline (data_items ts))
  HasNumbers-data_items no_items h = tt
  HasNumbers-data_items (item t ts) h = (HasNumbers-data_of t h.0, HasNumbers-data_items ts h.1)

  HasNumbers-data_members : (ps : Pairs) → ArePairs ps → grown.MembersHaveNumbers (members_outline (data_members ps))
  HasNumbers-data_members no_pairs h = tt
  HasNumbers-data_members (pair k t ps) h = (HasNumbers-data_of t h.1, HasNumbers-data_members ps h.2)

-- a text as the crate reads it, with room for values nested n deep
abbrev read_within : ℕ → List ℕ → Option json.Data
read_within n s = option_and_then of_json (option_and_then (λ p. grammar.if_last p.0 p.1) (grammar.value n (tokens s)))

-- the text of a value's data is read as the data of its normal form, where there is room for it
read_within-compact_text : (n : ℕ) (t : Tree) → IsValue t → json.depth (data_of t) ≤ n → read_within n (compact_text (data_of t)) ≡ Some (plain t)
read_within-compact_text n t h shallow =
    let j = outline (data_of t) in
    let same = ap tokens (sym (print-outline (data_of t))) ∙ tokens-print (grown.json_tokens j) (ArePrintable-json_tokens j (HasNumbers-data_of t h)) in
    ap (λ ts. option_and_then of_json (option_and_then (λ p. grammar.if_last p.0 p.1) (grammar.value n ts))) (same ∙ sym (append-nil _))
    ∙ ap (λ o. option_and_then of_json (option_and_then (λ p. grammar.if_last p.0 p.1) o)) (value-json_tokens j n [] (rw (depth-outline (data_of t)) shallow))
    ∙ of_json-data_of t h

-- ---- UTF-8

is_utf8_then : (x : ℕ) (s : List ℕ) → are_ascii (x ∷ []) ≡ true → IsUtf8 s → IsUtf8 (x ∷ s)
is_utf8_then x s e h = IsUtf8-append (x ∷ []) s (IsUtf8-are_ascii (x ∷ []) e) h

comma : (later : Bool) → IsUtf8 (comma_if later)
comma true = IsUtf8-are_ascii _ refl
comma false = IsUtf8-nil

mutual
  IsUtf8-compact_text : (t : Tree) → IsValue t → holds_bytes t ≡ false → IsUtf8 (compact_text (data_of t))
  IsUtf8-compact_text nil h e = IsUtf8-are_ascii _ refl
  IsUtf8-compact_text (flag b) h e = IsUtf8-boolean b
  IsUtf8-compact_text (whole z) h e = IsUtf8-whole z h
  IsUtf8-compact_text (words s) h e = IsUtf8-quoted s h
  IsUtf8-compact_text (bytes s) h e = absurd cc
  IsUtf8-compact_text (items ts) h e = is_utf8_then 91 _ refl (IsUtf8-items_text false ts h e)
  IsUtf8-compact_text (pairs ps) h e = is_utf8_then 123 _ refl (IsUtf8-members_text false ps h e)

  IsUtf8-items_text : (later : Bool) (ts : Trees) → AreValues ts → items_hold_bytes ts ≡ false → IsUtf8 (items_text later (data_items ts))
  IsUtf8-items_text later no_items h e = IsUtf8-are_ascii _ refl
  IsUtf8-items_text later (item t ts) h e =
      let none = or_parts (holds_bytes t) (items_hold_bytes ts) e in
      IsUtf8-append _ _ (comma later) (IsUtf8-append _ _ (IsUtf8-compact_text t h.0 none.0) (IsUtf8-items_text true ts h.1 none.1))

  IsUtf8-members_text : (later : Bool) (ps : Pairs) → ArePairs ps → pairs_hold_bytes ps ≡ false → IsUtf8 (members_text later (data_members ps))
  IsUtf8-members_text later no_pairs h e = IsUtf8-are_ascii _ refl
  IsUtf8-members_text later (pair k t ps) h e =
      let none = or_parts (holds_bytes t) (pairs_hold_bytes ps) e in
      let rest = IsUtf8-append _ _ (IsUtf8-compact_text t h.1 none.0) (IsUtf8-members_text true ps h.2 none.1) in
      IsUtf8-append _ _ (comma later) (IsUtf8-append _ _ (IsUtf8-quoted k h.0) (is_utf8_then 58 _ refl rest))

-- ---- the normal form of what has numbers in range and texts of UTF-8 has such, too

by_order : (o : Ordering) (a b c : Pairs) → ArePairs a → ArePairs b → ArePairs c → ArePairs (match_ordering o a b c)
by_order Less a b c x y z = x
by_order Equal a b c x y z = y
by_order Greater a b c x y z = z

ArePairs-put : (k : List ℕ) (t : Tree) (ps : Pairs) → IsUtf8 k → IsValue t → ArePairs ps → ArePairs (put k t ps)
ArePairs-put k t no_pairs u v h = (u, v, tt)
ArePairs-put k t (pair l s ps) u v h = by_order (key_cmp k l) _ _ _ (u, v, h) (h.0, v, h.2) (h.0, h.1, ArePairs-put k t ps u v h.2)

mutual
  IsValue-norm : (t : Tree) → IsValue t → IsValue (norm t)
  IsValue-norm nil h = tt
  IsValue-norm (flag b) h = tt
  IsValue-norm (whole z) h = h
  IsValue-norm (words s) h = h
  IsValue-norm (bytes s) h = tt
  IsValue-norm (items ts) h = AreValues-norm_items ts h
  IsValue-norm (pairs ps) h = ArePairs-norm_onto no_pairs ps tt h

  AreValues-norm_items : (ts : Trees) → AreValues ts → AreValues (norm_items ts)
  AreValues-norm_items no_items h = tt
  AreValues-norm_items (item t ts) h = (IsValue-norm t h.0, AreValues-norm_items ts h.1)

  ArePairs-norm_onto : (found ps : Pairs) → ArePairs found → ArePairs ps → ArePairs (norm_onto found ps)
  ArePairs-norm_onto found no_pairs f h = f
  ArePairs-norm_onto found (pair k t ps) f h = ArePairs-norm_onto (put k (norm t) found) ps (ArePairs-put k (norm t) found h.0 (IsValue-norm t h.1) f) h.2

-- ---- what is written is read

-- what is shown of a value is read as the data of its normal form, where there is room for it
read_within-shown : (n : ℕ) (t : Tree) → IsValue t → json.depth (data_of (norm t)) ≤ n → read_within n (shown t) ≡ Some (data_of (norm t))
read_within-shown n t v shallow = read_within-compact_text n (norm t) (IsValue-norm t v) shallow ∙ ap (λ u. Some (data_of u)) (norm-norm t)

pub IsReading-json_text : (t : Tree) → IsValue t → nesting t ≤ max_nesting → holds_bytes t ≡ false → IsReading (json_text t) (norm t)
IsReading-json_text t v h e = reads_back t h e (IsUtf8-compact_text (norm t) (IsValue-norm t v) (bytes-norm t e)) (read_within-shown max_depth t v)

-- values that are shown alike have one normal form, as data
pub one_data : (t u : Tree) → IsValue t → IsValue u → shown t ≡ shown u → data_of (norm t) ≡ data_of (norm u)
one_data t u v w e =
    let n = max (json.depth (data_of (norm t))) (json.depth (data_of (norm u))) in
    some_is_one _ _ (sym (read_within-shown n t v (omega arith)) ∙ ap (read_within n) e ∙ read_within-shown n u w (omega arith))
