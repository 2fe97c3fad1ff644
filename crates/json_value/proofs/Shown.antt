-- What is shown of a value is the text of that value with its bytes as maps of their hex.
use Rattle.std.proofs.Common.{◌≡◌, ℕ, ◌≤◌, true, false, List, [], ◌∷◌, Some, IsUtf8, IsAscii, refl, sym, ap, ap₂, ◌∙◌, ltb-true}
use Rattle.std.proofs.lemmas.Bool.{and_parts}
use Rattle.std.proofs.lemmas.Str.{IsUtf8-from_ascii}
use Rattle.std.proofs.lemmas.Str.Ascii.{IsAscii-nil, IsAscii-cons}
use Rattle.std.specs.declared.cmp.Ordering.{Ordering}
use Rattle.std.specs.declared.cmp.Ordering.TheVariants.{Less, Equal, Greater}
use Rattle.std.specs.Ordering.{match_ordering}
use Rattle.hex.specs.Hex.{lower_digits}
use Rattle.hex.proofs.HexLemmas.{IsAscii-encode_with}
use Rattle.json.proofs.Printed.Utf8.{are_ascii, IsUtf8-are_ascii}
use Rattle.serde_json.specs.Data as json
use Rattle.serde_json.specs.Written.{compact_text}
use Rattle.wire_base.specs.Tree.{Tree, nil, flag, whole, words, bytes, items, pairs, Trees, no_items, item, Pairs, no_pairs, pair}
use Rattle.wire_base.specs.Values.{max_nesting, nesting, holds_bytes, items_hold_bytes, pairs_hold_bytes}
use Rattle.json_value.specs.Value.{IsValue, AreValues, ArePairs}
use Rattle.json_value.specs.Normal.{key_cmp, put, norm, norm_items, norm_onto}
use Rattle.json_value.specs.Json.{hex_text, with_hex, items_with_hex, pairs_with_hex, data_of, data_items, data_members, shown, json_text}
use Rattle.json_value.specs.Reading.{tree_of, IsReading}
use Rattle.json_value.proofs.ReadsBack.{bytes-norm, tree_of-data_of}
use Rattle.json_value.proofs.Readings.{some_is_one}
use Rattle.json_value.proofs.TextLemmas.{IsReading-json_text, one_data}

mutual
  pub holds_bytes-with_hex : (t : Tree) → holds_bytes (with_hex t) ≡ false
  holds_bytes-with_hex nil = refl
  holds_bytes-with_hex (flag b) = refl
  holds_bytes-with_hex (whole z) = refl
  holds_bytes-with_hex (words s) = refl
  holds_bytes-with_hex (bytes s) = refl
  holds_bytes-with_hex (items ts) = items_hold_bytes-with_hex ts
  holds_bytes-with_hex (pairs ps) = pairs_hold_bytes-with_hex ps

  items_hold_bytes-with_hex : (ts : Trees) → items_hold_bytes (items_with_hex ts) ≡ false
  items_hold_bytes-with_hex no_items = refl
  items_hold_bytes-with_hex (item t ts) = rw (holds_bytes-with_hex t) (items_hold_bytes-with_hex ts)

  pairs_hold_bytes-with_hex : (ps : Pairs) → pairs_hold_bytes (pairs_with_hex ps) ≡ false
  pairs_hold_bytes-with_hex no_pairs = refl
  pairs_hold_bytes-with_hex (pair k t ps) = rw (holds_bytes-with_hex t) (pairs_hold_bytes-with_hex ps)

-- ---- the text is the same

mutual
  data_of-with_hex : (t : Tree) → data_of (with_hex t) ≡ data_of t
  data_of-with_hex nil = refl
  data_of-with_hex (flag b) = refl
  data_of-with_hex (whole z) = refl
  data_of-with_hex (words s) = refl
  data_of-with_hex (bytes s) = refl
  data_of-with_hex (items ts) = ap json.array (data_items-with_hex ts)
  data_of-with_hex (pairs ps) = ap json.object (data_members-with_hex ps)

  data_items-with_hex : (ts : Trees) → data_items (items_with_hex ts) ≡ data_items ts
  data_items-with_hex no_items = refl
  data_items-with_hex (item t ts) = ap₂ json.item (data_of-with_hex t) (data_items-with_hex ts)

  data_members-with_hex : (ps : Pairs) → data_members (pairs_with_hex ps) ≡ data_members ps
  data_members-with_hex no_pairs = refl
  data_members-with_hex (pair k t ps) = ap₂ (json.member k) (data_of-with_hex t) (data_members-with_hex ps)

by_order : (o : Ordering) (a b c : Pairs) → pairs_with_hex (match_ordering o a b c) ≡ match_ordering o (pairs_with_hex a) (pairs_with_hex b) (pairs_with_hex c)
by_order Less a b c = refl
by_order Equal a b c = refl
by_order Greater a b c = refl

pairs_with_hex-put : (k : List ℕ) (t : Tree) (ps : Pairs) → pairs_with_hex (put k t ps) ≡ put k (with_hex t) (pairs_with_hex ps)
pairs_with_hex-put k t no_pairs = refl
pairs_with_hex-put k t (pair l u ps) = by_order (key_cmp k l) _ _ _ ∙ rw (pairs_with_hex-put k t ps) refl

mutual
  with_hex-norm : (t : Tree) → with_hex (norm t) ≡ norm (with_hex t)
  with_hex-norm nil = refl
  with_hex-norm (flag b) = refl
  with_hex-norm (whole z) = refl
  with_hex-norm (words s) = refl
  with_hex-norm (bytes s) = refl
  with_hex-norm (items ts) = ap items (items_with_hex-norm_items ts)
  with_hex-norm (pairs ps) = ap pairs (pairs_with_hex-norm_onto no_pairs ps)

  items_with_hex-norm_items : (ts : Trees) → items_with_hex (norm_items ts) ≡ norm_items (items_with_hex ts)
  items_with_hex-norm_items no_items = refl
  items_with_hex-norm_items (item t ts) = ap₂ item (with_hex-norm t) (items_with_hex-norm_items ts)

  pairs_with_hex-norm_onto : (found ps : Pairs) → pairs_with_hex (norm_onto found ps) ≡ norm_onto (pairs_with_hex found) (pairs_with_hex ps)
  pairs_with_hex-norm_onto found no_pairs = refl
  pairs_with_hex-norm_onto found (pair k t ps) =
      pairs_with_hex-norm_onto (put k (norm t) found) ps
      ∙ ap (λ qs. norm_onto qs (pairs_with_hex ps)) (pairs_with_hex-put k (norm t) found ∙ ap (λ u. put k u (pairs_with_hex found)) (with_hex-norm t))

data_of-norm : (t : Tree) → data_of (norm t) ≡ data_of (norm (with_hex t))
data_of-norm t = sym (data_of-with_hex (norm t)) ∙ ap data_of (with_hex-norm t)

pub shown-with_hex : (t : Tree) → shown t ≡ json_text (with_hex t)
shown-with_hex t = ap compact_text (data_of-norm t)

-- ---- the value with its bytes as hex is a value

IsAscii-are_ascii : (s : List ℕ) → are_ascii s ≡ true → IsAscii s
IsAscii-are_ascii [] e = IsAscii-nil
IsAscii-are_ascii (c ∷ s) e = let each = and_parts _ _ e in IsAscii-cons c s (ltb-true _ _ each.0) (IsAscii-are_ascii s each.1)

IsUtf8-hex_text : (s : List ℕ) → IsUtf8 (hex_text s)
IsUtf8-hex_text [] = IsUtf8-are_ascii _ refl
IsUtf8-hex_text (b ∷ bs) = IsUtf8-from_ascii _ (IsAscii-encode_with lower_digits (b ∷ bs) (IsAscii-are_ascii lower_digits refl))

mutual
  IsValue-with_hex : (t : Tree) → IsValue t → IsValue (with_hex t)
  IsValue-with_hex nil h = tt
  IsValue-with_hex (flag b) h = tt
  IsValue-with_hex (whole z) h = h
  IsValue-with_hex (words s) h = h
  IsValue-with_hex (bytes s) h = (IsUtf8-are_ascii _ refl, IsUtf8-hex_text s, tt)
  IsValue-with_hex (items ts) h = AreValues-with_hex ts h
  IsValue-with_hex (pairs ps) h = ArePairs-with_hex ps h

  AreValues-with_hex : (ts : Trees) → AreValues ts → AreValues (items_with_hex ts)
  AreValues-with_hex no_items h = tt
  AreValues-with_hex (item t ts) h = (IsValue-with_hex t h.0, AreValues-with_hex ts h.1)

  ArePairs-with_hex : (ps : Pairs) → ArePairs ps → ArePairs (pairs_with_hex ps)
  ArePairs-with_hex no_pairs h = tt
  ArePairs-with_hex (pair k t ps) h = (h.0, IsValue-with_hex t h.1, ArePairs-with_hex ps h.2)

-- ---- what is shown is read

pub IsReading-shown : (t : Tree) → IsValue t → nesting (with_hex t) ≤ max_nesting → IsReading (shown t) (norm (with_hex t))
IsReading-shown t v h = rw (shown-with_hex t) (IsReading-json_text (with_hex t) (IsValue-with_hex t v) h (holds_bytes-with_hex t))

tree_of-norm : (t : Tree) → tree_of (data_of (norm t)) ≡ Some (norm (with_hex t))
tree_of-norm t = ap tree_of (data_of-norm t) ∙ tree_of-data_of (norm (with_hex t)) (bytes-norm (with_hex t) (holds_bytes-with_hex t))

pub shown_is_one : (t u : Tree) → IsValue t → IsValue u → shown t ≡ shown u → norm (with_hex t) ≡ norm (with_hex u)
shown_is_one t u v w e = some_is_one _ _ (sym (tree_of-norm t) ∙ ap tree_of (one_data t u v w e) ∙ tree_of-norm u)
