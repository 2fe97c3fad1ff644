-- Bytes in values of a sequence and how deep they nest, in its response and in its pages.
use Rattle.std.specs.Prelude.{Bool, true, false, ◌&&◌, ◌||◌, nat_le, nat_lt, max, zero, suc}
use Rattle.std.specs.List.{list_any}
use Rattle.std.proofs.Common.{◌≡◌, ℕ, ◌+◌, ◌<◌, ◌≤◌, List, [], ◌∷◌, length, take, drop, refl, sym, ◌∙◌, ap, ap₂, arith, Option, Some, None}
use Rattle.std.proofs.lemmas.Bool.{or_parts}
use Rattle.std.proofs.lemmas.Bool.Decides.{nat_tests}
use Rattle.std.proofs.lemmas.List.{length-drop, take-append-drop}
use Rattle.std.proofs.lemmas.List.Folds.{list_any-append}
use Rattle.wire_base.specs.Tree.{Tree, trees_of}
use Rattle.wire_base.specs.Values.{nesting, nestings, holds_bytes, items_hold_bytes}
use Rattle.wire_base.specs.declared.text.Id.{Id}
use Rattle.wire_base.specs.declared.text.Id.TheVariants.{Number, Name}
use Rattle.rpc_items.specs.Bodies.{most_nested}
use Rattle.rpc_items.specs.Pages.{page_value, page_values, sequence_value}
use Rattle.rpc_items.specs.Writing.{message_value}
use Rattle.rpc_items.specs.declared.messages.Message.TheVariants as message
use Rattle.sequence_limits.specs.Limits.{most_nested_value}

-- ---- the tests of all values are those of each

abbrev pub is_too_deep : Tree → Bool
is_too_deep value = nat_lt most_nested_value (nesting value)

deeper : (a b : ℕ) → nat_lt most_nested_value (max a b) ≡ (nat_lt most_nested_value a || nat_lt most_nested_value b)
deeper a b = grind (arith, nat_tests)

pub deep_any : (values : List Tree) → nat_lt most_nested_value (nestings (trees_of values)) ≡ list_any is_too_deep values
deep_any [] = refl
deep_any (v ∷ values) = deeper (nesting v) (nestings (trees_of values)) ∙ ap (λ b. is_too_deep v || b) (deep_any values)

pub bytes_any : (values : List Tree) → items_hold_bytes (trees_of values) ≡ list_any holds_bytes values
bytes_any [] = refl
bytes_any (v ∷ values) = ap (λ b. holds_bytes v || b) (bytes_any values)

-- ---- a front and the rest

pub parts_any : (test : Tree → Bool) (n : ℕ) (values : List Tree) → (list_any test (take n values) || list_any test (drop n values)) ≡ list_any test values
parts_any test n values = sym (list_any-append test (take n values) (drop n values)) ∙ ap (list_any test) (take-append-drop n values)

pub parts_none : (test : Tree → Bool) (n : ℕ) (values : List Tree) → list_any test values ≡ false → (list_any test (take n values) ≡ false) × (list_any test (drop n values) ≡ false)
parts_none test n values e = or_parts (list_any test (take n values)) (list_any test (drop n values)) (parts_any test n values ∙ e)

and_none : (j b c : Bool) → (b ≡ false → c ≡ false) → (j && b) ≡ false → (j && c) ≡ false
and_none true b c f e = f e
and_none false b c f e = refl

pub take_bytes : (j : Bool) (n : ℕ) (values : List Tree) → (j && items_hold_bytes (trees_of values)) ≡ false → (j && items_hold_bytes (trees_of (take n values))) ≡ false
take_bytes j n values = and_none j _ _ (λ e. bytes_any (take n values) ∙ (parts_none holds_bytes n values (sym (bytes_any values) ∙ e)).0)

pub drop_bytes : (j : Bool) (n : ℕ) (values : List Tree) → (j && items_hold_bytes (trees_of values)) ≡ false → (j && items_hold_bytes (trees_of (drop n values))) ≡ false
drop_bytes j n values = and_none j _ _ (λ e. bytes_any (drop n values) ∙ (parts_none holds_bytes n values (sym (bytes_any values) ∙ e)).1)

-- ---- a page: two levels around its values, and a third in a response

or_false : (b : Bool) → (b || false) ≡ b
or_false true = refl
or_false false = refl

three_levels : (n : ℕ) → nat_lt most_nested (n + 3) ≡ nat_lt most_nested_value n
three_levels n = grind (arith, nat_tests)

pub page_bytes : (finished : Bool) (values : List Tree) → holds_bytes (page_value finished values) ≡ items_hold_bytes (trees_of values)
page_bytes finished values = or_false (items_hold_bytes (trees_of values))

pub page_deep : (finished : Bool) (values : List Tree) → nat_lt most_nested (nesting (page_value finished values) + 1) ≡ list_any is_too_deep values
page_deep finished values = ap (nat_lt most_nested) (levels (nestings (trees_of values))) ∙ (three_levels (nestings (trees_of values)) ∙ deep_any values)
  where
    levels : (n : ℕ) → max 0 (max (n + 1) 0) + 1 + 1 ≡ n + 3
    levels n = omega arith

-- the pages have all values
pub pages_deep : (most page : ℕ) (values : List Tree) → 0 < page → length values ≤ most → list_any (λ page. nat_lt most_nested (nesting page + 1)) (page_values most page values) ≡ list_any is_too_deep values
pages_deep zero page [] p m = refl
pages_deep zero page (v ∷ values) p m = absurd (omega arith)
pages_deep (suc most) page [] p m = refl
pages_deep (suc most) page (v ∷ values) p m =
    let rest = drop page (v ∷ values) in
    let less = length-drop page (v ∷ values) in
    ap₂ (λ a b. a || b) (page_deep (nat_le (length (v ∷ values)) page) (take page (v ∷ values))) (pages_deep most page rest p (omega arith))
    ∙ parts_any is_too_deep page (v ∷ values)

-- ---- a response: three levels around the first values

sequence_bytes : (token : Option ℕ) (values : List Tree) → holds_bytes (sequence_value token values) ≡ items_hold_bytes (trees_of values)
sequence_bytes (Some token) values = or_false (items_hold_bytes (trees_of values))
sequence_bytes None values = or_false (items_hold_bytes (trees_of values))

pub response_bytes : (id : Id) (token : Option ℕ) (values : List Tree) → holds_bytes (message_value (message.Result id (sequence_value token values))) ≡ items_hold_bytes (trees_of values)
response_bytes (Number z) token values = or_false (holds_bytes (sequence_value token values)) ∙ sequence_bytes token values
response_bytes (Name s) token values = or_false (holds_bytes (sequence_value token values)) ∙ sequence_bytes token values

sequence_nests : (token : Option ℕ) (values : List Tree) → nesting (sequence_value token values) ≡ nestings (trees_of values) + 2
sequence_nests (Some token) values = levels (nestings (trees_of values))
  where
    levels : (n : ℕ) → max 0 (max (n + 1) 0) + 1 ≡ n + 2
    levels n = omega arith
sequence_nests None values = levels (nestings (trees_of values))
  where
    levels : (n : ℕ) → max (n + 1) 0 + 1 ≡ n + 2
    levels n = omega arith

in_response : (m n : ℕ) → m ≡ n + 2 → max 0 (max 0 (max m 0)) + 1 ≡ n + 3
in_response m n e = omega arith

response_nests : (id : Id) (token : Option ℕ) (values : List Tree) → nesting (message_value (message.Result id (sequence_value token values))) ≡ nestings (trees_of values) + 3
response_nests (Number z) token values = in_response _ _ (sequence_nests token values)
response_nests (Name s) token values = in_response _ _ (sequence_nests token values)

pub response_deep : (id : Id) (token : Option ℕ) (values : List Tree) → nat_lt most_nested (nesting (message_value (message.Result id (sequence_value token values)))) ≡ list_any is_too_deep values
response_deep id token values = ap (nat_lt most_nested) (response_nests id token values) ∙ (three_levels (nestings (trees_of values)) ∙ deep_any values)
