-- A sequence is refused for its values, then for its response, then for its pages.
use Rattle.std.specs.Prelude.{Bool, true, false, ◌==◌, ◌&&◌, ◌||◌, nat_lt, if◌then◌else◌}
use Rattle.std.specs.List.{list_any}
use Rattle.std.proofs.Common.{◌≡◌, ℕ, ◌+◌, List, length, take, drop, refl, ◌∙◌, ap, ap₂, arith, Option, Some, None}
use Rattle.std.proofs.lemmas.List.{length-drop}
use Rattle.wire_base.specs.Tree.{Tree, trees_of}
use Rattle.wire_base.specs.Values.{nesting, holds_bytes, items_hold_bytes}
use Rattle.wire_base.specs.declared.refusal.Refusal.TheVariants as refusal
use Rattle.wire_base.specs.declared.text.Id.{Id}
use Rattle.wire_base.specs.Options.{or_else}
use Rattle.wire_base.proofs.Places.{above_zero}
use Rattle.rpc_items.specs.Bodies.{Encoder, most_nested, most_body, most_page, body_refusal, sequence_refusal}
use Rattle.rpc_items.specs.Pages.{page_values}
use Rattle.rpc_items.specs.Saying.{result_of_sequence}
use Rattle.rpc_items.specs.Writing.{message_value}
use Rattle.rpc_items.specs.declared.messages.Message.TheVariants as message
use Rattle.sequence_limits.specs.Limits.{pages_refusal, values_refusal}
use Rattle.sequence_limits.proofs.Nested.{is_too_deep, pages_deep, parts_any, parts_none, response_bytes, response_deep, take_bytes}

-- bytes and depth of the values, size of the response and of a page, bytes and depth of the response
in_order : (bytes deep long page in_bytes in_deep : Bool) → (bytes ≡ false → in_bytes ≡ false) → (deep ≡ false → in_deep ≡ false)
    → (if bytes then Some refusal.BytesInJson else if deep then Some refusal.TooDeep else if long || page then Some refusal.BodyTooLong else None)
    ≡ or_else (if bytes then Some refusal.BytesInJson else if deep then Some refusal.TooDeep else None)
    (or_else (if in_bytes then Some refusal.BytesInJson else if in_deep then Some refusal.TooDeep else if long then Some refusal.BodyTooLong else None)
    (if page then Some refusal.BodyTooLong else None))
in_order true deep long page in_bytes in_deep f g = refl
in_order false true long page in_bytes in_deep f g = refl
in_order false false long page true in_deep f g = absurd (let e = f refl in cc)
in_order false false long page false true f g = absurd (let e = g refl in cc)
in_order false false true page false false f g = refl
in_order false false false page false false f g = refl

pub refused_in_order : (k : Encoder) (id : Id) (values : List Tree) (page first token : ℕ) → (page == 0) ≡ false →
    sequence_refusal k (message_value (message.Result id (result_of_sequence values first token))) values (page_values (length values) page (drop first values)) ≡
    or_else (values_refusal k values) (or_else (body_refusal k (message_value (message.Result id (result_of_sequence values first token)))) (pages_refusal k (page_values (length values) page (drop first values))))
refused_in_order k id values page first token p =
    ap (λ (deep : Bool). if bytes then Some refusal.BytesInJson else if deep then Some refusal.TooDeep else if long || any_long then Some refusal.BodyTooLong else None) all_deep
    ∙ in_order bytes (list_any is_too_deep values) long any_long (k.json && holds_bytes response) (nat_lt most_nested (nesting response))
    (λ e. ap (λ (b : Bool). k.json && b) (response_bytes id with_token (take first values)) ∙ take_bytes k.json first values e)
    (λ e. response_deep id with_token (take first values) ∙ (parts_none is_too_deep first values e).0)
  where
    with_token : Option ℕ
    with_token = if nat_lt first (length values) then Some token else None

    response : Tree
    response = message_value (message.Result id (result_of_sequence values first token))

    pages : List Tree
    pages = page_values (length values) page (drop first values)

    bytes : Bool
    bytes = k.json && items_hold_bytes (trees_of values)

    long : Bool
    long = nat_lt most_body (k.size response)

    any_long : Bool
    any_long = list_any (λ page. nat_lt most_page (k.size page)) pages

    all_deep : (nat_lt most_nested (nesting response) || list_any (λ page. nat_lt most_nested (nesting page + 1)) pages) ≡ list_any is_too_deep values
    all_deep =
        let less = length-drop first values in
        ap₂ (λ (a b : Bool). a || b) (response_deep id with_token (take first values)) (pages_deep (length values) page (drop first values) (above_zero page p) (omega arith))
        ∙ parts_any is_too_deep first values
