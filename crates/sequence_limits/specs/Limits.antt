-- Why values can't be those of a sequence, and why its pages can't be written.
use Rattle.std.specs.Prelude.{ℕ, List, ◌&&◌, nat_lt, if◌then◌else◌, Option, Some, None}
use Rattle.std.specs.List.{list_any}
use Rattle.wire_base.specs.Tree.{Tree, trees_of}
use Rattle.wire_base.specs.Values.{nesting, items_hold_bytes}
use Rattle.wire_base.specs.declared.refusal.Refusal.{Refusal}
use Rattle.wire_base.specs.declared.refusal.Refusal.TheVariants as refusal
use Rattle.rpc_items.specs.Bodies.{Encoder, most_page}

-- how deep a value of a sequence may nest: it stands in the list of a page, which stands in a response
abbrev pub most_nested_value : ℕ
most_nested_value = 124

-- why values can't be those of a sequence
abbrev pub values_refusal : Encoder → List Tree → Option Refusal
values_refusal k values =
    if k.json && items_hold_bytes (trees_of values) then Some refusal.BytesInJson
    else if list_any (λ value. nat_lt most_nested_value (nesting value)) values then Some refusal.TooDeep
    else None

-- why pages of values that can be those of a sequence can't be written
abbrev pub pages_refusal : Encoder → List Tree → Option Refusal
pages_refusal k pages = if list_any (λ page. nat_lt most_page (k.size page)) pages then Some refusal.BodyTooLong else None
