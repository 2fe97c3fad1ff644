-- Messages that can't be written.
use Rattle.std.specs.Prelude.{ℕ, ◌+◌, List, [], ◌∷◌, Bool, ◌&&◌, ◌||◌, nat_lt, if◌then◌else◌, Option, Some, None}
use Rattle.std.specs.List.{list_any}
use Rattle.wire_base.specs.Options.{or_else}
use Rattle.wire_base.specs.Tree.{Tree, trees_of}
use Rattle.wire_base.specs.declared.limits.TheConstants.{MAX_BODY, MAX_NESTING}
use Rattle.wire_base.specs.declared.refusal.Refusal.{Refusal}
use Rattle.wire_base.specs.declared.refusal.Refusal.TheVariants as refusal
use Rattle.rpc_items.specs.declared.messages.Message.{Message}
use Rattle.wire_base.specs.Values.{nesting, holds_bytes, items_hold_bytes}
use Rattle.rpc_items.specs.Writing.{message_value}

-- how a connection writes messages: whether in JSON, which has no bytes, and in how many bytes a value;
-- a value that can't be written has more than any that can
pub record Encoder : Type 0 where
  pub json : Bool
  pub size : Tree → ℕ

-- how deep arrays and maps may stand in one another
abbrev pub most_nested : ℕ
most_nested = MAX_NESTING

-- the most bytes of a message's body
abbrev pub most_body : ℕ
most_body = MAX_BODY

-- the most bytes of a page in a body
abbrev pub most_page : ℕ
most_page = 16760832

-- why a value can't be the body of a message
abbrev pub body_refusal : Encoder → Tree → Option Refusal
body_refusal k value =
    if k.json && holds_bytes value then Some refusal.BytesInJson
    else if nat_lt most_nested (nesting value) then Some refusal.TooDeep
    else if nat_lt most_body (k.size value) then Some refusal.BodyTooLong
    else None

-- why the first of these messages that can't be written can't
abbrev pub first_refusal : Encoder → List Message → Option Refusal
first_refusal k [] = None
first_refusal k (message ∷ messages) = or_else (body_refusal k (message_value message)) (first_refusal k messages)

-- why a response with a sequence can't be written, or one of the later pages
abbrev pub sequence_refusal : Encoder → (response : Tree) → (values pages : List Tree) → Option Refusal
sequence_refusal k response values pages =
    if k.json && items_hold_bytes (trees_of values) then Some refusal.BytesInJson
    else if nat_lt most_nested (nesting response) || list_any (λ page. nat_lt most_nested (nesting page + 1)) pages then Some refusal.TooDeep
    else if nat_lt most_body (k.size response) || list_any (λ page. nat_lt most_page (k.size page)) pages then Some refusal.BodyTooLong
    else None
