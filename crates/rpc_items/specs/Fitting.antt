-- What laws say of pages and of the answers that a connection gives by itself.
use Rattle.std.specs.Prelude.{◌≡◌, ◌≤◌, ℕ, ◌+◌, List, [], ◌∷◌, ◌++◌, length, true, false, not, ◌&&◌, nat_lt, Option, Some, None, ℤ}
use Rattle.wire_base.specs.Tree.{Tree}
use Rattle.wire_base.specs.declared.text.Id.{Id}
use Rattle.wire_base.specs.Tree as tree
use Rattle.rpc_items.specs.declared.messages.Message.{Message}
use Rattle.rpc_items.specs.declared.messages.Message.TheVariants as message
use Rattle.rpc_items.specs.Ids.{id_in, id_value, is_id_number}
use Rattle.wire_base.specs.Values.{nesting, holds_bytes}
use Rattle.rpc_items.specs.Writing.{message_value}
use Rattle.rpc_items.specs.Produced.{Produced}
use Rattle.rpc_items.specs.Pages.{page_after, are_left, page_value}
use Rattle.rpc_items.specs.Automatic.{fault, done}
use Rattle.rpc_items.specs.Bodies.{Encoder, most_nested, most_body, most_page, body_refusal}

-- the values that were answered for a token are a front of those of its sequence
abbrev pub IsFrontOf : List Tree → Option Produced → Type 0
IsFrontOf values (Some s) = (rest : List Tree) × (values ++ rest ≡ s.values)
IsFrontOf values None = Unit {0}

-- the page with which the next request for it is answered
abbrev pub page_to_come : Option Produced → (pages : ℕ) → Tree
page_to_come (Some s) pages = page_value (not (are_left s (pages + 1))) (page_after s pages)
page_to_come None pages = tree.nil

-- a page that can be written in every response
pub record Fits (k : Encoder) (page : Tree) : Type 0 where
  pub bytes : (k.json && holds_bytes page) ≡ false
  pub depth : nat_lt most_nested (nesting page + 1) ≡ false
  pub size : nat_lt most_page (k.size page) ≡ false

-- an id that is a number of 64 bits or a text that isn't too long
abbrev pub IsNamed : Id → Type 0
IsNamed id = id_in (id_value id) ≡ Some id

-- an encoding leaves room: a page in a response adds no more than the two limits differ by, and the short answers have room
pub record IsFair (k : Encoder) : Type 0 where
  pub page : (id : Id) (page : Tree) → IsNamed id → nat_lt most_page (k.size page) ≡ false → nat_lt most_body (k.size (message_value (message.Result id page))) ≡ false
  pub nil : (id : Id) → IsNamed id → nat_lt most_body (k.size (message_value (done id))) ≡ false
  pub fault : (id : Id) (code : ℤ) (text : List ℕ) → IsNamed id → is_id_number code ≡ true → length text ≤ 16 → nat_lt most_body (k.size (message_value (fault id code text))) ≡ false

-- each of these messages can be written
abbrev pub AreWritable : Encoder → List Message → Type 0
AreWritable k [] = Unit {0}
AreWritable k (m ∷ ms) = (body_refusal k (message_value m) ≡ None) × AreWritable k ms
