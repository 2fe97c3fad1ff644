-- What a connection said, and whether it was attached.
use Rattle.std.specs.Prelude.{if◌then◌else◌, Bool, true, false}
use Rattle.std.proofs.Common.{◌≡◌, List, [], ◌∷◌, ◌++◌, refl, sym, ◌∙◌, ap, ◌⊎◌, inl, inr, append-nil, Option, Some, None}
use Rattle.std.proofs.lemmas.Bool.{cases_Bool}
use Rattle.wire_base.specs.declared.frame.Version.{Version}
use Rattle.wire_base.specs.declared.state.Cause.{Cause}
use Rattle.mux_items.specs.declared.channel.ChannelKey.{ChannelKey}
use Rattle.mux_items.specs.Bodies.{same_key}
use Rattle.mux_items.specs.Items.{Item, DidWrite}
use Rattle.mux_items.specs.Lists.{written}
use Rattle.mux_items.proofs.Keys.{same_key_true}
use Rattle.rpc_items.specs.Items as rpc
use Rattle.rpc_items.specs.Saying.{said, all_said}
use Rattle.endpoint_items.specs.Items.{EndItem}
use Rattle.endpoint_items.specs.Connections.{Connection, is_attached, was_attached, items_of, with_item, end_for, attached_to}
use Rattle.endpoint_items.specs.Layers.{rpc_of}
use Rattle.endpoint_items.specs.Calls.{is_in_use}
use Rattle.endpoint_items.specs.Allowed.{used_in}

pub ended_said : (why : Option Cause) (x : Connection) → all_said (items_of (end_for why x)) ≡ all_said (items_of x)
ended_said None x = refl
ended_said (Some why) x = elim (is_attached x) as (λ b. all_said (items_of (if b then with_item (rpc.End why) x else x)) ≡ all_said (items_of x)) [
  | true ↦ by x
  | false ↦ refl
]
  where
    by : (x : Connection) → all_said (items_of (with_item (rpc.End why) x)) ≡ all_said (items_of x)
    by (Some items) = append-nil (all_said items)
    by None = refl

pub began_said : (completed : Bool) (x : Connection) → was_attached x ≡ false → all_said (items_of (attached_to completed x)) ≡ []
began_said completed (Some items) e = cc
began_said true None e = refl
began_said false None e = refl

pub item_said : (item : rpc.RpcItem) (x : Connection) → was_attached x ≡ true → all_said (items_of (with_item item x)) ≡ all_said (items_of x) ++ said item (items_of x)
item_said item (Some items) e = refl
item_said item None e = cc

pub was_with : (item : rpc.RpcItem) (x : Connection) → was_attached (with_item item x) ≡ was_attached x
was_with item (Some items) = refl
was_with item None = refl

pub was_if : (b : Bool) (x y : Connection) → was_attached y ≡ was_attached x → was_attached (if b then y else x) ≡ was_attached x
was_if true x y h = h
was_if false x y h = refl

pub was_ended : (why : Option Cause) (x : Connection) → was_attached (end_for why x) ≡ was_attached x
was_ended None x = refl
was_ended (Some why) x = was_if (is_attached x) x (with_item (rpc.End why) x) (was_with (rpc.End why) x)

-- an item of the multiplexing end writes nothing on a channel with a connection
pub used_other : (v : Version) (c : ChannelKey) (item : Item) (items : List EndItem) (m : List Item) → was_attached (rpc_of v c items) ≡ true → is_in_use v (used_in item) items ≡ false → written c (item ∷ m) ≡ written c m
used_other v c (DidWrite key bytes) items m was unused = by (cases_Bool (same_key key c))
  where
    by : (same_key key c ≡ true) ⊎ (same_key key c ≡ false) → (if same_key key c then written c m ++ bytes else written c m) ≡ written c m
    by (inl h) = (let used : was_attached (rpc_of v c items) ≡ false = ap (λ k. was_attached (rpc_of v k items)) (sym (same_key_true key c h)) ∙ unused in cc (was, used))
    by (inr h) = ap (λ b. if b then written c m ++ bytes else written c m) h
used_other v c item items m was unused = refl
