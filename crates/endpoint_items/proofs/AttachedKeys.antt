-- The channels on which a connection was attached stand once each.
use Rattle.std.specs.Prelude.{if◌then◌else◌, ◌||◌, Bool, true, false}
use Rattle.std.specs.List.{list_any}
use Rattle.std.proofs.Common.{◌≡◌, List, [], ◌∷◌, refl, sym, ◌∙◌, ap, inl, inr, Some, None}
use Rattle.wire_base.specs.declared.frame.Version.{Version}
use Rattle.wire_base.specs.declared.state.Cause.TheVariants as cause
use Rattle.mux_items.specs.declared.channel.ChannelKey.{ChannelKey}
use Rattle.mux_items.specs.Applying.{place_at}
use Rattle.mux_items.specs.Bodies.{same_key}
use Rattle.mux_items.specs.Lists.{is_completed}
use Rattle.mux_items.proofs.Keys.{same_key_refl, key_cases}
use Rattle.rpc_items.specs.Items as rpc
use Rattle.endpoint_items.specs.Items.{EndItem, Mux, Attach, DidCall, GotMessage, RefusedMessage, attached_keys}
use Rattle.endpoint_items.specs.Connections.{Connection, is_attached, was_attached, with_item, end_for, attached_to, end_by}
use Rattle.endpoint_items.specs.Layers.{mux_of, rpc_of}
use Rattle.endpoint_items.specs.Allowed.{AreAllowed}
use Rattle.endpoint_items.proofs.Attaching.{attachable}
use Rattle.endpoint_items.proofs.Said.{was_with, was_ended, was_if}

was_begun : (completed : Bool) (x : Connection) → was_attached (attached_to completed x) ≡ true
was_begun completed (Some items) = refl
was_begun completed None = refl

apart_turned : (a b : ChannelKey) → same_key a b ≡ false → same_key b a ≡ false
apart_turned a b e = elim (key_cases b a) [
  | inl same ↦ cc (ap (λ k. same_key a k) same, e)
  | inr differ ↦ differ
]

-- they are those of the connections
pub attached_has : (v : Version) (c : ChannelKey) (items : List EndItem) → list_any (same_key c) (attached_keys items) ≡ was_attached (rpc_of v c items)
attached_has v c [] = refl
attached_has v c (Mux item ∷ items) = attached_has v c items ∙ sym (was_ended (end_by v c item (item ∷ mux_of v items)) (rpc_of v c items))
attached_has v c (Attach key terms ∷ items) =
    let x = rpc_of v c items in
    let begun = attached_to (is_completed v c (mux_of v items)) x in
    elim (key_cases key c) [
      | inl same ↦
          let keys : list_any (same_key c) (key ∷ attached_keys items) ≡ true = ap (λ b. b || list_any (same_key c) (attached_keys items)) (ap (same_key c) same ∙ same_key_refl c) in
          let was : was_attached (if same_key key c then begun else x) ≡ true = ap (λ b. was_attached (if b then begun else x)) (ap (λ k. same_key k c) same ∙ same_key_refl c) ∙ was_begun (is_completed v c (mux_of v items)) x in
          keys ∙ sym was
      | inr differ ↦
          let keys : list_any (same_key c) (key ∷ attached_keys items) ≡ list_any (same_key c) (attached_keys items) = ap (λ b. b || list_any (same_key c) (attached_keys items)) (apart_turned key c differ) in
          let was : was_attached (if same_key key c then begun else x) ≡ was_attached x = ap (λ b. was_attached (if b then begun else x)) differ in
          keys ∙ (attached_has v c items ∙ sym was)
    ]
attached_has v c (DidCall key call ∷ items) =
    attached_has v c items ∙ sym (was_if (same_key key c) (rpc_of v c items) (with_item (rpc.Did call) (rpc_of v c items)) (was_with (rpc.Did call) (rpc_of v c items)))
attached_has v c (GotMessage key place size message ∷ items) =
    attached_has v c items ∙ sym (was_if (same_key key c) (rpc_of v c items) (with_item (rpc.Got place message) (rpc_of v c items)) (was_with (rpc.Got place message) (rpc_of v c items)))
attached_has v c (RefusedMessage key place reason ∷ items) =
    let why = Some (cause.Refused (place_at place) reason) in
    attached_has v c items ∙ sym (was_if (same_key key c) (rpc_of v c items) (end_for why (rpc_of v c items)) (was_ended why (rpc_of v c items)))

going_was : (x : Connection) → is_attached x ≡ true → was_attached x ≡ true
going_was (Some items) e = refl
going_was None e = cc

pub going_has : (v : Version) (c : ChannelKey) (items : List EndItem) → is_attached (rpc_of v c items) ≡ true → list_any (same_key c) (attached_keys items) ≡ true
going_has v c items e = attached_has v c items ∙ going_was (rpc_of v c items) e

-- no channel stands twice
abbrev pub AreApart : List ChannelKey → Type 0
AreApart [] = Unit {0}
AreApart (c ∷ cs) = (list_any (same_key c) cs ≡ false) × AreApart cs

pub attached_apart : (v : Version) (items : List EndItem) → AreAllowed v items → AreApart (attached_keys items)
attached_apart v [] a = tt
attached_apart v (Attach key terms ∷ items) a = (attached_has v key items ∙ (attachable v key items a.0).new, attached_apart v items a.1)
attached_apart v (item ∷ items) a = attached_apart v items a.1
