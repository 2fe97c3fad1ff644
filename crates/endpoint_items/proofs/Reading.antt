-- What the reads of a channel answer with an item.
use Rattle.std.specs.Prelude.{if◌then◌else◌, ◌&&◌, Bool, true, false}
use Rattle.std.proofs.Common.{◌≡◌, ℕ, List, [], ◌∷◌, ◌++◌, length, arith, refl, sym, ◌∙◌, ap, subst, inl, inr}
use Rattle.std.proofs.lemmas.List.{take_all}
use Rattle.wire_base.specs.declared.frame.Version.{Version}
use Rattle.mux_items.specs.declared.channel.ChannelKey.{ChannelKey}
use Rattle.mux_items.specs.Bodies.{Content, ContentWritingCompleted, same_key}
use Rattle.mux_items.specs.Items.{Item, DidWrite, DidRead, DidComplete, Got}
use Rattle.mux_items.specs.Lists.{has_completed, is_completed, unread, read_bytes}
use Rattle.mux_items.proofs.Keys.{same_key_true, key_cases}
use Rattle.rpc_items.specs.declared.messages.Message.{Message}
use Rattle.rpc_end.specs.declared.terms.Terms.{Terms}
use Rattle.rpc_end.specs.Texts.{message_texts}
use Rattle.endpoint_items.specs.Items.{EndItem, Mux}
use Rattle.endpoint_items.specs.Connections.{is_attached, was_attached}
use Rattle.endpoint_items.specs.Layers.{mux_of, rpc_of}
use Rattle.endpoint_items.specs.Bytes.{is_read_on}
use Rattle.endpoint_items.specs.Calls.{is_in_use}
use Rattle.endpoint_items.specs.Allowed.{used_in}
use Rattle.endpoint_items.specs.Rows.{then_read, then_complete, then_write, row}

read_all_on : (v : Version) (c key : ChannelKey) (m : List Item) → read_bytes v c (then_read v key m) ≡ (if same_key key c then read_bytes v c m ++ unread v c m else read_bytes v c m)
read_all_on v c key m = elim (key_cases key c) [
  | inl same ↦ subst (λ k. read_bytes v c (then_read v k m) ≡ (if same_key k c then read_bytes v c m ++ unread v c m else read_bytes v c m)) (sym same) (ap (λ bytes. if same_key c c then read_bytes v c m ++ bytes else read_bytes v c m) (take_all (length (unread v c m)) (unread v c m) (omega arith)))
  | inr differ ↦ rw differ refl
]

completed_reads : (v : Version) (c key : ChannelKey) (m : List Item) → read_bytes v c (then_complete key m) ≡ read_bytes v c m
completed_reads v c key m = elim (has_completed key m) as (λ b. read_bytes v c (if b then m else DidComplete key ∷ m) ≡ read_bytes v c m) [ true ↦ refl | false ↦ refl ]

pub written_reads : (v : Version) (c key : ChannelKey) (terms : Terms) (messages : List Message) (m : List Item) → read_bytes v c (then_write key terms messages m) ≡ read_bytes v c m
written_reads v c key terms [] m = refl
written_reads v c key terms (message ∷ messages) m =
    elim (has_completed key m) as (λ b. read_bytes v c (if b then m else DidWrite key (message_texts terms (message ∷ messages)) ∷ m) ≡ read_bytes v c m) [ true ↦ refl | false ↦ refl ]

pub attach_reads : (v : Version) (c key : ChannelKey) (m : List Item) → read_bytes v c (if is_completed v key m then then_complete key (then_read v key m) else then_read v key m) ≡ (if same_key key c then read_bytes v c m ++ unread v c m else read_bytes v c m)
attach_reads v c key m = by (is_completed v key m) ∙ read_all_on v c key m
  where
    by : (b : Bool) → read_bytes v c (if b then then_complete key (then_read v key m) else then_read v key m) ≡ read_bytes v c (then_read v key m)
    by true = completed_reads v c key (then_read v key m)
    by false = refl

-- what an item of the multiplexing end makes c read
abbrev pub joins : Version → ChannelKey → Item → List EndItem → List ℕ
joins v c item items = if is_read_on c (is_attached (rpc_of v c items)) item then read_bytes v c (mux_of v items) ++ unread v c (item ∷ mux_of v items) else read_bytes v c (mux_of v items)

content_reads : (v : Version) (c key : ChannelKey) (place : ℕ) (bytes : List ℕ) (items : List EndItem) → read_bytes v c (row v (Mux (Got place key (Content bytes))) items) ≡ joins v c (Got place key (Content bytes)) items
content_reads v c key place bytes items = by (is_attached (rpc_of v key items)) refl
  where
    m : List Item
    m = Got place key (Content bytes) ∷ mux_of v items

    by : (b : Bool) → is_attached (rpc_of v key items) ≡ b → read_bytes v c (if b then then_read v key m else m) ≡ joins v c (Got place key (Content bytes)) items
    by true e = read_all_on v c key m ∙ ap (λ b. if b then read_bytes v c (mux_of v items) ++ unread v c m else read_bytes v c (mux_of v items)) (sym (and_same (same_key key c) (is_attached (rpc_of v c items)) (λ same. ap (λ k. is_attached (rpc_of v k items)) (sym (same_key_true key c same)) ∙ e)))
      where
        and_same : (a b : Bool) → (a ≡ true → b ≡ true) → (a && b) ≡ a
        and_same true b h = h refl
        and_same false b h = refl
    by false e = ap (λ b. if b then read_bytes v c (mux_of v items) ++ unread v c m else read_bytes v c (mux_of v items)) (sym (and_none (same_key key c) (is_attached (rpc_of v c items)) (λ same. ap (λ k. is_attached (rpc_of v k items)) (sym (same_key_true key c same)) ∙ e)))
      where
        and_none : (a b : Bool) → (a ≡ true → b ≡ false) → (a && b) ≡ false
        and_none true b h = h refl
        and_none false b h = refl

pub mux_reads : (v : Version) (c : ChannelKey) (item : Item) (items : List EndItem) → was_attached (rpc_of v c items) ≡ true → is_in_use v (used_in item) items ≡ false → read_bytes v c (row v (Mux item) items) ≡ joins v c item items
mux_reads v c (DidRead key max) items was unused = elim (key_cases key c) [
  | inl same ↦ (let used : was_attached (rpc_of v c items) ≡ false = ap (λ k. was_attached (rpc_of v k items)) (sym same) ∙ unused in cc (was, used))
  | inr differ ↦ rw differ refl
]
mux_reads v c (Got place key (Content bytes)) items was unused = content_reads v c key place bytes items
mux_reads v c (Got place key ContentWritingCompleted) items was unused = by (is_attached (rpc_of v key items))
  where
    m : List Item
    m = Got place key ContentWritingCompleted ∷ mux_of v items

    by : (b : Bool) → read_bytes v c (if b then then_complete key m else m) ≡ read_bytes v c m
    by true = completed_reads v c key m
    by false = refl
mux_reads v c item items was unused = refl
