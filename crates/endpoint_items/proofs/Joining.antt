-- What a connection read is what the reads of its channel answered since it was attached.
use Rattle.std.specs.Prelude.{if◌then◌else◌, ◌&&◌, Bool, true, false}
use Rattle.std.proofs.Common.{◌≡◌, ℕ, List, [], ◌∷◌, ◌++◌, refl, sym, ◌∙◌, ap, append_assoc, Some, None}
use Rattle.wire_base.specs.declared.frame.Version.{Version}
use Rattle.wire_base.specs.declared.state.Cause.TheVariants as cause
use Rattle.mux_items.specs.declared.channel.ChannelKey.{ChannelKey}
use Rattle.mux_items.specs.Applying.{place_at}
use Rattle.mux_items.specs.Bodies.{Content, same_key}
use Rattle.mux_items.specs.Items.{Item, Got}
use Rattle.mux_items.specs.Lists.{is_completed, unread, read_bytes}
use Rattle.mux_items.proofs.Keys.{same_key_true}
use Rattle.rpc_items.specs.Items as rpc
use Rattle.rpc_items.specs.Saying.{said}
use Rattle.endpoint_items.specs.Items.{EndItem, Mux, Attach, DidCall, GotMessage, RefusedMessage, terms_of}
use Rattle.endpoint_items.specs.Connections.{Connection, is_attached, was_attached, items_of, with_item, end_for, attached_to, end_by}
use Rattle.endpoint_items.specs.Layers.{mux_of, rpc_of}
use Rattle.endpoint_items.specs.Bytes.{is_read_on, joined}
use Rattle.endpoint_items.specs.Calls.{attach_refusal}
use Rattle.endpoint_items.specs.Allowed.{AreAllowed}
use Rattle.endpoint_items.specs.Rows.{row}
use Rattle.endpoint_items.specs.Joined.{read_first, Reads}
use Rattle.endpoint_items.proofs.Attaching.{attachable}
use Rattle.endpoint_items.proofs.Rows.{follows}
use Rattle.endpoint_items.proofs.Said.{was_with, was_ended, was_if}
use Rattle.endpoint_items.proofs.Reading.{written_reads, attach_reads, mux_reads}

-- nothing joins before a connection is attached

unattached : (x : Connection) → was_attached x ≡ false → is_attached x ≡ false
unattached (Some items) e = cc
unattached None e = refl

unread_on : (c : ChannelKey) (attached : Bool) (item : Item) → attached ≡ false → is_read_on c attached item ≡ false
unread_on c attached (Got place key (Content bytes)) e = rw e (and_false (same_key key c))
  where
    and_false : (b : Bool) → (b && false) ≡ false
    and_false true = refl
    and_false false = refl
unread_on c attached item e = refl

pub unjoined : (v : Version) (c : ChannelKey) (items : List EndItem) → was_attached (rpc_of v c items) ≡ false → joined v c items ≡ []
unjoined v c [] e = refl
unjoined v c (Mux item ∷ items) e =
    let x = rpc_of v c items in
    let new = sym (was_ended (end_by v c item (item ∷ mux_of v items)) x) ∙ e in
    ap (λ b. if b then joined v c items ++ unread v c (item ∷ mux_of v items) else joined v c items) (unread_on c (is_attached x) item (unattached x new)) ∙ unjoined v c items new
unjoined v c (Attach key terms ∷ items) e = by (unjoined v c items) (same_key key c) e
  where
    m : List Item
    m = mux_of v items

    x : Connection
    x = rpc_of v c items

    by : (was_attached x ≡ false → joined v c items ≡ []) → (b : Bool) → was_attached (if b then attached_to (is_completed v c m) x else x) ≡ false → (if b then joined v c items ++ unread v c m else joined v c items) ≡ []
    by before true e = began x e
      where
        began : (x : Connection) → was_attached (attached_to (is_completed v c m) x) ≡ false → joined v c items ++ unread v c m ≡ []
        began (Some items) e = cc
        began None e = cc
    by before false e = before e
unjoined v c (DidCall key call ∷ items) e = unjoined v c items (sym (was_if (same_key key c) (rpc_of v c items) (with_item (rpc.Did call) (rpc_of v c items)) (was_with (rpc.Did call) (rpc_of v c items))) ∙ e)
unjoined v c (GotMessage key place size message ∷ items) e = unjoined v c items (sym (was_if (same_key key c) (rpc_of v c items) (with_item (rpc.Got place message) (rpc_of v c items)) (was_with (rpc.Got place message) (rpc_of v c items))) ∙ e)
unjoined v c (RefusedMessage key place reason ∷ items) e =
    let why = Some (cause.Refused (place_at place) reason) in
    unjoined v c items (sym (was_if (same_key key c) (rpc_of v c items) (end_for why (rpc_of v c items)) (was_ended why (rpc_of v c items))) ∙ e)

-- each row

joined_if : (b : Bool) (reads first bytes more : List ℕ) → reads ≡ first ++ bytes → (if b then reads ++ more else reads) ≡ first ++ (if b then bytes ++ more else bytes)
joined_if true reads first bytes more e = ap (λ is. is ++ more) e ∙ append_assoc first bytes more
joined_if false reads first bytes more e = e

row_reads : (v : Version) (c : ChannelKey) (item : EndItem) (items : List EndItem) → AreAllowed v (item ∷ items) → (was_attached (rpc_of v c items) ≡ true → Reads v c items) → was_attached (rpc_of v c (item ∷ items)) ≡ true
    → read_bytes v c (row v item items) ≡ read_first v c (item ∷ items) ++ joined v c (item ∷ items)
row_reads v c (Mux item) items a before e =
    let x = rpc_of v c items in
    let was = sym (was_ended (end_by v c item (item ∷ mux_of v items)) x) ∙ e in
    mux_reads v c item items was a.0.1
    ∙ joined_if (is_read_on c (is_attached x) item) (read_bytes v c (mux_of v items)) (read_first v c items) (joined v c items) (unread v c (item ∷ mux_of v items)) (before was)
row_reads v c (Attach key terms) items a before e = attach_reads v c key (mux_of v items) ∙ by (same_key key c) refl e
  where
    m : List Item
    m = mux_of v items

    x : Connection
    x = rpc_of v c items

    by : (b : Bool) → same_key key c ≡ b → was_attached (if b then attached_to (is_completed v c m) x else x) ≡ true
        → (if b then read_bytes v c m ++ unread v c m else read_bytes v c m) ≡ (if b then read_bytes v c m else read_first v c items) ++ (if b then joined v c items ++ unread v c m else joined v c items)
    by true h e =
        let new = (attachable v c items (ap (λ k. attach_refusal v k items) (sym (same_key_true key c h)) ∙ a.0)).new in
        ap (λ is. read_bytes v c m ++ (is ++ unread v c m)) (sym (unjoined v c items new))
    by false h e = before e
row_reads v c (DidCall key call) items a before e =
    written_reads v c key (terms_of key items) (said (rpc.Did call) (items_of (rpc_of v key items))) (mux_of v items)
    ∙ before (sym (was_if (same_key key c) (rpc_of v c items) (with_item (rpc.Did call) (rpc_of v c items)) (was_with (rpc.Did call) (rpc_of v c items))) ∙ e)
row_reads v c (GotMessage key place size message) items a before e =
    written_reads v c key (terms_of key items) (said (rpc.Got place message) (items_of (rpc_of v key items))) (mux_of v items)
    ∙ before (sym (was_if (same_key key c) (rpc_of v c items) (with_item (rpc.Got place message) (rpc_of v c items)) (was_with (rpc.Got place message) (rpc_of v c items))) ∙ e)
row_reads v c (RefusedMessage key place reason) items a before e =
    let why = Some (cause.Refused (place_at place) reason) in
    before (sym (was_if (same_key key c) (rpc_of v c items) (end_for why (rpc_of v c items)) (was_ended why (rpc_of v c items))) ∙ e)

pub reads : (v : Version) (c : ChannelKey) (items : List EndItem) → AreAllowed v items → was_attached (rpc_of v c items) ≡ true → Reads v c items
reads v c [] a e = cc
reads v c (item ∷ items) a e = ap (read_bytes v c) (follows v item items a) ∙ row_reads v c item items a (reads v c items a.1) e
