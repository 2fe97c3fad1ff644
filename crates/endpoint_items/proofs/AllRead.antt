-- A connection that hasn't ended read all that came on its channel.
use Rattle.std.specs.Prelude.{if◌then◌else◌, not, ◌&&◌, min, Bool, true, false}
use Rattle.std.proofs.Common.{◌≡◌, ℕ, ◌+◌, ◌-◌, List, [], ◌∷◌, ◌++◌, length, refl, sym, ◌∙◌, ap, subst, inl, inr, arith, Some}
use Rattle.wire_base.specs.declared.frame.Version.{Version}
use Rattle.wire_base.specs.declared.state.Cause.{Cause}
use Rattle.wire_base.specs.declared.state.Cause.TheVariants as cause
use Rattle.mux_items.specs.declared.channel.ChannelKey.{ChannelKey}
use Rattle.mux_items.specs.Applying.{place_at}
use Rattle.mux_items.specs.Bodies.{Content, ContentWritingCompleted, same_key}
use Rattle.mux_items.specs.Items.{Item, DidWrite, DidRead, DidComplete, DidTerminate, Got}
use Rattle.mux_items.specs.Lists.{termination_emitted, taken, handed, has_completed, is_completed, is_dropped, unread_count, unread}
use Rattle.mux_items.proofs.Keys.{same_key_refl, key_cases}
use Rattle.mux_items.proofs.Open.{undropped}
use Rattle.mux_items.proofs.Taking.{handed_bound}
use Rattle.mux_items.proofs.Window.{handed_grows, length-unread}
use Rattle.rpc_items.specs.declared.messages.Message.{Message}
use Rattle.rpc_items.specs.Items as rpc
use Rattle.rpc_items.specs.Saying.{said}
use Rattle.rpc_end.specs.declared.terms.Terms.{Terms}
use Rattle.rpc_end.specs.Texts.{message_texts}
use Rattle.endpoint_items.specs.Items.{EndItem, Mux, Attach, DidCall, GotMessage, RefusedMessage, terms_of}
use Rattle.endpoint_items.specs.Connections.{Connection, is_attached, items_of, end_for, attached_to, end_by}
use Rattle.endpoint_items.specs.Layers.{mux_of, rpc_of}
use Rattle.endpoint_items.specs.Calls.{attach_refusal}
use Rattle.endpoint_items.specs.Allowed.{AreAllowed}
use Rattle.endpoint_items.specs.Rows.{then_read, then_complete, then_write, then_follow, row}
use Rattle.endpoint_items.proofs.Attached.{still_attached, did_attached, got_attached, if_apart, attached_open}
use Rattle.endpoint_items.proofs.Attaching.{attachable}
use Rattle.endpoint_items.proofs.Rows.{follows}

-- reads moved all that was taken
abbrev pub IsAllRead : Version → ChannelKey → List Item → Type 0
IsAllRead v c m = handed v c m ≡ length (taken v c m)

-- with an item nothing more is taken
read_item : (v : Version) (c : ChannelKey) (item : Item) (m : List Item) → taken v c (item ∷ m) ≡ taken v c m → IsAllRead v c m → IsAllRead v c (item ∷ m)
read_item v c item m e all = omega (arith, all, ap length e, handed_grows v c item m, handed_bound v c (item ∷ m))

-- all that is unread is read
read_now : (v : Version) (c : ChannelKey) (m : List Item) → is_dropped v c m ≡ false → IsAllRead v c (then_read v c m)
read_now v c m kept =
    let count = unread_count (is_dropped v c m) (length (taken v c m)) (handed v c m) in
    let here : handed v c (then_read v c m) ≡ handed v c m + min (length (unread v c m)) count = ap (λ b. if b then handed v c m + min (length (unread v c m)) count else handed v c m) (same_key_refl c) in
    let left : count ≡ length (taken v c m) - handed v c m = ap (λ b. unread_count b (length (taken v c m)) (handed v c m)) kept in
    omega (arith, here, left, length-unread v c m, handed_bound v c m)

read_other : (v : Version) (c key : ChannelKey) (m : List Item) → IsAllRead v c m → IsAllRead v c (then_read v key m)
read_other v c key m all = read_item v c (DidRead key (length (unread v key m))) m refl all

read_complete : (v : Version) (c key : ChannelKey) (m : List Item) → IsAllRead v c m → IsAllRead v c (then_complete key m)
read_complete v c key m all = elim (has_completed key m) as (λ b. IsAllRead v c (if b then m else DidComplete key ∷ m)) [ true ↦ all | false ↦ read_item v c (DidComplete key) m refl all ]

read_write : (v : Version) (c key : ChannelKey) (terms : Terms) (messages : List Message) (m : List Item) → IsAllRead v c m → IsAllRead v c (then_write key terms messages m)
read_write v c key terms [] m all = all
read_write v c key terms (message ∷ messages) m all =
    let text = message_texts terms (message ∷ messages) in
    elim (has_completed key m) as (λ b. IsAllRead v c (if b then m else DidWrite key text ∷ m)) [ true ↦ all | false ↦ read_item v c (DidWrite key text) m refl all ]

read_follow : (v : Version) (attached : ChannelKey → Bool) (c : ChannelKey) (item : Item) (m : List Item) → IsAllRead v c m → IsAllRead v c (then_follow v attached item m)
read_follow v attached c (Got place key (Content bytes)) m all = elim (attached key) as (λ b. IsAllRead v c (if b then then_read v key m else m)) [ true ↦ read_other v c key m all | false ↦ all ]
read_follow v attached c (Got place key ContentWritingCompleted) m all = elim (attached key) as (λ b. IsAllRead v c (if b then then_complete key m else m)) [ true ↦ read_complete v c key m all | false ↦ all ]
read_follow v attached c item m all = all

-- each row

read_content : (v : Version) (c : ChannelKey) (place : ℕ) (key : ChannelKey) (bytes : List ℕ) (items : List EndItem) → AreAllowed v items → is_attached (rpc_of v c items) ≡ true → IsAllRead v c (mux_of v items)
    → IsAllRead v c (row v (Mux (Got place key (Content bytes))) items)
read_content v c place key bytes items a e all =
    let m = mux_of v items in
    elim (key_cases key c) [
      | inl same ↦
          let now = Got place c (Content bytes) ∷ m in
          subst (λ k. IsAllRead v c (row v (Mux (Got place k (Content bytes))) items)) (sym same)
          (subst (λ b. IsAllRead v c (if b then then_read v c now else now)) (sym e) (read_now v c now (undropped v c m (attached_open v c items a e).heard)))
      | inr differ ↦
          let untaken : taken v c (Got place key (Content bytes) ∷ m) ≡ taken v c m = ap (λ b. if b && not (termination_emitted v c m) then taken v c m ++ bytes else taken v c m) differ in
          read_follow v (λ k. is_attached (rpc_of v k items)) c (Got place key (Content bytes)) (Got place key (Content bytes) ∷ m) (read_item v c (Got place key (Content bytes)) m untaken all)
    ]

read_attach : (v : Version) (c key : ChannelKey) (m : List Item) → IsAllRead v c (then_read v key m) → IsAllRead v c (if is_completed v key m then then_complete key (then_read v key m) else then_read v key m)
read_attach v c key m all = elim (is_completed v key m) as (λ b. IsAllRead v c (if b then then_complete key (then_read v key m) else then_read v key m)) [ true ↦ read_complete v c key (then_read v key m) all | false ↦ all ]

pub refused_attached : (b : Bool) (why : Cause) (x : Connection) → is_attached (if b then end_for (Some why) x else x) ≡ true → is_attached x ≡ true
refused_attached true why x e = (still_attached (Some why) x e).1
refused_attached false why x e = e

row_read : (v : Version) (c : ChannelKey) (item : EndItem) (items : List EndItem) → AreAllowed v (item ∷ items) → (is_attached (rpc_of v c items) ≡ true → IsAllRead v c (mux_of v items))
    → is_attached (rpc_of v c (item ∷ items)) ≡ true → IsAllRead v c (row v item items)
row_read v c (Mux (Got place key (Content bytes))) items a before e =
    let was = (still_attached (end_by v c (Got place key (Content bytes)) (Got place key (Content bytes) ∷ mux_of v items)) (rpc_of v c items) e).1 in
    read_content v c place key bytes items a.1 was (before was)
row_read v c (Mux item) items a before e =
    let m = mux_of v items in
    let was = (still_attached (end_by v c item (item ∷ m)) (rpc_of v c items) e).1 in
    read_follow v (λ k. is_attached (rpc_of v k items)) c item (item ∷ m) (read_item v c item m refl (before was))
row_read v c (Attach key terms) items a before e =
    let m = mux_of v items in
    let x = rpc_of v c items in
    read_attach v c key m (elim (key_cases key c) [
      | inl same ↦ subst (λ k. IsAllRead v c (then_read v k m)) (sym same) (read_now v c m (undropped v c m (attachable v c items (ap (λ k. attach_refusal v k items) (sym same) ∙ a.0)).usable.heard))
      | inr differ ↦ read_other v c key m (before (if_apart (same_key key c) x (attached_to (is_completed v c m) x) differ e))
    ])
row_read v c (DidCall key call) items a before e =
    read_write v c key (terms_of key items) (said (rpc.Did call) (items_of (rpc_of v key items))) (mux_of v items) (before (did_attached (same_key key c) call (rpc_of v c items) e))
row_read v c (GotMessage key place size message) items a before e =
    read_write v c key (terms_of key items) (said (rpc.Got place message) (items_of (rpc_of v key items))) (mux_of v items) (before (got_attached (same_key key c) place message (rpc_of v c items) e))
row_read v c (RefusedMessage key place reason) items a before e =
    read_item v c (DidTerminate key) (mux_of v items) refl (before (refused_attached (same_key key c) (cause.Refused (place_at place) reason) (rpc_of v c items) e))

pub all_read : (v : Version) (c : ChannelKey) (items : List EndItem) → AreAllowed v items → is_attached (rpc_of v c items) ≡ true → IsAllRead v c (mux_of v items)
all_read v c [] a e = cc
all_read v c (item ∷ items) a e = subst (IsAllRead v c) (sym (follows v item items a)) (row_read v c item items a (all_read v c items a.1) e)
