-- The channel of a connection that hasn't ended is open.
use Rattle.std.specs.Prelude.{if◌then◌else◌, not, Bool, true, false}
use Rattle.std.proofs.Common.{◌≡◌, ℕ, List, [], ◌∷◌, refl, sym, ◌∙◌, ap, inl, inr, Option, Some, None}
use Rattle.std.proofs.lemmas.Bool.{cases_Bool}
use Rattle.wire_base.specs.declared.frame.Version.{Version}
use Rattle.wire_base.specs.declared.state.Cause.{Cause}
use Rattle.wire_base.specs.declared.state.Cause.TheVariants as cause
use Rattle.mux_items.specs.declared.call.Call.TheVariants as call
use Rattle.mux_items.specs.declared.channel.ChannelKey.{ChannelKey}
use Rattle.mux_items.specs.Applying.{Allowed, place_at}
use Rattle.mux_items.specs.Bodies.{same_key}
use Rattle.mux_items.specs.Lists.{is_completed}
use Rattle.mux_items.proofs.Keys.{same_key_true}
use Rattle.mux_items.proofs.Open.{completed_heard}
use Rattle.rpc_items.specs.Items as rpc
use Rattle.rpc_items.specs.declared.messages.Message.{Message}
use Rattle.rpc_items.specs.Saying.{said}
use Rattle.endpoint_items.specs.Items.{EndItem, Mux, Attach, DidCall, GotMessage, RefusedMessage, terms_of}
use Rattle.endpoint_items.specs.Connections.{Connection, is_attached, items_of, with_item, end_for, attached_to, end_by}
use Rattle.endpoint_items.specs.Following.{follow_ups, attach_calls, write_said}
use Rattle.endpoint_items.specs.Layers.{mux_of, rpc_of}
use Rattle.endpoint_items.specs.Calls.{attach_refusal}
use Rattle.endpoint_items.specs.Allowed.{AreAllowed}
use Rattle.endpoint_items.specs.Open.{IsOpen}
use Rattle.endpoint_items.proofs.Opens.{IsGoing, going_more, going_usable}
use Rattle.endpoint_items.proofs.Following.{followed_allowed, followed_going, follow_harmless, attach_harmless, write_harmless}
use Rattle.endpoint_items.proofs.Attaching.{attach_going}

-- the items of the multiplexing end keep its rules
pub mux_allowed : (v : Version) (items : List EndItem) → AreAllowed v items → Allowed v (mux_of v items)
mux_allowed v [] a = tt
mux_allowed v (Mux item ∷ items) a = followed_allowed v (follow_ups v (λ c. is_attached (rpc_of v c items)) item (item ∷ mux_of v items)) (item ∷ mux_of v items) a.0.0
mux_allowed v (Attach c terms ∷ items) a = followed_allowed v (attach_calls v c (mux_of v items)) (mux_of v items) (mux_allowed v items a.1)
mux_allowed v (DidCall c call ∷ items) a = followed_allowed v (write_said c (terms_of c items) (said (rpc.Did call) (items_of (rpc_of v c items))) (mux_of v items)) (mux_of v items) (mux_allowed v items a.1)
mux_allowed v (GotMessage c place size message ∷ items) a =
    followed_allowed v (write_said c (terms_of c items) (said (rpc.Got place message) (items_of (rpc_of v c items))) (mux_of v items)) (mux_of v items) (mux_allowed v items a.1)
mux_allowed v (RefusedMessage c place reason ∷ items) a = followed_allowed v (call.Terminate c ∷ []) (mux_of v items) (mux_allowed v items a.1)

-- a connection that hasn't ended hadn't before

with_end : (why : Cause) (x : Connection) → is_attached (with_item (rpc.End why) x) ≡ true → ⊥
with_end why (Some items) e = cc
with_end why None e = cc

pub still_attached : (why : Option Cause) (x : Connection) → is_attached (end_for why x) ≡ true → (why ≡ None) × (is_attached x ≡ true)
still_attached None x e = (refl, e)
still_attached (Some why) x e = by (is_attached x) refl e
  where
    by : (b : Bool) → is_attached x ≡ b → is_attached (if b then with_item (rpc.End why) x else x) ≡ true → (Some why ≡ None) × (is_attached x ≡ true)
    by true h g = absurd (with_end why x g)
    by false h g = cc (h, g)

pub did_attached : (b : Bool) (call : rpc.RpcCall) (x : Connection) → is_attached (if b then with_item (rpc.Did call) x else x) ≡ true → is_attached x ≡ true
did_attached true call (Some items) e = e
did_attached true call None e = e
did_attached false call x e = e

pub got_attached : (b : Bool) (place : ℕ) (message : Message) (x : Connection) → is_attached (if b then with_item (rpc.Got place message) x else x) ≡ true → is_attached x ≡ true
got_attached true place message (Some items) e = e
got_attached true place message None e = e
got_attached false place message x e = e

pub if_apart : (b : Bool) (x y : Connection) → b ≡ false → is_attached (if b then y else x) ≡ true → is_attached x ≡ true
if_apart b x y h e = rw h at e

-- a connection that hasn't ended goes on
pub attached_going : (v : Version) (c : ChannelKey) (items : List EndItem) → AreAllowed v items → is_attached (rpc_of v c items) ≡ true → IsGoing v c (mux_of v items)
attached_going v c [] a e = cc
attached_going v c (Mux item ∷ items) a e =
    let m = mux_of v items in
    let still = still_attached (end_by v c item (item ∷ m)) (rpc_of v c items) e in
    let attached : ChannelKey → Bool = λ c. is_attached (rpc_of v c items) in
    followed_going v c (follow_ups v attached item (item ∷ m)) (item ∷ m) (follow_harmless v attached c item (item ∷ m)) a.0.0
    (going_more v c item m (attached_going v c items a.1 still.1) a.0.0 still.0)
attached_going v c (Attach key terms ∷ items) a e =
    let m = mux_of v items in
    let allowed = mux_allowed v items a.1 in
    let x = rpc_of v c items in
    let begun = attached_to (is_completed v c m) x in
    followed_going v c (attach_calls v key m) m (attach_harmless v c key m) allowed
    (elim (cases_Bool (same_key key c)) [
      | inl h ↦ attach_going v c items allowed (ap (λ k. attach_refusal v k items) (sym (same_key_true key c h)) ∙ a.0) (ap (λ b. is_attached (if b then begun else x)) (sym h) ∙ e)
      | inr h ↦ attached_going v c items a.1 (if_apart (same_key key c) x begun h e)
    ])
attached_going v c (DidCall key call ∷ items) a e =
    let m = mux_of v items in
    let messages = said (rpc.Did call) (items_of (rpc_of v key items)) in
    followed_going v c (write_said key (terms_of key items) messages m) m (write_harmless c key (terms_of key items) messages m) (mux_allowed v items a.1)
    (attached_going v c items a.1 (did_attached (same_key key c) call (rpc_of v c items) e))
attached_going v c (GotMessage key place size message ∷ items) a e =
    let m = mux_of v items in
    let messages = said (rpc.Got place message) (items_of (rpc_of v key items)) in
    followed_going v c (write_said key (terms_of key items) messages m) m (write_harmless c key (terms_of key items) messages m) (mux_allowed v items a.1)
    (attached_going v c items a.1 (got_attached (same_key key c) place message (rpc_of v c items) e))
attached_going v c (RefusedMessage key place reason ∷ items) a e =
    let m = mux_of v items in
    let why = Some (cause.Refused (place_at place) reason) in
    let x = rpc_of v c items in
    elim (cases_Bool (same_key key c)) [
      | inl h ↦ (let gone : is_attached (end_for why x) ≡ true = ap (λ b. is_attached (if b then end_for why x else x)) (sym h) ∙ e in cc (still_attached why x gone).0)
      | inr h ↦ followed_going v c (call.Terminate key ∷ []) m (ap not h, tt) (mux_allowed v items a.1) (attached_going v c items a.1 (if_apart (same_key key c) x (end_for why x) h e))
    ]

-- its channel is open
pub attached_open : (v : Version) (c : ChannelKey) (items : List EndItem) → AreAllowed v items → is_attached (rpc_of v c items) ≡ true → IsOpen v c (mux_of v items)
attached_open v c items a e =
    let m = mux_of v items in
    let o = attached_going v c items a e in
    let u = going_usable v c m o in
    record { runs = o.0.0; kept = u.kept; heard = u.heard; uncompleted = sym (completed_heard v c m (mux_allowed v items a) u.heard) ∙ o.1; accepted = u.accepted }
