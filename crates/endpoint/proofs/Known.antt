-- The channel of a connection is known.
use Rattle.std.specs.Prelude.{◌-◌, List, [], ◌∷◌, length, Bool, true, false, nat_lt, if◌then◌else◌, Option, Some, None}
use Rattle.std.proofs.Common.{◌≡◌, refl, sym, ◌∙◌, ap}
use Rattle.wire_base.specs.declared.frame.Version.{Version}
use Rattle.wire_base.specs.declared.refusal.Refusal.{Refusal}
use Rattle.wire_base.specs.declared.state.Cause.TheVariants as cause
use Rattle.mux_items.specs.declared.call.Call.{Call}
use Rattle.mux_items.specs.declared.call.Call.TheVariants as call
use Rattle.mux_items.specs.declared.channel.ChannelKey.{ChannelKey}
use Rattle.mux_items.specs.declared.channel.Tally.{Tally}
use Rattle.mux_items.specs.Applying.{place_at}
use Rattle.mux_items.specs.Bodies.{same_key}
use Rattle.mux_items.specs.Calls.{call_refusal, called, item_of_call, unless_refused}
use Rattle.mux_items.specs.Items.{Item}
use Rattle.mux_items.specs.Kept.{is_known}
use Rattle.mux_items.specs.Limits.{most_bytes}
use Rattle.mux_items.specs.Lists.{is_completed, emitted, handed, phase_of, taken, written}
use Rattle.mux_items.specs.Views.{tally_of}
use Rattle.mux_items.proofs.Keys.{same_key_true}
use Rattle.mux_state.proofs.Booking.{known_more}
use Rattle.rpc_items.specs.Items as rpc
use Rattle.rpc_items.specs.Saying.{said}
use Rattle.endpoint_items.specs.Allowed.{AreAllowed}
use Rattle.endpoint_items.specs.Calls.{attach_refusal, is_spent_on, most_text}
use Rattle.endpoint_items.specs.Connections.{attached_to, end_by, end_for, is_attached, items_of, was_attached, with_item}
use Rattle.endpoint_items.specs.Following.{attach_calls, follow_ups, followed, write_said}
use Rattle.endpoint_items.specs.Items.{EndItem, Mux, Attach, DidCall, GotMessage, RefusedMessage, terms_of}
use Rattle.endpoint_items.specs.Layers.{mux_of, rpc_of}
use Rattle.endpoint_items.proofs.Attaching.{attachable}
use Rattle.endpoint_items.proofs.Said.{was_ended, was_if, was_with}

called_known : (v : Version) (c : ChannelKey) (d : Call) (m : List Item) → is_known c m ≡ true → is_known c (called v d m) ≡ true
called_known v c d m known = by (call_refusal v d m)
  where
    by : (r : Option Refusal) → is_known c (unless_refused r (item_of_call d m) m) ≡ true
    by (Some refusal) = known
    by None = known_more c (item_of_call d m) m known

followed_known : (v : Version) (c : ChannelKey) (calls : List Call) (m : List Item) → is_known c m ≡ true → is_known c (followed v calls m) ≡ true
followed_known v c [] m known = known
followed_known v c (d ∷ calls) m known = followed_known v c calls (called v d m) (called_known v c d m known)

pub attached_known : (v : Version) (c : ChannelKey) (items : List EndItem) → AreAllowed v items → was_attached (rpc_of v c items) ≡ true → is_known c (mux_of v items) ≡ true
attached_known v c [] a e = absurd (cc e)
attached_known v c (Mux item ∷ items) a e =
    let m = mux_of v items in
    let was = sym (was_ended (end_by v c item (item ∷ m)) (rpc_of v c items)) ∙ e in
    followed_known v c (follow_ups v (λ k. is_attached (rpc_of v k items)) item (item ∷ m)) (item ∷ m) (known_more c item m (attached_known v c items a.1 was))
attached_known v c (Attach key terms ∷ items) a e = followed_known v c (attach_calls v key m) m (by (attached_known v c items a.1) (same_key key c) refl e)
  where
    m : List Item
    m = mux_of v items

    by : (was_attached (rpc_of v c items) ≡ true → is_known c m ≡ true) → (b : Bool) → same_key key c ≡ b → was_attached (if b then attached_to (is_completed v c m) (rpc_of v c items) else rpc_of v c items) ≡ true → is_known c m ≡ true
    by before true h e = (attachable v c items (ap (λ k. attach_refusal v k items) (sym (same_key_true key c h)) ∙ a.0)).there.1
    by before false h e = before e
attached_known v c (DidCall key call ∷ items) a e =
    followed_known v c (write_said key (terms_of key items) (said (rpc.Did call) (items_of (rpc_of v key items))) (mux_of v items)) (mux_of v items)
    (attached_known v c items a.1 (sym (was_if (same_key key c) (rpc_of v c items) (with_item (rpc.Did call) (rpc_of v c items)) (was_with (rpc.Did call) (rpc_of v c items))) ∙ e))
attached_known v c (GotMessage key place size message ∷ items) a e =
    followed_known v c (write_said key (terms_of key items) (said (rpc.Got place message) (items_of (rpc_of v key items))) (mux_of v items)) (mux_of v items)
    (attached_known v c items a.1 (sym (was_if (same_key key c) (rpc_of v c items) (with_item (rpc.Got place message) (rpc_of v c items)) (was_with (rpc.Got place message) (rpc_of v c items))) ∙ e))
attached_known v c (RefusedMessage key place reason ∷ items) a e =
    let why = Some (cause.Refused (place_at place) reason) in
    followed_known v c (call.Terminate key ∷ []) (mux_of v items)
    (attached_known v c items a.1 (sym (was_if (same_key key c) (rpc_of v c items) (end_for why (rpc_of v c items)) (was_ended why (rpc_of v c items))) ∙ e))

-- what its tally tells

tally_known : (known : Bool) (t r : Tally) → Some t ≡ (if known then Some r else None) → t ≡ r
tally_known true t r e = cc e
tally_known false t r e = absurd (cc e)

pub spent_told : (v : Version) (c : ChannelKey) (m : List Item) (t : Tally) → Some t ≡ tally_of v c m → nat_lt (most_bytes - most_text) t.written ≡ is_spent_on c m
spent_told v c m t e =
    let told : Tally = record { phase = phase_of v c m; written = length (written c m); emitted = emitted v c m; taken = length (taken v c m); handed = handed v c m } in
    ap (λ (t : Tally). nat_lt (most_bytes - most_text) t.written) (tally_known (is_known c m) t told e)

none_told : (known : Bool) (r : Tally) → known ≡ true → None ≡ (if known then Some r else None) → ⊥
none_told true r known e = absurd (cc e)
none_told false r known e = absurd (cc known)

pub tally_there : (v : Version) (c : ChannelKey) (items : List EndItem) → AreAllowed v items → was_attached (rpc_of v c items) ≡ true → None ≡ tally_of v c (mux_of v items) → ⊥
tally_there v c items a was none =
    let m = mux_of v items in
    let told : Tally = record { phase = phase_of v c m; written = length (written c m); emitted = emitted v c m; taken = length (taken v c m); handed = handed v c m } in
    none_told (is_known c m) told (attached_known v c items a was) none
