-- Calls and messages keep the rules.
use Rattle.std.specs.Prelude.{if◌then◌else◌, not, ◌&&◌, Bool, true, false}
use Rattle.std.proofs.Common.{◌≡◌, List, [], ◌∷◌, refl, ◌∙◌, ap, subst, Option, Some, None}
use Rattle.wire_base.specs.declared.frame.Version.{Version}
use Rattle.wire_base.specs.declared.refusal.Refusal.{Refusal}
use Rattle.wire_base.specs.declared.refusal.Refusal.TheVariants as refusal
use Rattle.wire_base.specs.declared.state.Cause.TheVariants as cause
use Rattle.mux_items.specs.declared.call.Call.{Call}
use Rattle.mux_items.specs.declared.call.Call.TheVariants as call
use Rattle.mux_items.specs.declared.channel.ChannelKey.{ChannelKey}
use Rattle.mux_items.specs.Calls.{item_of_call}
use Rattle.mux_items.specs.Calls as mux
use Rattle.mux_items.specs.Items.{Item, End}
use Rattle.mux_items.specs.Views.{in_order}
use Rattle.rpc_end.specs.Arrivals.{Arrival, Applies, Waits, Refuses}
use Rattle.endpoint_items.specs.Items.{EndItem, Mux, GotMessage, RefusedMessage, attached_keys}
use Rattle.endpoint_items.specs.Connections.{is_attached}
use Rattle.endpoint_items.specs.Layers.{mux_of, rpc_of}
use Rattle.endpoint_items.specs.Calls.{EndCall, OfMux, Attaches, OfConnection, used_by, is_in_use, comes_first, unless_in_use, call_refusal, item_of, unless_refused, called}
use Rattle.endpoint_items.specs.Arriving.{lacks_room, arrival_on, item_of_arrival, message_on, either, first_message, next_message}
use Rattle.endpoint_items.specs.Allowed.{used_in, IsAllowed, AreAllowed}
use Rattle.endpoint_items.proofs.Following.{call_allowed}
use Rattle.endpoint_items.proofs.Attached.{mux_allowed, attached_open}

-- calls

unused : (in_use : Bool) (r : Option Refusal) → unless_in_use in_use r ≡ None → (r ≡ None) × (in_use ≡ false)
unused true None e = absurd (cc e)
unused false None e = (refl, refl)
unused in_use (Some r) e = absurd (some (in_use && not (comes_first (Some r))) e)
  where
    some : (b : Bool) → (if b then Some refusal.Attached else Some r) ≡ None → ⊥
    some true h = cc h
    some false h = cc h

used_same : (d : Call) (m : List Item) → used_in (item_of_call d m) ≡ used_by d
used_same (call.Offer name size) m = refl
used_same (call.Accept c size) m = refl
used_same (call.Write c bytes) m = refl
used_same (call.Read c max) m = refl
used_same (call.Complete c) m = refl
used_same (call.Terminate c) m = refl

call_is_allowed : (v : Version) (d : EndCall) (items : List EndItem) → AreAllowed v items → call_refusal v d items ≡ None → IsAllowed v (item_of v d items) items
call_is_allowed v (OfMux d) items a e =
    let m = mux_of v items in
    let none = unused (is_in_use v (used_by d) items) (mux.call_refusal v d m) e in
    (call_allowed v d m none.0 (mux_allowed v items a), ap (λ c. is_in_use v c items) (used_same d m) ∙ none.1)
call_is_allowed v (Attaches c terms) items a e = e
call_is_allowed v (OfConnection c d) items a e = e

pub calls_keep : (v : Version) (d : EndCall) (items : List EndItem) → AreAllowed v items → AreAllowed v (called v d items)
calls_keep v d items a = by (call_refusal v d items) refl
  where
    by : (r : Option Refusal) → call_refusal v d items ≡ r → AreAllowed v (unless_refused r (item_of v d items) items)
    by (Some r) e = a
    by None e = (call_is_allowed v d items a e, a)

-- messages

same_item : (v : Version) (found item : EndItem) (items : List EndItem) → Some found ≡ Some item → IsAllowed v found items → IsAllowed v item items
same_item v found item items e a =
    let same : found ≡ item = cc e in
    subst (λ item. IsAllowed v item items) same a

arrival_allowed : (v : Version) (c : ChannelKey) (arrival : Arrival) (item : EndItem) (items : List EndItem) → is_attached (rpc_of v c items) ≡ true → lacks_room v c items ≡ false → arrival_on v c items ≡ arrival → item_of_arrival c arrival ≡ Some item → IsAllowed v item items
arrival_allowed v c (Applies place message size) item items attached room e h = same_item v (GotMessage c place size message) item items h (record { attached = attached; room = room; stands = e })
arrival_allowed v c Waits item items attached room e h = absurd (cc h)
arrival_allowed v c (Refuses place reason) item items attached room e h = same_item v (RefusedMessage c place reason) item items h (record { attached = attached; room = room; stands = e })

message_allowed : (v : Version) (c : ChannelKey) (item : EndItem) (items : List EndItem) → AreAllowed v items → message_on v c items ≡ Some item → IsAllowed v item items
message_allowed v c item items a e = by (is_attached (rpc_of v c items)) refl (lacks_room v c items) refl e
  where
    spent : EndItem
    spent = Mux (End cause.Spent)

    by : (attached : Bool) → is_attached (rpc_of v c items) ≡ attached → (full : Bool) → lacks_room v c items ≡ full
        → (if not attached then None else if full then Some spent else item_of_arrival c (arrival_on v c items)) ≡ Some item → IsAllowed v item items
    by false h full g e = absurd (cc e)
    by true h true g e = same_item v spent item items e (((attached_open v c items a h).runs, mux_allowed v items a), refl)
    by true h false g e = arrival_allowed v c (arrival_on v c items) item items h g refl e

first_allowed : (v : Version) (cs : List ChannelKey) (item : EndItem) (items : List EndItem) → AreAllowed v items → first_message v items cs ≡ Some item → IsAllowed v item items
first_allowed v [] item items a e = absurd (cc e)
first_allowed v (c ∷ cs) item items a e = by (first_allowed v cs item items a) (message_on v c items) refl e
  where
    by : (first_message v items cs ≡ Some item → IsAllowed v item items) → (found : Option EndItem) → message_on v c items ≡ found → either found (first_message v items cs) ≡ Some item → IsAllowed v item items
    by later None h e = later e
    by later (Some other) h e = message_allowed v c item items a (h ∙ e)

pub messages_keep : (v : Version) (item : EndItem) (items : List EndItem) → AreAllowed v items → next_message v items ≡ Some item → AreAllowed v (item ∷ items)
messages_keep v item items a e = (first_allowed v (in_order (attached_keys items)) item items a e, a)
