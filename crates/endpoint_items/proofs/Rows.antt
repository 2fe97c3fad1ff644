-- Nothing that follows an item is refused.
use Rattle.std.specs.Prelude.{if◌then◌else◌, Bool, true, false}
use Rattle.std.proofs.Common.{◌≡◌, ◌≢◌, ℕ, List, [], ◌∷◌, refl, ◌∙◌, ap}
use Rattle.wire_base.specs.declared.frame.Version.{Version}
use Rattle.mux_items.specs.declared.call.Call.TheVariants as call
use Rattle.mux_items.specs.declared.channel.ChannelKey.{ChannelKey}
use Rattle.mux_items.specs.Bodies.{Content, ContentWritingCompleted}
use Rattle.mux_items.specs.Calls.{called}
use Rattle.mux_items.specs.Items.{Item, DidWrite, DidComplete, Got}
use Rattle.mux_items.specs.Lists.{has_completed, is_completed}
use Rattle.rpc_items.specs.declared.messages.Message.{Message}
use Rattle.rpc_items.specs.Items as rpc
use Rattle.rpc_items.specs.Saying.{said}
use Rattle.rpc_end.specs.declared.terms.Terms.{Terms}
use Rattle.rpc_end.specs.Texts.{message_texts}
use Rattle.endpoint_items.specs.Items.{EndItem, Mux, Attach, DidCall, GotMessage, RefusedMessage, terms_of}
use Rattle.endpoint_items.specs.Connections.{is_attached, items_of}
use Rattle.endpoint_items.specs.Following.{followed, read_all, complete_once, write_said}
use Rattle.endpoint_items.specs.Layers.{mux_of, rpc_of}
use Rattle.endpoint_items.specs.Allowed.{AreAllowed}
use Rattle.endpoint_items.specs.Rows.{then_read, then_complete, then_write, Follows}
use Rattle.endpoint_items.proofs.Usable.{IsThere, IsUsable, usable, unfinished_unwritten, complete_none, terminate_none, read_none}
use Rattle.endpoint_items.proofs.Opens.{going_usable}
use Rattle.endpoint_items.proofs.Following.{called_is}
use Rattle.endpoint_items.proofs.Attached.{attached_going}
use Rattle.endpoint_items.proofs.Attaching.{attachable}
use Rattle.endpoint_items.proofs.Arriving.{accepted}
use Rattle.endpoint_items.proofs.Room.{HasRoom, room_none, call_room, answer_room}

-- calls that follow

completes : (v : Version) (c : ChannelKey) (m : List Item) → IsThere v c m → followed v (complete_once c m) m ≡ then_complete c m
completes v c m there = by (has_completed c m) refl
  where
    by : (b : Bool) → has_completed c m ≡ b → followed v (if b then [] else call.Complete c ∷ []) m ≡ (if b then m else DidComplete c ∷ m)
    by true e = refl
    by false e = called_is v (call.Complete c) m (complete_none v c m (usable v c m there (unfinished_unwritten v c m e)) e)

writes : (v : Version) (c : ChannelKey) (terms : Terms) (messages : List Message) (m : List Item) → (messages ≢ [] → HasRoom v c (message_texts terms messages) m) → followed v (write_said c terms messages m) m ≡ then_write c terms messages m
writes v c terms [] m h = refl
writes v c terms (message ∷ messages) m h = by (has_completed c m) refl
  where
    text : List ℕ
    text = message_texts terms (message ∷ messages)

    by : (b : Bool) → has_completed c m ≡ b → followed v (if b then [] else call.Write c text ∷ []) m ≡ (if b then m else DidWrite c text ∷ m)
    by true e = refl
    by false e = called_is v (call.Write c text) m (room_none v c text m (h (λ none. absurd (cc none))) e)

reads : (v : Version) (c : ChannelKey) (m : List Item) → IsUsable v c m → called v (read_all v c m) m ≡ then_read v c m
reads v c m u = called_is v (read_all v c m) m (read_none v c m u)

-- what the multiplexing end does by itself

mux_follows : (v : Version) (item : Item) (items : List EndItem) → AreAllowed v items → Follows v (Mux item) items
mux_follows v (Got place c (Content bytes)) items a = by (is_attached (rpc_of v c items)) refl
  where
    m : List Item
    m = Got place c (Content bytes) ∷ mux_of v items

    by : (b : Bool) → is_attached (rpc_of v c items) ≡ b → followed v (if b then read_all v c m ∷ [] else []) m ≡ (if b then then_read v c m else m)
    by true e = reads v c m (going_usable v c m (attached_going v c items a e))
    by false e = refl
mux_follows v (Got place c ContentWritingCompleted) items a = by (is_attached (rpc_of v c items)) refl
  where
    m : List Item
    m = Got place c ContentWritingCompleted ∷ mux_of v items

    by : (b : Bool) → is_attached (rpc_of v c items) ≡ b → followed v (if b then complete_once c m else []) m ≡ (if b then then_complete c m else m)
    by true e = completes v c m (attached_going v c items a e).0
    by false e = refl
mux_follows v item items a = refl

pub follows : (v : Version) (item : EndItem) (items : List EndItem) → AreAllowed v (item ∷ items) → Follows v item items
follows v (Mux item) items a = mux_follows v item items a.1
follows v (Attach c terms) items a =
    let m = mux_of v items in
    let p = attachable v c items a.0 in
    ap (followed v (if is_completed v c m then complete_once c m else [])) (reads v c m p.usable)
    ∙ (elim (is_completed v c m) as (λ b. followed v (if b then complete_once c m else []) (then_read v c m) ≡ (if b then then_complete c (then_read v c m) else then_read v c m)) [
      | true ↦ completes v c (then_read v c m) p.there
      | false ↦ refl
    ])
follows v (DidCall c call) items a = writes v c (terms_of c items) (said (rpc.Did call) (items_of (rpc_of v c items))) (mux_of v items) (call_room v c call items a.1 (accepted v c call items a.0))
follows v (GotMessage c place size message) items a = writes v c (terms_of c items) (said (rpc.Got place message) (items_of (rpc_of v c items))) (mux_of v items) (λ some. answer_room v c place size message items a.1 a.0)
follows v (RefusedMessage c place reason) items a =
    let m = mux_of v items in
    called_is v (call.Terminate c) m (terminate_none v c m (going_usable v c m (attached_going v c items a.1 a.0.attached)))
