-- There is room on a channel for what its connection says.
use Rattle.std.specs.Prelude.{◌+◌, ◌&&◌, is_none, is_ok, take, drop, Bool, true, false, Result, Ok, Err}
use Rattle.std.proofs.Common.{◌≡◌, ◌≢◌, ℕ, ◌-◌, ◌≤◌, List, [], length, refl, arith, Option, Some, None}
use Rattle.std.proofs.lemmas.Bool.{ltb-false}
use Rattle.wire_base.specs.declared.frame.Version.{Version}
use Rattle.wire_base.specs.declared.refusal.Refusal.{Refusal}
use Rattle.wire_base.specs.declared.state.Cause.{Cause}
use Rattle.wire_base.specs.declared.reason.Reason.{Reason}
use Rattle.message_body.specs.Found.{body_in}
use Rattle.message_body.specs.Written.{encoder}
use Rattle.message_body.proofs.Lengths.{fair}
use Rattle.message_framing.specs.declared.front.Front.{Front}
use Rattle.message_framing.specs.declared.front.Front.TheVariants as fronts
use Rattle.message_framing.specs.Front.{front}
use Rattle.mux_items.specs.declared.call.Call.TheVariants as call
use Rattle.mux_items.specs.declared.channel.ChannelKey.{ChannelKey}
use Rattle.mux_items.specs.Calls.{call_refusal}
use Rattle.mux_items.specs.Items.{Item}
use Rattle.mux_items.specs.Limits.{most_bytes}
use Rattle.mux_items.specs.Lists.{written, has_completed}
use Rattle.rpc_items.specs.declared.messages.Message.{Message}
use Rattle.rpc_items.specs.declared.messages.Message.TheVariants.{Request}
use Rattle.rpc_items.specs.Allowed as rules
use Rattle.rpc_items.specs.Automatic.{automatic}
use Rattle.rpc_items.specs.Bodies.{Encoder}
use Rattle.rpc_items.specs.Fitting.{IsFair}
use Rattle.rpc_items.specs.Items as rpc
use Rattle.rpc_items.specs.Meanings.{meaning}
use Rattle.rpc_items.specs.Refusals as refusals
use Rattle.rpc_items.specs.Saying.{said, emits}
use Rattle.rpc_items.proofs.Drawing.{says_one}
use Rattle.rpc_items.proofs.Writing.{automatic_fits}
use Rattle.rpc_end.specs.Heeding.{HasId}
use Rattle.rpc_end.specs.Arrivals.{Applies, front_arrival, body_arrival, is_whole_message}
use Rattle.rpc_end.specs.declared.terms.Terms.{Terms}
use Rattle.rpc_end.specs.Texts.{message_texts}
use Rattle.endpoint_items.specs.Items.{EndItem, terms_of}
use Rattle.endpoint_items.specs.Connections.{Connection, is_attached, was_attached, items_of}
use Rattle.endpoint_items.specs.Layers.{mux_of, rpc_of}
use Rattle.endpoint_items.specs.Bytes.{consumed, rest_of}
use Rattle.endpoint_items.specs.Calls.{is_spent_on, most_text}
use Rattle.endpoint_items.specs.Allowed.{Arrives, AreAllowed}
use Rattle.endpoint_items.proofs.Usable.{IsUsable, write_none}
use Rattle.endpoint_items.proofs.Opens.{going_usable}
use Rattle.endpoint_items.proofs.Attached.{attached_going}
use Rattle.endpoint_items.proofs.Sound.{sound}
use Rattle.endpoint_items.proofs.Texts.{AreShort, texts_short}
use Rattle.endpoint_items.proofs.Arriving.{IsAccepted, arrived}
use Rattle.endpoint_items.proofs.Short.{call_short, writable_short, answer_one}

-- there is room for what is said
pub record HasRoom (v : Version) (c : ChannelKey) (bytes : List ℕ) (m : List Item) : Type 0 where
  pub usable : IsUsable v c m
  pub unspent : is_spent_on c m ≡ false
  pub short : length bytes ≤ most_text

pub room_none : (v : Version) (c : ChannelKey) (bytes : List ℕ) (m : List Item) → HasRoom v c bytes m → has_completed c m ≡ false → call_refusal v (call.Write c bytes) m ≡ None
room_none v c bytes m r e =
    let least = ltb-false (most_bytes - most_text) (length (written c m)) r.unspent in
    write_none v c bytes m r.usable e (omega (arith, least, r.short))

-- a call that says something was made before the connection's end

runs : (k : Encoder) (call : rpc.RpcCall) (items : List rpc.RpcItem) → emits call ≡ true → refusals.call_refusal k call items ≡ None → rpc.is_running items ≡ true
runs k (rpc.TakeReport n) items does e = cc
runs k (rpc.Forget n) items does e = cc
runs k call items does e = unended (rpc.ended items) _ e
  where
    unended : (ended : Option Cause) (r : Option Refusal) → refusals.unless_ended ended r ≡ None → is_none ended ≡ true
    unended (Some why) r e = cc
    unended None r e = refl

attached_by : (x : Connection) → was_attached x ≡ true → rpc.is_running (items_of x) ≡ true → is_attached x ≡ true
attached_by (Some items) was e = e
attached_by None was e = cc

pub call_room : (v : Version) (c : ChannelKey) (call : rpc.RpcCall) (items : List EndItem) → AreAllowed v items → IsAccepted v c call items → said (rpc.Did call) (items_of (rpc_of v c items)) ≢ []
    → HasRoom v c (message_texts (terms_of c items) (said (rpc.Did call) (items_of (rpc_of v c items)))) (mux_of v items)
call_room v c call items a is some = by (emits call) refl
  where
    x : Connection
    x = rpc_of v c items

    k : Encoder
    k = encoder (terms_of c items).encoding

    messages : List Message
    messages = said (rpc.Did call) (items_of x)

    by : (b : Bool) → emits call ≡ b → HasRoom v c (message_texts (terms_of c items) messages) (mux_of v items)
    by false e = absurd (some ((says_one k call (items_of x)).1 e))
    by true e = record {
      usable = going_usable v c (mux_of v items) (attached_going v c items a (attached_by x is.attached (runs k call (items_of x) e is.unrefused)));
      unspent = rw e at is.room;
      short = texts_short (terms_of c items) messages (omega (arith, (says_one k call (items_of x)).0 e is.unrefused)) (call_short k call (items_of x) is.unrefused);
    }

-- a message that is applied stands whole

says : (items : List rpc.RpcItem) (at taken : ℕ) (body : Result Message (ℕ × Reason)) (place size : ℕ) (message : Message) → body_arrival items at taken body ≡ Applies place message size → is_ok body ≡ true
says items at taken (Ok m) place size message e = refl
says items at taken (Err broken) place size message e = absurd (cc e)

whole : (terms : Terms) (items : List rpc.RpcItem) (at : ℕ) (rest : List ℕ) (f : Front) (place size : ℕ) (message : Message) → front_arrival terms items at rest f ≡ Applies place message size → is_whole_message terms.encoding rest f ≡ true
whole terms items at rest (fronts.Whole start size) place n message e = says items (at + start) (start + size) (body_in terms.encoding (take size (drop start rest))) place n message e
whole terms items at rest fronts.Short place n message e = absurd (cc e)
whole terms items at rest (fronts.Broken offset r) place n message e = absurd (cc e)

answer_short : (k : Encoder) (place : ℕ) (message : Message) (items : List rpc.RpcItem) → IsFair k → rules.AreAllowed k items → HasId message → AreShort k (said (rpc.Got place message) items)
answer_short k place (Request id method params) items fair s named = writable_short k (automatic id (meaning method params) items) (automatic_fits k id (meaning method params) items fair s named)
answer_short k place message items fair s named = tt

pub answer_room : (v : Version) (c : ChannelKey) (place size : ℕ) (message : Message) (items : List EndItem) → AreAllowed v items → Arrives v c (Applies place message size) items
    → HasRoom v c (message_texts (terms_of c items) (said (rpc.Got place message) (items_of (rpc_of v c items)))) (mux_of v items)
answer_room v c place size message items a arrives =
    let terms = terms_of c items in
    let x = rpc_of v c items in
    let k = encoder terms.encoding in
    let stands = whole terms (items_of x) (consumed c items) (rest_of v c items) (front terms.framing (rest_of v c items)) place size message arrives.stands in
    record {
      usable = going_usable v c (mux_of v items) (attached_going v c items a arrives.attached);
      unspent = and_true (is_spent_on c (mux_of v items)) (rw stands at arrives.room);
      short = texts_short terms (said (rpc.Got place message) (items_of x)) (answer_one place message (items_of x))
          (answer_short k place message (items_of x) (fair terms.encoding) (sound v c items a) (arrived v c place size message items arrives).id);
    }
  where
    and_true : (b : Bool) → (b && true) ≡ false → b ≡ false
    and_true true e = e
    and_true false e = refl
