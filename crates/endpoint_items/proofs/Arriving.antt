-- What an accepted call and an applied message find.
use Rattle.std.specs.Prelude.{◌&&◌, not, true, false}
use Rattle.std.proofs.Common.{◌≡◌, ℕ, ◌+◌, List, take, drop, refl, subst, Option, Some, None, Result, Ok, Err}
use Rattle.std.proofs.lemmas.Bool.{not-false}
use Rattle.wire_base.specs.declared.frame.Version.{Version}
use Rattle.wire_base.specs.declared.reason.Reason.{Reason}
use Rattle.wire_base.specs.declared.refusal.Refusal.TheVariants as refusal
use Rattle.message_body.specs.declared.encoding.Encoding.{Encoding}
use Rattle.message_body.specs.Found.{body_in}
use Rattle.message_body.specs.Written.{encoder}
use Rattle.message_framing.specs.declared.front.Front.{Front}
use Rattle.message_framing.specs.declared.front.Front.TheVariants as fronts
use Rattle.message_framing.specs.Front.{front}
use Rattle.mux_items.specs.declared.channel.ChannelKey.{ChannelKey}
use Rattle.mux_items.proofs.Permits.{if_none}
use Rattle.rpc_items.specs.declared.messages.Message.{Message}
use Rattle.rpc_items.specs.Items as rpc
use Rattle.rpc_items.specs.Refusals.{call_refusal, message_refusal}
use Rattle.rpc_items.specs.Saying.{emits}
use Rattle.rpc_end.specs.Arrivals.{Applies, allowed_arrival, body_arrival, front_arrival}
use Rattle.rpc_end.specs.Heeding.{HasId}
use Rattle.rpc_end.specs.declared.terms.Terms.{Terms}
use Rattle.rpc_end.proofs.Named.{has_id}
use Rattle.endpoint_items.specs.Items.{EndItem, terms_of}
use Rattle.endpoint_items.specs.Connections.{was_attached, items_of}
use Rattle.endpoint_items.specs.Layers.{mux_of, rpc_of}
use Rattle.endpoint_items.specs.Bytes.{consumed, rest_of}
use Rattle.endpoint_items.specs.Calls.{is_spent_on, connection_refusal}
use Rattle.endpoint_items.specs.Allowed.{Arrives}

-- what an accepted call finds

pub record IsAccepted (v : Version) (c : ChannelKey) (call : rpc.RpcCall) (items : List EndItem) : Type 0 where
  pub attached : was_attached (rpc_of v c items) ≡ true
  pub room : (emits call && is_spent_on c (mux_of v items)) ≡ false
  pub unrefused : call_refusal (encoder (terms_of c items).encoding) call (items_of (rpc_of v c items)) ≡ None

pub accepted : (v : Version) (c : ChannelKey) (call : rpc.RpcCall) (items : List EndItem) → connection_refusal v c call items ≡ None → IsAccepted v c call items
accepted v c call items e =
    let one = if_none (not (was_attached (rpc_of v c items))) refusal.NotAttached _ e in
    let two = if_none (emits call && is_spent_on c (mux_of v items)) refusal.BytesSpent _ one.1 in
    record { attached = not-false (was_attached (rpc_of v c items)) one.0; room = two.0; unrefused = two.1 }

-- what a message is that is applied

pub record IsApplied (message : Message) (items : List rpc.RpcItem) : Type 0 where
  pub unrefused : message_refusal message items ≡ None
  pub id : HasId message

allowed_applied : (place size found : ℕ) (m message : Message) (refused : Option Reason) (p n : ℕ) → allowed_arrival p m n refused ≡ Applies place message size → (m ≡ message) × (refused ≡ None)
allowed_applied place size found m message None p n e = (cc e, refl)
allowed_applied place size found m message (Some r) p n e = absurd (cc e)

body_applied : (k : Encoding) (b : List ℕ) (items : List rpc.RpcItem) (p n place size : ℕ) (message : Message) → body_arrival items p n (body_in k b) ≡ Applies place message size → IsApplied message items
body_applied k b items p n place size message e = by (body_in k b) refl e
  where
    by : (found : Result Message (ℕ × Reason)) → body_in k b ≡ found → body_arrival items p n found ≡ Applies place message size → IsApplied message items
    by (Err broken) found h = absurd (cc h)
    by (Ok m) found h =
        let is = allowed_applied place size 0 m message (message_refusal m items) p n h in
        subst (λ m. IsApplied m items) is.0 (record { unrefused = is.1; id = has_id k b m found })

pub applied : (terms : Terms) (items : List rpc.RpcItem) (at : ℕ) (rest : List ℕ) (f : Front) (place size : ℕ) (message : Message) → front_arrival terms items at rest f ≡ Applies place message size → IsApplied message items
applied terms items at rest (fronts.Whole start size) place whole message e = body_applied terms.encoding (take size (drop start rest)) items (at + start) (start + size) place whole message e
applied terms items at rest fronts.Short place whole message e = absurd (cc e)
applied terms items at rest (fronts.Broken offset r) place whole message e = absurd (cc e)

pub arrived : (v : Version) (c : ChannelKey) (place size : ℕ) (message : Message) (items : List EndItem) → Arrives v c (Applies place message size) items → IsApplied message (items_of (rpc_of v c items))
arrived v c place size message items a =
    let terms = terms_of c items in
    let rest = rest_of v c items in
    applied terms (items_of (rpc_of v c items)) (consumed c items) rest (front terms.framing rest) place size message a.stands
