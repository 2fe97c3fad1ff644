-- Messages that are applied lie in the bytes that were read.
use Rattle.std.specs.Prelude.{if◌then◌else◌, Bool, true, false}
use Rattle.std.proofs.Common.{◌≡◌, ℕ, ◌+◌, ◌<◌, ◌≤◌, List, [], ◌∷◌, ◌++◌, length, take, drop, refl, subst, arith, length-append, length-drop, Option, Some, None, Result, Ok, Err}
use Rattle.wire_base.specs.declared.frame.Version.{Version}
use Rattle.wire_base.specs.declared.reason.Reason.{Reason}
use Rattle.message_body.specs.Found.{body_in}
use Rattle.message_framing.specs.declared.front.Front.{Front}
use Rattle.message_framing.specs.declared.front.Front.TheVariants as fronts
use Rattle.message_framing.specs.Front.{front}
use Rattle.message_framing.proofs.FrontLemmas.{whole_within}
use Rattle.mux_items.specs.declared.channel.ChannelKey.{ChannelKey}
use Rattle.mux_items.specs.Bodies.{same_key}
use Rattle.mux_items.specs.Lists.{unread}
use Rattle.mux_items.proofs.Keys.{same_key_true}
use Rattle.rpc_items.specs.declared.messages.Message.{Message}
use Rattle.rpc_items.specs.Items.{RpcItem}
use Rattle.rpc_items.specs.Refusals.{message_refusal}
use Rattle.rpc_end.specs.Arrivals.{Applies, allowed_arrival, body_arrival, front_arrival}
use Rattle.rpc_end.specs.declared.terms.Terms.{Terms}
use Rattle.endpoint_items.specs.Items.{EndItem, Mux, Attach, DidCall, GotMessage, RefusedMessage, terms_of}
use Rattle.endpoint_items.specs.Connections.{is_attached, items_of}
use Rattle.endpoint_items.specs.Layers.{mux_of, rpc_of}
use Rattle.endpoint_items.specs.Bytes.{is_read_on, joined, consumed, rest_of}
use Rattle.endpoint_items.specs.Allowed.{Arrives, AreAllowed}

allowed_size : (p n place size : ℕ) (m message : Message) (refused : Option Reason) → allowed_arrival p m n refused ≡ Applies place message size → n ≡ size
allowed_size p n place size m message None e = cc e
allowed_size p n place size m message (Some r) e = absurd (cc e)

body_size : (items : List RpcItem) (p n place size : ℕ) (message : Message) (found : Result Message (ℕ × Reason)) → body_arrival items p n found ≡ Applies place message size → n ≡ size
body_size items p n place size message (Ok m) e = allowed_size p n place size m message (message_refusal m items) e
body_size items p n place size message (Err broken) e = absurd (cc e)

applied_size : (terms : Terms) (items : List RpcItem) (at : ℕ) (rest : List ℕ) (place size : ℕ) (message : Message) (f : Front) → front terms.framing rest ≡ f → front_arrival terms items at rest f ≡ Applies place message size → (0 < size) × (size ≤ length rest)
applied_size terms items at rest place size message (fronts.Whole start n) stands e =
    let is = body_size items (at + start) (start + n) place size message (body_in terms.encoding (take n (drop start rest))) e in
    let within = whole_within terms.framing rest start n stands in
    (omega (arith, is, within.0), omega (arith, is, within.1))
applied_size terms items at rest place size message fronts.Short stands e = absurd (cc e)
applied_size terms items at rest place size message (fronts.Broken offset r) stands e = absurd (cc e)

-- a message has a byte, and lies in the bytes that weren't applied
pub message_lies : (v : Version) (c : ChannelKey) (place size : ℕ) (message : Message) (items : List EndItem) → Arrives v c (Applies place message size) items → (0 < size) × (size ≤ length (rest_of v c items))
message_lies v c place size message items a =
    let terms = terms_of c items in
    let rest = rest_of v c items in
    applied_size terms (items_of (rpc_of v c items)) (consumed c items) rest place size message (front terms.framing rest) refl a.stands

joined_more : (b : Bool) (n : ℕ) (bytes more : List ℕ) → n ≤ length bytes → n ≤ length (if b then bytes ++ more else bytes)
joined_more true n bytes more h = omega (arith, h, length-append bytes more)
joined_more false n bytes more h = h

-- and so do all that were applied
pub messages_lie : (v : Version) (c : ChannelKey) (items : List EndItem) → AreAllowed v items → consumed c items ≤ length (joined v c items)
messages_lie v c [] a = omega arith
messages_lie v c (Mux item ∷ items) a = joined_more (is_read_on c (is_attached (rpc_of v c items)) item) (consumed c items) (joined v c items) (unread v c (item ∷ mux_of v items)) (messages_lie v c items a.1)
messages_lie v c (Attach key terms ∷ items) a = joined_more (same_key key c) (consumed c items) (joined v c items) (unread v c (mux_of v items)) (messages_lie v c items a.1)
messages_lie v c (GotMessage key place size message ∷ items) a = by (messages_lie v c items a.1) (same_key key c) refl
  where
    by : consumed c items ≤ length (joined v c items) → (b : Bool) → same_key key c ≡ b → (if b then consumed c items + size else consumed c items) ≤ length (joined v c items)
    by before true h =
        let arrives : Arrives v c (Applies place message size) items = subst (λ k. Arrives v k (Applies place message size) items) (same_key_true key c h) a.0 in
        let lies = message_lies v c place size message items arrives in
        omega (arith, before, lies.1, length-drop (consumed c items) (joined v c items))
    by before false h = before
messages_lie v c (DidCall key call ∷ items) a = messages_lie v c items a.1
messages_lie v c (RefusedMessage key place reason ∷ items) a = messages_lie v c items a.1
