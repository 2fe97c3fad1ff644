-- The items of a connection are those of accepted calls and of messages that no rule refuses.
use Rattle.std.specs.Prelude.{if◌then◌else◌, Bool, true, false}
use Rattle.std.proofs.Common.{◌≡◌, List, [], ◌∷◌, refl, sym, ◌∙◌, ap, subst, Option, Some, None}
use Rattle.wire_base.specs.declared.frame.Version.{Version}
use Rattle.wire_base.specs.declared.state.Cause.{Cause}
use Rattle.wire_base.specs.declared.state.Cause.TheVariants as cause
use Rattle.message_body.specs.Written.{encoder}
use Rattle.mux_items.specs.declared.channel.ChannelKey.{ChannelKey}
use Rattle.mux_items.specs.Applying.{place_at}
use Rattle.mux_items.specs.Bodies.{same_key}
use Rattle.mux_items.specs.Lists.{is_completed}
use Rattle.mux_items.proofs.Keys.{same_key_true}
use Rattle.rpc_items.specs.Allowed as rules
use Rattle.rpc_items.specs.Answered.{AnswersOnce}
use Rattle.rpc_items.specs.Bodies.{Encoder}
use Rattle.rpc_items.specs.Items as rpc
use Rattle.rpc_items.proofs.Answering.{answers_once}
use Rattle.rpc_end.specs.Arrivals.{Applies}
use Rattle.endpoint_items.specs.Items.{EndItem, Mux, Attach, DidCall, GotMessage, RefusedMessage, terms_of}
use Rattle.endpoint_items.specs.Connections.{Connection, is_attached, was_attached, items_of, with_item, end_for, attached_to, end_by}
use Rattle.endpoint_items.specs.Layers.{mux_of, rpc_of}
use Rattle.endpoint_items.specs.Calls.{attach_refusal, connection_refusal}
use Rattle.endpoint_items.specs.Allowed.{Arrives, AreAllowed}
use Rattle.endpoint_items.proofs.Attaching.{attachable}
use Rattle.endpoint_items.proofs.Arriving.{accepted, arrived}

abbrev pub IsSound : Encoder → Connection → Type 0
IsSound k x = rules.AreAllowed k (items_of x)

attached_runs : (x : Connection) → is_attached x ≡ true → rpc.is_running (items_of x) ≡ true
attached_runs (Some items) e = e
attached_runs None e = cc

sound_item : (k : Encoder) (item : rpc.RpcItem) (x : Connection) → rules.IsAllowed k item (items_of x) → IsSound k x → IsSound k (with_item item x)
sound_item k item (Some items) a s = (a, s)
sound_item k item None a s = s

sound_end : (k : Encoder) (why : Option Cause) (x : Connection) → IsSound k x → IsSound k (end_for why x)
sound_end k None x s = s
sound_end k (Some why) x s = by (is_attached x) refl
  where
    by : (b : Bool) → is_attached x ≡ b → IsSound k (if b then with_item (rpc.End why) x else x)
    by true e = sound_item k (rpc.End why) x (attached_runs x e) s
    by false e = s

sound_attached : (k : Encoder) (completed : Bool) (x : Connection) → was_attached x ≡ false → IsSound k (attached_to completed x)
sound_attached k completed (Some items) new = cc
sound_attached k true None new = (refl, tt)
sound_attached k false None new = tt

sound_if : (k : Encoder) (b : Bool) (x y : Connection) → (b ≡ true → IsSound k y) → IsSound k x → IsSound k (if b then y else x)
sound_if k true x y h s = h refl
sound_if k false x y h s = s

abbrev pub encoder_on : ChannelKey → List EndItem → Encoder
encoder_on c items = encoder (terms_of c items).encoding

pub sound : (v : Version) (c : ChannelKey) (items : List EndItem) → AreAllowed v items → IsSound (encoder_on c items) (rpc_of v c items)
sound v c [] a = tt
sound v c (Mux item ∷ items) a = sound_end (encoder_on c items) (end_by v c item (item ∷ mux_of v items)) (rpc_of v c items) (sound v c items a.1)
sound v c (Attach key terms ∷ items) a = by (sound v c items a.1) (same_key key c) refl
  where
    x : Connection
    x = rpc_of v c items

    completed : Bool
    completed = is_completed v c (mux_of v items)

    by : IsSound (encoder_on c items) x → (b : Bool) → same_key key c ≡ b → IsSound (encoder (if b then terms else terms_of c items).encoding) (if b then attached_to completed x else x)
    by before true same = sound_attached (encoder terms.encoding) completed x (attachable v c items (ap (λ k. attach_refusal v k items) (sym (same_key_true key c same)) ∙ a.0)).new
    by before false differ = before
sound v c (DidCall key call ∷ items) a =
    let before = sound v c items a.1 in
    let x = rpc_of v c items in
    sound_if (encoder_on c items) (same_key key c) x (with_item (rpc.Did call) x)
    (λ same. sound_item (encoder_on c items) (rpc.Did call) x (accepted v c call items (ap (λ k. connection_refusal v k call items) (sym (same_key_true key c same)) ∙ a.0)).unrefused before) before
sound v c (GotMessage key place size message ∷ items) a =
    let before = sound v c items a.1 in
    let x = rpc_of v c items in
    sound_if (encoder_on c items) (same_key key c) x (with_item (rpc.Got place message) x)
    (λ same. (let arrives : Arrives v c (Applies place message size) items = subst (λ k. Arrives v k (Applies place message size) items) (same_key_true key c same) a.0 in
    sound_item (encoder_on c items) (rpc.Got place message) x (attached_runs x arrives.attached, (arrived v c place size message items arrives).unrefused) before)) before
sound v c (RefusedMessage key place reason ∷ items) a =
    let before = sound v c items a.1 in
    let why = Some (cause.Refused (place_at place) reason) in
    sound_if (encoder_on c items) (same_key key c) (rpc_of v c items) (end_for why (rpc_of v c items)) (λ same. sound_end (encoder_on c items) why (rpc_of v c items) before) before

-- each request is answered once at most
pub answered_once : (v : Version) (c : ChannelKey) (items : List EndItem) → AreAllowed v items → AnswersOnce (items_of (rpc_of v c items))
answered_once v c items a = answers_once (encoder_on c items) (items_of (rpc_of v c items)) (sound v c items a)
