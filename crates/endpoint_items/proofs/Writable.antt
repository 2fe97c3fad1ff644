-- No rule refuses the body of what a connection said.
use Rattle.std.specs.Prelude.{if◌then◌else◌, nat_lt, ◌&&◌, ◌||◌, Bool, true, false, zero, suc}
use Rattle.std.proofs.Common.{◌≡◌, ℕ, ◌+◌, List, [], ◌∷◌, ◌++◌, length, take, drop, refl, sym, ◌∙◌, ap, subst, Option, Some, None}
use Rattle.std.proofs.lemmas.Bool.{or_parts}
use Rattle.std.specs.List.{list_any}
use Rattle.wire_base.specs.Tree.{Tree, trees_of}
use Rattle.wire_base.specs.Values.{nesting, holds_bytes, items_hold_bytes}
use Rattle.wire_base.specs.declared.frame.Version.{Version}
use Rattle.wire_base.specs.declared.refusal.Refusal.TheVariants as refusal
use Rattle.wire_base.specs.declared.state.Cause.TheVariants as cause
use Rattle.wire_base.specs.declared.text.Id.{Id}
use Rattle.wire_base.specs.declared.text.Id.TheVariants.{Number, Name}
use Rattle.message_body.specs.Written.{encoder}
use Rattle.message_body.proofs.Lengths.{fair}
use Rattle.mux_items.specs.declared.channel.ChannelKey.{ChannelKey}
use Rattle.mux_items.specs.Applying.{place_at}
use Rattle.mux_items.specs.Bodies.{same_key}
use Rattle.mux_items.specs.Lists.{is_completed}
use Rattle.mux_items.proofs.Keys.{same_key_true}
use Rattle.rpc_items.specs.declared.calls.Answer.TheVariants as answer
use Rattle.rpc_items.specs.declared.messages.Message.{Message}
use Rattle.rpc_items.specs.declared.messages.Message.TheVariants.{Request}
use Rattle.rpc_items.specs.declared.messages.Message.TheVariants as message
use Rattle.rpc_items.specs.Allowed as rules
use Rattle.rpc_items.specs.Bodies.{Encoder, most_body, most_nested, most_page, body_refusal, first_refusal, sequence_refusal}
use Rattle.rpc_items.specs.Fitting.{IsFair, AreWritable}
use Rattle.rpc_items.specs.Items as rpc
use Rattle.rpc_items.specs.Meanings.{meaning}
use Rattle.rpc_items.specs.Pages.{page_values, sequence_value}
use Rattle.rpc_items.specs.Refusals.{call_refusal, state_refusal}
use Rattle.rpc_items.specs.Saying.{said, all_said, response, result_of_sequence}
use Rattle.rpc_items.specs.Produced.{last_token}
use Rattle.rpc_items.specs.Writing.{message_value}
use Rattle.rpc_items.proofs.Writing.{automatic_fits}
use Rattle.rpc_end.specs.Arrivals.{Applies}
use Rattle.rpc_end.specs.Heeding.{HasId}
use Rattle.endpoint_items.specs.Items.{EndItem, Mux, Attach, DidCall, GotMessage, RefusedMessage, terms_of}
use Rattle.endpoint_items.specs.Connections.{Connection, items_of, with_item, end_for, attached_to, end_by}
use Rattle.endpoint_items.specs.Layers.{mux_of, rpc_of}
use Rattle.endpoint_items.specs.Calls.{attach_refusal, connection_refusal}
use Rattle.endpoint_items.specs.Allowed.{Arrives, AreAllowed}
use Rattle.endpoint_items.specs.Exchange.{said_on}
use Rattle.endpoint_items.proofs.Attaching.{attachable}
use Rattle.endpoint_items.proofs.Arriving.{accepted, arrived}
use Rattle.endpoint_items.proofs.Said.{ended_said, began_said}
use Rattle.endpoint_items.proofs.Short.{first_writable, said_none}
use Rattle.endpoint_items.proofs.Sound.{encoder_on, sound}

-- a response with a sequence holds bytes where its values do

front_free : (n : ℕ) (values : List Tree) → items_hold_bytes (trees_of values) ≡ false → items_hold_bytes (trees_of (take n values)) ≡ false
front_free zero values e = refl
front_free (suc n) [] e = refl
front_free (suc n) (value ∷ values) e =
    let parts = or_parts (holds_bytes value) (items_hold_bytes (trees_of values)) e in
    rw parts.0 (front_free n values parts.1)

sequence_free : (token : Option ℕ) (values : List Tree) → items_hold_bytes (trees_of values) ≡ false → holds_bytes (sequence_value token values) ≡ false
sequence_free (Some token) values e = rw e refl
sequence_free None values e = rw e refl

result_free : (id : Id) (value : Tree) → holds_bytes value ≡ false → holds_bytes (message_value (message.Result id value)) ≡ false
result_free (Number z) value e = rw e refl
result_free (Name s) value e = rw e refl

and_free : (json values response : Bool) → (values ≡ false → response ≡ false) → (json && values) ≡ false → (json && response) ≡ false
and_free true values response f e = f e
and_free false values response f e = refl

sequence_parts : (a b c d e : Bool) → (if a then Some refusal.BytesInJson else if b || c then Some refusal.TooDeep else if d || e then Some refusal.BodyTooLong else None) ≡ None → (a ≡ false) × (b ≡ false) × (d ≡ false)
sequence_parts true b c d e h = absurd (cc h)
sequence_parts false true c d e h = absurd (cc h)
sequence_parts false false true d e h = absurd (cc h)
sequence_parts false false false true e h = absurd (cc h)
sequence_parts false false false false true h = absurd (cc h)
sequence_parts false false false false false h = (refl, refl, refl)

sequence_written : (k : Encoder) (id : Id) (values pages : List Tree) (first token : ℕ) → sequence_refusal k (message_value (message.Result id (result_of_sequence values first token))) values pages ≡ None
    → body_refusal k (message_value (message.Result id (result_of_sequence values first token))) ≡ None
sequence_written k id values pages first token e =
    let given = if nat_lt first (length values) then Some token else None in
    let r = message_value (message.Result id (result_of_sequence values first token)) in
    let parts = sequence_parts (k.json && items_hold_bytes (trees_of values)) (nat_lt most_nested (nesting r)) (list_any (λ page. nat_lt most_nested (nesting page + 1)) pages) (nat_lt most_body (k.size r)) (list_any (λ page. nat_lt most_page (k.size page)) pages) e in
    let free : (k.json && holds_bytes r) ≡ false =
    and_free k.json (items_hold_bytes (trees_of values)) (holds_bytes r) (λ none. result_free id (result_of_sequence values first token) (sequence_free given (take first values) (front_free first values none))) parts.0 in
    rw (free, parts.1, parts.2) refl

-- what an accepted call says

call_writable : (k : Encoder) (call : rpc.RpcCall) (items : List rpc.RpcItem) → call_refusal k call items ≡ None → AreWritable k (said (rpc.Did call) items)
call_writable k (rpc.TakeReport n) items e = tt
call_writable k (rpc.Forget n) items e = tt
call_writable k (rpc.Respond id (answer.Sequence values page first)) items e =
    let pages = page_values (length values) page (drop first values) in
    let r = message_value (response id (answer.Sequence values page first) items) in
    let none = said_none (rpc.ended items) (state_refusal (rpc.Respond id (answer.Sequence values page first)) items) (sequence_refusal k r values pages) e in
    (sequence_written k id values pages first (last_token items + 1) none, tt)
call_writable k call items e = first_writable k (said (rpc.Did call) items) (said_none (rpc.ended items) (state_refusal call items) (first_refusal k (said (rpc.Did call) items)) e)

-- what a message is answered with

answer_writable : (k : Encoder) (place : ℕ) (message : Message) (items : List rpc.RpcItem) → IsFair k → rules.AreAllowed k items → HasId message → AreWritable k (said (rpc.Got place message) items)
answer_writable k place (Request id method params) items fair allowed named = automatic_fits k id (meaning method params) items fair allowed named
answer_writable k place message items fair allowed named = tt

-- all that a connection said

writable-append : (k : Encoder) (ms ns : List Message) → AreWritable k ms → AreWritable k ns → AreWritable k (ms ++ ns)
writable-append k [] ns w more = more
writable-append k (m ∷ ms) ns w more = (w.0, writable-append k ms ns w.1 more)

abbrev IsWritten : Encoder → Connection → Type 0
IsWritten k x = AreWritable k (all_said (items_of x))

written_with : (k : Encoder) (item : rpc.RpcItem) (x : Connection) → AreWritable k (said item (items_of x)) → IsWritten k x → IsWritten k (with_item item x)
written_with k item (Some items) more w = writable-append k (all_said items) (said item items) w more
written_with k item None more w = w

written_if : (k : Encoder) (b : Bool) (x y : Connection) → (b ≡ true → IsWritten k y) → IsWritten k x → IsWritten k (if b then y else x)
written_if k true x y h w = h refl
written_if k false x y h w = w

pub said_writable : (v : Version) (c : ChannelKey) (items : List EndItem) → AreAllowed v items → AreWritable (encoder_on c items) (said_on v c items)
said_writable v c [] a = tt
said_writable v c (Mux item ∷ items) a =
    subst (AreWritable (encoder_on c items)) (sym (ended_said (end_by v c item (item ∷ mux_of v items)) (rpc_of v c items))) (said_writable v c items a.1)
said_writable v c (Attach key terms ∷ items) a = by (said_writable v c items a.1) (same_key key c) refl
  where
    x : Connection
    x = rpc_of v c items

    completed : Bool
    completed = is_completed v c (mux_of v items)

    by : IsWritten (encoder_on c items) x → (b : Bool) → same_key key c ≡ b → IsWritten (encoder (if b then terms else terms_of c items).encoding) (if b then attached_to completed x else x)
    by before true same =
        let new = (attachable v c items (ap (λ k. attach_refusal v k items) (sym (same_key_true key c same)) ∙ a.0)).new in
        subst (AreWritable (encoder terms.encoding)) (sym (began_said completed x new)) tt
    by before false differ = before
said_writable v c (DidCall key call ∷ items) a =
    let before = said_writable v c items a.1 in
    let x = rpc_of v c items in
    let k = encoder_on c items in
    written_if k (same_key key c) x (with_item (rpc.Did call) x)
    (λ same. written_with k (rpc.Did call) x (call_writable k call (items_of x) (accepted v c call items (ap (λ k. connection_refusal v k call items) (sym (same_key_true key c same)) ∙ a.0)).unrefused) before) before
said_writable v c (GotMessage key place size message ∷ items) a =
    let before = said_writable v c items a.1 in
    let x = rpc_of v c items in
    let k = encoder_on c items in
    written_if k (same_key key c) x (with_item (rpc.Got place message) x)
    (λ same. (let arrives : Arrives v c (Applies place message size) items = subst (λ k. Arrives v k (Applies place message size) items) (same_key_true key c same) a.0 in
    written_with k (rpc.Got place message) x (answer_writable k place message (items_of x) (fair (terms_of c items).encoding) (sound v c items a.1) (arrived v c place size message items arrives).id) before)) before
said_writable v c (RefusedMessage key place reason ∷ items) a =
    let before = said_writable v c items a.1 in
    let x = rpc_of v c items in
    let k = encoder_on c items in
    let why = Some (cause.Refused (place_at place) reason) in
    written_if k (same_key key c) x (end_for why x) (λ same. subst (AreWritable k) (sym (ended_said why x)) before) before
