-- The messages that a connection took are the first of those whose texts came.
use Rattle.std.specs.Prelude.{if◌then◌else◌, Bool, true, false, zero, suc, Result, Ok, Err}
use Rattle.std.proofs.Common.{◌≡◌, ℕ, ◌+◌, ◌≤◌, List, [], ◌∷◌, ◌++◌, length, take, drop, map, refl, sym, ◌∙◌, ap, ap₂, subst, arith, append_assoc, append-nil, length-append, length-drop, Option, Some, None}
use Rattle.std.proofs.lemmas.List.{map-append, take-append-drop, take-append-le, drop-append-le, drop_at}
use Rattle.wire_base.specs.declared.frame.Version.{Version}
use Rattle.wire_base.specs.declared.reason.Reason.{Reason}
use Rattle.wire_base.specs.declared.state.Cause.{Cause}
use Rattle.wire_base.specs.declared.state.Cause.TheVariants as cause
use Rattle.message_body.specs.AsRead.{as_read, AreMessages, IsWritable}
use Rattle.message_body.specs.Found.{body_in}
use Rattle.message_body.specs.Written.{encoder, body_text}
use Rattle.message_body.proofs.Again.{body_within, read_again}
use Rattle.message_body.proofs.Sizes.{body_some}
use Rattle.message_framing.specs.declared.front.Front.{Front}
use Rattle.message_framing.specs.declared.front.Front.TheVariants as fronts
use Rattle.message_framing.specs.Front.{front}
use Rattle.message_framing.specs.Wrapped.{head_text, wrapped}
use Rattle.message_framing.proofs.FrontLemmas.{whole_within, front_stays}
use Rattle.message_framing.proofs.WrapLemmas.{wrapped_whole, wrapped_body}
use Rattle.mux_items.specs.declared.channel.ChannelKey.{ChannelKey}
use Rattle.mux_items.specs.Applying.{place_at}
use Rattle.mux_items.specs.Bodies.{same_key}
use Rattle.mux_items.specs.Lists.{unread, is_completed}
use Rattle.mux_items.proofs.Keys.{same_key_true}
use Rattle.rpc_items.specs.declared.messages.Message.{Message}
use Rattle.rpc_items.specs.Fitting.{AreWritable}
use Rattle.rpc_items.specs.Items as rpc
use Rattle.rpc_items.specs.Refusals.{message_refusal}
use Rattle.rpc_items.specs.Saying.{all_got}
use Rattle.rpc_end.specs.Arrivals.{Applies, allowed_arrival, body_arrival, front_arrival}
use Rattle.rpc_end.specs.declared.terms.Terms.{Terms}
use Rattle.rpc_end.specs.Texts.{message_text, message_texts}
use Rattle.endpoint_items.specs.Items.{EndItem, Mux, Attach, DidCall, GotMessage, RefusedMessage, terms_of}
use Rattle.endpoint_items.specs.Connections.{Connection, is_attached, was_attached, items_of, with_item, end_for, attached_to, end_by}
use Rattle.endpoint_items.specs.Layers.{mux_of, rpc_of}
use Rattle.endpoint_items.specs.Bytes.{is_read_on, joined, consumed, rest_of}
use Rattle.endpoint_items.specs.Calls.{attach_refusal}
use Rattle.endpoint_items.specs.Allowed.{Arrives, AreAllowed}
use Rattle.endpoint_items.specs.Exchange.{AreFirst, TakesFirst}
use Rattle.endpoint_items.proofs.Attaching.{attachable}
use Rattle.endpoint_items.proofs.Joining.{unjoined}
use Rattle.endpoint_items.proofs.Lying.{messages_lie}
use Rattle.endpoint_items.proofs.Said.{was_with, was_ended, was_if}
use Rattle.endpoint_items.proofs.Spoken.{texts-append}

-- ---- the message that stands at the front

-- a body that says the message stands whole there, in so many bytes with its head
record IsNext (terms : Terms) (rest : List ℕ) (message : Message) (size : ℕ) : Type 0 where
  start : ℕ
  length_is : ℕ
  whole : front terms.framing rest ≡ fronts.Whole start length_is
  says : body_in terms.encoding (take length_is (drop start rest)) ≡ Ok message
  size_is : start + length_is ≡ size

allowed_next : (p n place size : ℕ) (m message : Message) (refused : Option Reason) → allowed_arrival p m n refused ≡ Applies place message size → (m ≡ message) × (n ≡ size)
allowed_next p n place size m message None e = (cc e, cc e)
allowed_next p n place size m message (Some r) e = absurd (cc e)

body_next : (items : List rpc.RpcItem) (p n place size : ℕ) (message : Message) (found : Result Message (ℕ × Reason)) → body_arrival items p n found ≡ Applies place message size → (found ≡ Ok message) × (n ≡ size)
body_next items p n place size message (Ok m) e =
    let is = allowed_next p n place size m message (message_refusal m items) e in
    (ap Ok is.0, is.1)
body_next items p n place size message (Err broken) e = absurd (cc e)

front_next : (terms : Terms) (items : List rpc.RpcItem) (at : ℕ) (rest : List ℕ) (place size : ℕ) (message : Message) (f : Front) → front terms.framing rest ≡ f → front_arrival terms items at rest f ≡ Applies place message size → IsNext terms rest message size
front_next terms items at rest place size message (fronts.Whole start n) stands e =
    let is = body_next items (at + start) (start + n) place size message (body_in terms.encoding (take n (drop start rest))) e in
    record { start = start; length_is = n; whole = stands; says = is.0; size_is = is.1 }
front_next terms items at rest place size message fronts.Short stands e = absurd (cc e)
front_next terms items at rest place size message (fronts.Broken offset r) stands e = absurd (cc e)

next_message : (v : Version) (c : ChannelKey) (place size : ℕ) (message : Message) (items : List EndItem) → Arrives v c (Applies place message size) items → IsNext (terms_of c items) (rest_of v c items) message size
next_message v c place size message items a =
    let terms = terms_of c items in
    let rest = rest_of v c items in
    front_next terms (items_of (rpc_of v c items)) (consumed c items) rest place size message (front terms.framing rest) refl a.stands

-- ---- the first of some messages

-- the message is the first of these as it is read, in the bytes of its text
record IsFirstOf (terms : Terms) (message : Message) (size : ℕ) (messages : List Message) : Type 0 where
  first : Message
  others : List Message
  are : messages ≡ first ∷ others
  message_is : message ≡ as_read terms.encoding first
  size_is : size ≡ length (message_text terms first)

whole_parts : (i j m n : ℕ) → fronts.Whole i j ≡ fronts.Whole m n → (i ≡ m) × (j ≡ n)
whole_parts i j m n e = (cc e, cc e)

-- bytes that lie in the front of others
within_front : (bytes more : List ℕ) (start n : ℕ) → start + n ≤ length bytes → take n (drop start (bytes ++ more)) ≡ take n (drop start bytes)
within_front bytes more start n h =
    ap (take n) (drop-append-le start bytes more (omega (arith, h)))
    ∙ take-append-le n (drop start bytes) more (let left = length-drop start bytes in omega (arith, h, left))

first_of : (terms : Terms) (message : Message) (size : ℕ) (rest more : List ℕ) (messages : List Message) → IsNext terms rest message size → rest ++ more ≡ message_texts terms messages
    → AreMessages messages → AreWritable (encoder terms.encoding) messages → IsFirstOf terms message size messages
first_of terms message size rest more [] next e are writable =
    absurd (let within = whole_within terms.framing rest next.start next.length_is next.whole in omega (arith, within.0, within.1, ap length e, length-append rest more))
first_of terms message size rest more (first ∷ others) next e are writable =
    let f = terms.framing in
    let body = body_text terms.encoding first in
    let head = head_text f (length body) in
    let later = message_texts terms others in
    let w : IsWritable terms.encoding first = record { message = are.0; accepted = writable.0 } in
    let within = whole_within f rest next.start next.length_is next.whole in
    let stays = front_stays f rest more next.start next.length_is next.whole in
    let whole = wrapped_whole f body later (body_some terms.encoding first) (body_within terms.encoding first w) in
    let same = whole_parts next.start next.length_is (length head) (length body) (sym stays ∙ (ap (front f) e ∙ whole)) in
    let bytes : take next.length_is (drop next.start rest) ≡ body =
    sym (within_front rest more next.start next.length_is within.1)
    ∙ (ap₂ (λ n bytes. take n (drop next.start bytes)) same.1 e ∙ (ap (λ n. take (length body) (drop n (wrapped f body ++ later))) same.0 ∙ wrapped_body f body later)) in
    let reads : Ok message ≡ Ok (as_read terms.encoding first) = sym next.says ∙ (ap (body_in terms.encoding) bytes ∙ read_again terms.encoding first w) in
    record {
      first = first;
      others = others;
      are = refl;
      message_is = cc reads;
      size_is = omega (arith, next.size_is, same.0, same.1, length-append head body);
    }

-- ---- the messages that were taken

-- where the bytes that were read begin the text of some messages, those that a connection took are the first of them
abbrev Takes : Terms → Connection → (applied : ℕ) → (bytes : List ℕ) → Type 0
Takes terms x applied bytes = (messages : List Message) → AreMessages messages → AreWritable (encoder terms.encoding) messages → (more : List ℕ) → bytes ++ more ≡ message_texts terms messages → AreFirst terms messages (all_got (items_of x)) applied

-- bytes only join, and no message is taken
takes_same : (terms : Terms) (x y : Connection) (applied : ℕ) (b : Bool) (bytes new : List ℕ) → all_got (items_of y) ≡ all_got (items_of x) → Takes terms x applied bytes → Takes terms y applied (if b then bytes ++ new else bytes)
takes_same terms x y applied b bytes new same takes messages are writable more e = by (takes messages are writable (joining b ++ more) (regrouped b e))
  where
    joining : Bool → List ℕ
    joining b = if b then new else []

    regrouped : (b : Bool) → (if b then bytes ++ new else bytes) ++ more ≡ message_texts terms messages → bytes ++ (joining b ++ more) ≡ message_texts terms messages
    regrouped true e = sym (append_assoc bytes new more) ∙ e
    regrouped false e = e

    by : AreFirst terms messages (all_got (items_of x)) applied → AreFirst terms messages (all_got (items_of y)) applied
    by f = record { count = f.count; are = same ∙ f.are; bytes = f.bytes }

ended_got : (why : Option Cause) (x : Connection) → all_got (items_of (end_for why x)) ≡ all_got (items_of x)
ended_got None x = refl
ended_got (Some why) x = elim (is_attached x) as (λ b. all_got (items_of (if b then with_item (rpc.End why) x else x)) ≡ all_got (items_of x)) [ true ↦ by x | false ↦ refl ]
  where
    by : (x : Connection) → all_got (items_of (with_item (rpc.End why) x)) ≡ all_got (items_of x)
    by (Some items) = refl
    by None = refl

did_got : (call : rpc.RpcCall) (x : Connection) → all_got (items_of (with_item (rpc.Did call) x)) ≡ all_got (items_of x)
did_got call (Some items) = refl
did_got call None = refl

began_got : (completed : Bool) (x : Connection) → was_attached x ≡ false → all_got (items_of (attached_to completed x)) ≡ []
began_got completed (Some items) new = cc
began_got true None new = refl
began_got false None new = refl

message_got : (place : ℕ) (message : Message) (x : Connection) → is_attached x ≡ true → all_got (items_of (with_item (rpc.Got place message) x)) ≡ all_got (items_of x) ++ message ∷ []
message_got place message (Some items) e = refl
message_got place message None e = cc

if_got : (b : Bool) (x y : Connection) → all_got (items_of y) ≡ all_got (items_of x) → all_got (items_of (if b then y else x)) ≡ all_got (items_of x)
if_got true x y e = e
if_got false x y e = refl

messages_later : (n : ℕ) (messages : List Message) → AreMessages messages → AreMessages (drop n messages)
messages_later zero messages are = are
messages_later (suc n) [] are = are
messages_later (suc n) (m ∷ messages) are = messages_later n messages are.1

writable_later : (e : Terms) (n : ℕ) (messages : List Message) → AreWritable (encoder e.encoding) messages → AreWritable (encoder e.encoding) (drop n messages)
writable_later e zero messages w = w
writable_later e (suc n) [] w = w
writable_later e (suc n) (m ∷ messages) w = writable_later e n messages w.1

take_next : (n : ℕ) (messages others : List Message) (first : Message) → drop n messages ≡ first ∷ others → take (suc n) messages ≡ take n messages ++ first ∷ []
take_next zero [] others first e = cc
take_next zero (m ∷ messages) others first e = cc
take_next (suc n) [] others first e = cc
take_next (suc n) (m ∷ messages) others first e = ap (λ ms. m ∷ ms) (take_next n messages others first e)

-- the next message is taken
takes_next : (terms : Terms) (x : Connection) (applied : ℕ) (bytes : List ℕ) (place size : ℕ) (message : Message) → is_attached x ≡ true → applied ≤ length bytes → IsNext terms (drop applied bytes) message size
    → Takes terms x applied bytes → Takes terms (with_item (rpc.Got place message) x) (applied + size) bytes
takes_next terms x applied bytes place size message attached within next takes messages are writable more e =
    let f = takes messages are writable more e in
    let taken = take f.count messages in
    let left = drop f.count messages in
    let split : message_texts terms messages ≡ message_texts terms taken ++ message_texts terms left = ap (message_texts terms) (sym (take-append-drop f.count messages)) ∙ texts-append terms taken left in
    let ahead : drop applied bytes ++ more ≡ message_texts terms left =
    sym (drop-append-le applied bytes more within) ∙ (ap (drop applied) (e ∙ split) ∙ drop_at (message_texts terms taken) (message_texts terms left) applied (sym f.bytes)) in
    let first = first_of terms message size (drop applied bytes) more left next ahead (messages_later f.count messages are) (writable_later terms f.count messages writable) in
    let longer : take (suc f.count) messages ≡ taken ++ first.first ∷ [] = take_next f.count messages first.others first.first first.are in
    let text : message_texts terms (take (suc f.count) messages) ≡ message_texts terms taken ++ (message_text terms first.first ++ []) = ap (message_texts terms) longer ∙ texts-append terms taken (first.first ∷ []) in
    record {
      count = suc f.count;
      are = message_got place message x attached
          ∙ (ap₂ (λ ms m. ms ++ m ∷ []) f.are first.message_is ∙ (sym (map-append (as_read terms.encoding) taken (first.first ∷ [])) ∙ ap (map (as_read terms.encoding)) (sym longer)));
      bytes = omega (arith, f.bytes, first.size_is, ap length text, length-append (message_texts terms taken) (message_text terms first.first ++ []), ap length (append-nil (message_text terms first.first)));
    }

-- a connection begins with no message taken
takes_none : (terms : Terms) (x : Connection) (applied : ℕ) (bytes : List ℕ) → all_got (items_of x) ≡ [] → applied ≡ 0 → Takes terms x applied bytes
takes_none terms x applied bytes none unapplied messages are writable more e = record { count = 0; are = none; bytes = unapplied }

pub takes : (v : Version) (c : ChannelKey) (items : List EndItem) → AreAllowed v items → was_attached (rpc_of v c items) ≡ true → Takes (terms_of c items) (rpc_of v c items) (consumed c items) (joined v c items)
takes v c [] a was = cc
takes v c (Mux item ∷ items) a was =
    let x = rpc_of v c items in
    let why = end_by v c item (item ∷ mux_of v items) in
    takes_same (terms_of c items) x (end_for why x) (consumed c items) (is_read_on c (is_attached x) item) (joined v c items) (unread v c (item ∷ mux_of v items)) (ended_got why x) (takes v c items a.1 (sym (was_ended why x) ∙ was))
takes v c (Attach key terms ∷ items) a was = by (takes v c items a.1) (same_key key c) refl was
  where
    x : Connection
    x = rpc_of v c items

    completed : Bool
    completed = is_completed v c (mux_of v items)

    by : (was_attached x ≡ true → Takes (terms_of c items) x (consumed c items) (joined v c items)) → (b : Bool) → same_key key c ≡ b → was_attached (if b then attached_to completed x else x) ≡ true
        → Takes (if b then terms else terms_of c items) (if b then attached_to completed x else x) (consumed c items) (if b then joined v c items ++ unread v c (mux_of v items) else joined v c items)
    by before true same was =
        let new = (attachable v c items (ap (λ k. attach_refusal v k items) (sym (same_key_true key c same)) ∙ a.0)).new in
        let none : consumed c items ≡ 0 = (let lies = messages_lie v c items a.1 in omega (arith, lies, ap length (unjoined v c items new))) in
        takes_none terms (attached_to completed x) (consumed c items) (joined v c items ++ unread v c (mux_of v items)) (began_got completed x new) none
    by before false differ was = before was
takes v c (DidCall key call ∷ items) a was =
    let x = rpc_of v c items in
    let now = with_item (rpc.Did call) x in
    let before = sym (was_if (same_key key c) x now (was_with (rpc.Did call) x)) ∙ was in
    takes_same (terms_of c items) x (if same_key key c then now else x) (consumed c items) false (joined v c items) [] (if_got (same_key key c) x now (did_got call x)) (takes v c items a.1 before)
takes v c (GotMessage key place size message ∷ items) a was = by (takes v c items a.1 before) (same_key key c) refl
  where
    x : Connection
    x = rpc_of v c items

    before : was_attached x ≡ true
    before = sym (was_if (same_key key c) x (with_item (rpc.Got place message) x) (was_with (rpc.Got place message) x)) ∙ was

    by : Takes (terms_of c items) x (consumed c items) (joined v c items) → (b : Bool) → same_key key c ≡ b
        → Takes (terms_of c items) (if b then with_item (rpc.Got place message) x else x) (if b then consumed c items + size else consumed c items) (joined v c items)
    by took true same =
        let arrives : Arrives v c (Applies place message size) items = subst (λ k. Arrives v k (Applies place message size) items) (same_key_true key c same) a.0 in
        takes_next (terms_of c items) x (consumed c items) (joined v c items) place size message arrives.attached (messages_lie v c items a.1) (next_message v c place size message items arrives) took
    by took false differ = took
takes v c (RefusedMessage key place reason ∷ items) a was =
    let x = rpc_of v c items in
    let why = Some (cause.Refused (place_at place) reason) in
    let now = end_for why x in
    let before = sym (was_if (same_key key c) x now (was_ended why x)) ∙ was in
    takes_same (terms_of c items) x (if same_key key c then now else x) (consumed c items) false (joined v c items) [] (if_got (same_key key c) x now (ended_got why x)) (takes v c items a.1 before)

pub takes_first : (v : Version) (c : ChannelKey) (items : List EndItem) (messages : List Message) (more : List ℕ) → AreAllowed v items → was_attached (rpc_of v c items) ≡ true
    → AreMessages messages → AreWritable (encoder (terms_of c items).encoding) messages → joined v c items ++ more ≡ message_texts (terms_of c items) messages → TakesFirst v c messages items
takes_first v c items messages more a was are writable e = takes v c items a was messages are writable more e
