-- What an end answers to calls that say responses, ask for pages and give sequences up.
use Rattle.std.specs.Prelude.{ℕ, ◌+◌, List, [], ◌∷◌, length, drop, Bool, true, false, nat_le, if◌then◌else◌, Option, Some, None, Result, Ok, Err, OnOk}
use Rattle.std.proofs.Common.{◌≡◌, refl, sym, ◌∙◌, ap, subst}
use Rattle.wire_base.specs.declared.fault.CallFault.{CallFault}
use Rattle.wire_base.specs.declared.refusal.Refusal.{Refusal}
use Rattle.wire_base.specs.declared.refusal.Refusal.TheVariants as refusal
use Rattle.wire_base.specs.declared.text.Id.{Id}
use Rattle.wire_base.specs.Options.{or_else}
use Rattle.call_table.specs.Replies.{full_refusal}
use Rattle.call_table.specs.Table.{answered, begun, waits_in}
use Rattle.call_table.proofs.After.{answered_after, begun_after}
use Rattle.call_table.proofs.Passing.{abort_leaves}
use Rattle.enumerables.specs.declared.sequence.Sequence.{Sequence}
use Rattle.enumerables.specs.Consumer.{following_refusal, found, turning, without}
use Rattle.enumerables.specs.Producer.{with_sequence}
use Rattle.enumerables.specs.Stands.{ProducerStands}
use Rattle.enumerables.proofs.After.{aborted_after, produced_after, turned_after}
use Rattle.enumerables.proofs.Passing.{call_leaves_consumer, call_leaves_producer}
use Rattle.enumerables.proofs.Reading.{follows_as, produces_as, tokens_as}
use Rattle.marshalled_handles.specs.declared.own_handle.OwnHandle.{OwnHandle}
use Rattle.marshalled_handles.specs.Holder.{responded}
use Rattle.marshalled_handles.specs.Owner.{offered}
use Rattle.marshalled_handles.specs.Stands.{OwnerStands}
use Rattle.marshalled_handles.proofs.After.{responded_after}
use Rattle.marshalled_handles.proofs.Arguments.{object_as, object_stands}
use Rattle.marshalled_handles.proofs.Passing.{call_leaves_holder, call_leaves_owner}
use Rattle.message_body.specs.AsRead.{AreMessages}
use Rattle.message_body.specs.Written.{encoder}
use Rattle.rpc_items.specs.declared.calls.Answer.{Answer}
use Rattle.rpc_items.specs.declared.calls.Answer.TheVariants as answer
use Rattle.rpc_items.specs.declared.calls.Expect.TheVariants.{Plain}
use Rattle.rpc_items.specs.declared.calls.Lifetime.TheVariants.{Explicit}
use Rattle.rpc_items.specs.declared.messages.Message.{Message}
use Rattle.rpc_items.specs.declared.messages.Message.TheVariants as message
use Rattle.rpc_items.specs.Arguments.{most_drawn}
use Rattle.rpc_items.specs.Bodies.{first_refusal, sequence_refusal}
use Rattle.rpc_items.specs.Fitting.{IsNamed}
use Rattle.rpc_items.specs.Items.{Respond, Next, Abort, RpcItem, Did, is_running}
use Rattle.rpc_items.specs.Objects.{object_value}
use Rattle.rpc_items.specs.Pages.{page_values}
use Rattle.rpc_items.specs.Refusals.{answer_refusal, said_refusal, state_refusal, turn_refusal}
use Rattle.rpc_items.specs.Saying.{abort_message, response, result_of_sequence, said, turn_message, with_token}
use Rattle.rpc_items.specs.Writing.{message_value}
use Rattle.rpc_items.proofs.Resting.{first_accepted}
use Rattle.rpc_end.specs.Calls.{Responds, finished, given_refusal, next_number, page_asked, pages_left, responding_refusal, response_by, running_refusal, unwritten, with_given, with_replied}
use Rattle.rpc_end.specs.Ends.{Makes, with_consumer, with_owner, with_producer, with_said, with_table}
use Rattle.rpc_end.specs.Replies.{Answers}
use Rattle.rpc_end.specs.Stands.{RpcStands, RpcValue}
use Rattle.rpc_end.proofs.Answering.{CallsItem, KeepsFor, MakesItem, call_answers, calls_terms, item_answers, keeping, made_terms, runs_on}

-- a response is said of a request that waits

was_waiting : (waits : Bool) (refused : Option Refusal) → (if waits then refused else Some refusal.NoRequest) ≡ None → waits ≡ true
was_waiting true refused e = refl
was_waiting false refused e = absurd (cc e)

-- responses

module _ (old : RpcValue) (items : List RpcItem) (at : ℕ) (rest : List ℕ) (s : RpcStands old items at rest) where
  given_as : (given : Answer) → given_refusal given old ≡ answer_refusal given items
  given_as (answer.Value value) = refl
  given_as (answer.Object object) = object_as object old.owner items s.owner
  given_as (answer.Sequence values page first) = produces_as values page first old.producer items s.producer
  given_as (answer.Fault code text more) = refl

  respond_early : (id : Id) (given : Answer) → responding_refusal id given old ≡ state_refusal (Respond id given) items
  respond_early id given = λ i. if s.table.waiting id i then given_as given i else Some refusal.NoRequest

  respond_says : (id : Id) (given : Answer) → response_by id given old ≡ response id given items
  respond_says id (answer.Value value) = refl
  respond_says id (answer.Object object) = ap (λ (n : ℕ). message.Result id (object_value (n + 1) Explicit)) s.owner.count
  respond_says id (answer.Sequence values page first) = ap (λ (n : ℕ). message.Result id (result_of_sequence values first (n + 1))) s.producer.count
  respond_says id (answer.Fault code text more) = refl

  respond_late : (id : Id) (given : Answer) → unwritten id given old ≡ said_refusal (encoder old.terms.encoding) (Respond id given) items
  respond_late id (answer.Value value) = refl
  respond_late id (answer.Object object) = ap (λ (m : Message). first_refusal (encoder old.terms.encoding) (m ∷ [])) (respond_says id (answer.Object object))
  respond_late id (answer.Sequence values page first) =
      ap (λ (m : Message). sequence_refusal (encoder old.terms.encoding) (message_value m) values (page_values (length values) page (drop first values))) (respond_says id (answer.Sequence values page first))
  respond_late id (answer.Fault code text more) = refl

  -- a response says that the request waits no more, and adds what it gives
  reply_keeps : (id : Id) (given : Answer) (sequences : List Sequence) (handles : List OwnHandle) → ProducerStands sequences (Did (Respond id given) ∷ items) → OwnerStands handles (Did (Respond id given) ∷ items)
      → KeepsFor (with_owner handles (with_producer sequences (with_replied id old))) (Did (Respond id given) ∷ items)
  reply_keeps id given sequences handles p o = record {
    table = answered_after id given old.table (answered id old.table) items refl s.table;
    producer = p;
    consumer = call_leaves_consumer old.consumer (Respond id given) items refl s.consumer;
    owner = o;
    holder = responded_after id given old.holder (responded id old.holder) items refl s.holder;
  }

  respond_keeps : (id : Id) (given : Answer) → is_running items ≡ true → KeepsFor (with_given given (with_replied id old)) (Did (Respond id given) ∷ items)
  respond_keeps id (answer.Value value) runs =
      reply_keeps id (answer.Value value) old.producer old.owner (call_leaves_producer old.producer (Respond id (answer.Value value)) items refl s.producer) (call_leaves_owner old.owner (Respond id (answer.Value value)) items refl refl s.owner)
  respond_keeps id (answer.Object object) runs =
      reply_keeps id (answer.Object object) old.producer (offered (record { object = object; until = None }) old.owner) (call_leaves_producer old.producer (Respond id (answer.Object object)) items refl s.producer) (object_stands id object old.owner items runs s.owner)
  respond_keeps id (answer.Sequence values page first) runs =
      let sequences : List Sequence = with_sequence values page first old.producer in
      reply_keeps id (answer.Sequence values page first) sequences old.owner (produced_after id values page first old.producer sequences items refl runs s.producer) (call_leaves_owner old.owner (Respond id (answer.Sequence values page first)) items refl refl s.owner)
  respond_keeps id (answer.Fault code text more) runs =
      reply_keeps id (answer.Fault code text more) old.producer old.owner (call_leaves_producer old.producer (Respond id (answer.Fault code text more)) items refl s.producer) (call_leaves_owner old.owner (Respond id (answer.Fault code text more)) items refl refl s.owner)

  -- the id of a request that waits is one that a value can tell
  responds_named : (id : Id) (given : Answer) → responding_refusal id given old ≡ None → IsNamed id
  responds_named id given free = s.named id (sym (s.table.waiting id) ∙ was_waiting (waits_in id old.table) (given_refusal given old) free)

-- a response changes what an end keeps alone
replied_only : (id : Id) (given : Answer) (old : RpcValue) → with_given given (with_replied id old) ≡ keeping (with_given given (with_replied id old)) old
replied_only id (answer.Value value) old = refl
replied_only id (answer.Object object) old = refl
replied_only id (answer.Sequence values page first) old = refl
replied_only id (answer.Fault code text more) old = refl

when_ok : {A : Type 0} (P Q : Type 0) (given : Result A CallFault) → P → OnOk given (P → Q) → OnOk given Q
when_ok P Q (Ok y) p f = f p
when_ok P Q (Err e) p f = tt

module _ {A : Type 0} (old made new : RpcValue) (id : Id) (given : Answer) (x : A) (reply result : Result A CallFault) where
  abbrev early : Option Refusal
  early = responding_refusal id given old

  abbrev kept : RpcValue
  kept = with_given given (with_replied id old)

  abbrev messages : List Message
  messages = response_by id given old ∷ []

  responds_item : Responds old made id given x reply → MakesItem old made kept early (unwritten id given old) messages x reply
  responds_item responds = subst (λ (e : RpcValue). Makes old made early (unwritten id given old) (with_said messages e) x reply) (replied_only id given old) responds

  pub respond_answers : (items : List RpcItem) (at : ℕ) (rest : List ℕ) → RpcStands old items at rest → running_refusal old.state ≡ None → Responds old made id given x reply → OnOk reply (IsNamed id → AreMessages messages) → result ≡ reply → new ≡ finished reply made
      → Answers old new items at rest (Respond id given) (λ _. Unit {0}) result
  respond_answers items at rest s running responds fine same finish =
      item_answers old made kept new (Respond id given) items at rest x (λ _. Unit {0}) early (unwritten id given old) messages reply result s running refl
      (record {
        early_is = respond_early old items at rest s id given;
        late_is = respond_late old items at rest s id given;
        says = ap (λ (m : Message). m ∷ []) (respond_says old items at rest s id given);
      })
      (λ free. when_ok (IsNamed id) (AreMessages messages) reply (responds_named old items at rest s id given free) fine) (λ free. respond_keeps old items at rest s id given (runs_on old items at rest s running)) tt (responds_item responds) same finish

  pub respond_terms : Responds old made id given x reply → new ≡ finished reply made → new.terms ≡ old.terms
  respond_terms responds finish = made_terms old made kept new x reply early (unwritten id given old) messages (responds_item responds) finish

-- a request for a page is refused early so, or else says this and makes this of an end

abbrev pub asked_early : RpcValue → (n : ℕ) → Option Refusal
asked_early old n = or_else (following_refusal (found n old.consumer)) (full_refusal old.table)

abbrev pub next_asked : RpcValue → (n : ℕ) → List Message
next_asked old n = page_asked n (next_number old) old.consumer

abbrev pub with_asked : RpcValue → (n : ℕ) → RpcValue
with_asked old n = with_consumer (turning n (next_number old) old.consumer) (with_table (begun Plain false old.table) old)

-- the same of what gives a sequence up

abbrev pub left_early : RpcValue → (n : ℕ) → Option Refusal
left_early old n = following_refusal (found n old.consumer)

abbrev pub with_left : RpcValue → (n : ℕ) → RpcValue
with_left old n = with_consumer (without n old.consumer) old

module _ (old : RpcValue) (n : ℕ) (items : List RpcItem) (at : ℕ) (rest : List ℕ) (s : RpcStands old items at rest) where
  next_early : asked_early old n ≡ state_refusal (Next n) items
  next_early = λ i. or_else (follows_as n old.consumer items s.consumer i) (if nat_le most_drawn (s.table.count i) then Some refusal.TooManyRequests else None)

  next_says : next_asked old n ≡ said (Did (Next n)) items
  next_says = λ i. with_token (tokens_as n old.consumer items s.consumer i) (λ (token : Id). turn_message (s.table.count i + 1) token)

  abort_says : pages_left n old.consumer ≡ said (Did (Abort n)) items
  abort_says = ap (λ (o : Option Id). with_token o abort_message) (tokens_as n old.consumer items s.consumer)

  next_keeps : asked_early old n ≡ None → KeepsFor (with_asked old n) (Did (Next n) ∷ items)
  next_keeps free =
      let accepted : turn_refusal n items ≡ None = sym (follows_as n old.consumer items s.consumer) ∙ first_accepted (following_refusal (found n old.consumer)) (full_refusal old.table) free in
      record {
        table = begun_after Plain false (Some n) (Next n) old.table (begun Plain false old.table) items refl s.table refl;
        producer = call_leaves_producer old.producer (Next n) items refl s.producer;
        consumer = turned_after n (next_number old) old.consumer (turning n (next_number old) old.consumer) items refl accepted (ap (λ (m : ℕ). m + 1) s.table.count) s.consumer;
        owner = call_leaves_owner old.owner (Next n) items refl refl s.owner;
        holder = call_leaves_holder old.holder (Next n) items refl s.holder;
      }

  abort_keeps : left_early old n ≡ None → KeepsFor (with_left old n) (Did (Abort n) ∷ items)
  abort_keeps free = record {
    table = abort_leaves false old.table n items s.table;
    producer = call_leaves_producer old.producer (Abort n) items refl s.producer;
    consumer = aborted_after n old.consumer (without n old.consumer) items refl (sym (follows_as n old.consumer items s.consumer) ∙ free) s.consumer;
    owner = call_leaves_owner old.owner (Abort n) items refl refl s.owner;
    holder = call_leaves_holder old.holder (Abort n) items refl s.holder;
  }

module _ {A : Type 0} (old made new : RpcValue) (n : ℕ) (x : A) (given result : Result A CallFault) where
  pub next_answers : (IsAnswer : A → Type 0) (items : List RpcItem) (at : ℕ) (rest : List ℕ) → RpcStands old items at rest → running_refusal old.state ≡ None → CallsItem old made (with_asked old n) (asked_early old n) (next_asked old n) x given
      → OnOk given (AreMessages (next_asked old n)) → IsAnswer x → result ≡ given → new ≡ finished given made → Answers old new items at rest (Next n) IsAnswer result
  next_answers IsAnswer items at rest s running calls fine answer same finish =
      call_answers old made (with_asked old n) new (Next n) items at rest x IsAnswer (asked_early old n) (next_asked old n) given result s running refl refl
      (next_early old n items at rest s) (next_says old n items at rest s) fine (next_keeps old n items at rest s) answer calls same finish

  pub next_terms : CallsItem old made (with_asked old n) (asked_early old n) (next_asked old n) x given → new ≡ finished given made → new.terms ≡ old.terms
  next_terms calls finish = calls_terms old made (with_asked old n) new x given (asked_early old n) (next_asked old n) calls finish

  pub abort_answers : (items : List RpcItem) (at : ℕ) (rest : List ℕ) → RpcStands old items at rest → running_refusal old.state ≡ None → CallsItem old made (with_left old n) (left_early old n) (pages_left n old.consumer) x given
      → OnOk given (AreMessages (pages_left n old.consumer)) → result ≡ given → new ≡ finished given made → Answers old new items at rest (Abort n) (λ _. Unit {0}) result
  abort_answers items at rest s running calls fine same finish =
      call_answers old made (with_left old n) new (Abort n) items at rest x (λ _. Unit {0}) (left_early old n) (pages_left n old.consumer) given result s running refl refl
      (follows_as n old.consumer items s.consumer) (abort_says old n items at rest s) fine (abort_keeps old n items at rest s) tt calls same finish

  pub abort_terms : CallsItem old made (with_left old n) (left_early old n) (pages_left n old.consumer) x given → new ≡ finished given made → new.terms ≡ old.terms
  abort_terms calls finish = calls_terms old made (with_left old n) new x given (left_early old n) (pages_left n old.consumer) calls finish
