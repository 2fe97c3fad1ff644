-- What an end answers to calls.
use Rattle.std.specs.Prelude.{ℕ, List, ◌∷◌, Bool, true, false, is_none, if◌then◌else◌, Option, Some, None, Result, Ok, Err, OnOk}
use Rattle.std.proofs.Common.{◌≡◌, refl, sym, ◌∙◌, ap, subst}
use Rattle.call_table.specs.Stands.{TableStands}
use Rattle.enumerables.specs.Stands.{ConsumerStands, ProducerStands}
use Rattle.marshalled_handles.specs.Stands.{HolderStands, OwnerStands}
use Rattle.message_body.specs.AsRead.{AreMessages}
use Rattle.message_body.specs.Written.{encoder}
use Rattle.rpc_items.specs.declared.messages.Message.{Message}
use Rattle.rpc_items.specs.Bodies.{Encoder, first_refusal}
use Rattle.rpc_items.specs.Items.{RpcCall, RpcItem, Did, ended, is_running}
use Rattle.rpc_items.specs.Refusals.{call_refusal, is_of_the_past, said_refusal, state_refusal, unless_ended}
use Rattle.rpc_items.specs.Saying.{all_said, said}
use Rattle.wire_base.specs.declared.fault.CallFault.{CallFault}
use Rattle.wire_base.specs.declared.fault.CallFault.TheVariants as fault
use Rattle.wire_base.specs.declared.refusal.Refusal.{Refusal}
use Rattle.wire_base.specs.declared.state.Cause.{Cause}
use Rattle.wire_base.specs.declared.state.EndState.{EndState}
use Rattle.wire_base.specs.declared.state.EndState.TheVariants as state
use Rattle.wire_base.specs.Options.{or_else}
use Rattle.wire_base.specs.States.{state_by}
use Rattle.rpc_end.specs.Calls.{Prepares, finished, running_refusal}
use Rattle.rpc_end.specs.Ends.{Makes, with_said}
use Rattle.rpc_end.specs.Replies.{Adds, Answers, CallAnswers, early_refusal}
use Rattle.rpc_end.specs.Stands.{RpcStands, RpcValue}
use Rattle.rpc_end.proofs.Said.{both_messages, waits_still}

-- what an end keeps is as these items leave it
pub record KeepsFor (end : RpcValue) (items : List RpcItem) : Type 0 where
  pub table : TableStands false end.table items
  pub producer : ProducerStands end.producer items
  pub consumer : ConsumerStands end.consumer items
  pub owner : OwnerStands end.owner items
  pub holder : HolderStands end.holder items

-- an end that keeps what another one does
abbrev pub keeping : (kept end : RpcValue) → RpcValue
keeping kept end = record end { table = kept.table; producer = kept.producer; consumer = kept.consumer; owner = kept.owner; holder = kept.holder }

-- an accepted call adds its item
pub adds : (old kept now : RpcValue) (call : RpcCall) (items : List RpcItem) (at : ℕ) (rest : List ℕ) → RpcStands old items at rest → call_refusal (encoder old.terms.encoding) call items ≡ None → AreMessages (said (Did call) items)
    → now ≡ with_said (said (Did call) items) (keeping kept old) → KeepsFor kept (Did call ∷ items) → Adds old now items at rest (Did call)
adds old kept now call items at rest s accepted says is keeps =
    subst (λ (n : RpcValue). Adds old n items at rest (Did call)) (sym is) (record {
      stands = record {
        table = keeps.table;
        producer = keeps.producer;
        consumer = keeps.consumer;
        owner = keeps.owner;
        holder = keeps.holder;
        at_is = s.at_is;
        rest_is = s.rest_is;
        state = s.state;
        allowed = (accepted, s.allowed);
        said = both_messages (all_said items) (said (Did call) items) s.said says;
        named = λ id w. s.named id (waits_still call items id w);
      };
      output = refl;
      terms_stay = refl;
    })

-- a call says these messages, and the end keeps what this one does
abbrev pub MakesItem : {A : Type 0} → (old made kept : RpcValue) → (early late : Option Refusal) → List Message → A → Result A CallFault → Type 0
MakesItem old made kept early late messages x given = Makes old made early late (with_said messages (keeping kept old)) x given

-- the same of a call that is refused late for these messages alone
abbrev pub CallsItem : {A : Type 0} → (old made kept : RpcValue) → (early : Option Refusal) → List Message → A → Result A CallFault → Type 0
CallsItem old made kept early messages x given = MakesItem old made kept early (first_refusal (encoder old.terms.encoding) messages) messages x given

-- a call is refused, early and late, and says, as these items tell
pub record IsAsItems (old : RpcValue) (call : RpcCall) (items : List RpcItem) (early late : Option Refusal) (messages : List Message) : Type 0 where
  pub early_is : early ≡ state_refusal call items
  pub late_is : late ≡ said_refusal (encoder old.terms.encoding) call items
  pub says : messages ≡ said (Did call) items

no_end : (cause : Option Cause) (s : EndState) → s ≡ state_by cause → running_refusal s ≡ None → cause ≡ None
no_end None s e running = refl
no_end (Some cause) s e running = absurd (let t : running_refusal (state.Ended cause) ≡ None = ap running_refusal (sym e) ∙ running in cc)

on_running : (past : Bool) (cause : Option Cause) (other now : Option Refusal) → past ≡ false → cause ≡ None → (if past then other else unless_ended cause now) ≡ now
on_running false None other now p e = refl
on_running false (Some cause) other now p e = absurd cc
on_running true cause other now p e = absurd cc

-- an end that stands for items and runs has not ended
pub runs_on : (old : RpcValue) (items : List RpcItem) (at : ℕ) (rest : List ℕ) → RpcStands old items at rest → running_refusal old.state ≡ None → is_running items ≡ true
runs_on old items at rest s running = ap is_none (no_end (ended items) old.state s.state running)

module _ {A : Type 0} (old made kept new : RpcValue) (call : RpcCall) (items : List RpcItem) (at : ℕ) (rest : List ℕ) (x : A) (IsAnswer : A → Type 0) where
  answered : (early late : Option Refusal) (given : Result A CallFault) → RpcStands old items at rest → call_refusal (encoder old.terms.encoding) call items ≡ or_else early late
      → (early ≡ None → OnOk given (AreMessages (said (Did call) items))) → (early ≡ None → KeepsFor kept (Did call ∷ items)) → IsAnswer x → MakesItem old made kept early late (said (Did call) items) x given
      → CallAnswers old (finished given made) items at rest call (or_else early late) early IsAnswer given
  answered None None (Ok y) s law says keeps answer makes = (adds old kept made call items at rest s law (says refl) makes.0 (keeps refl), subst IsAnswer (sym makes.1) answer)
  answered None None (Err fault.OutOfMemory) s law says keeps answer makes = refl
  answered None None (Err (fault.Refused r)) s law says keeps answer makes = absurd makes
  answered None (Some t) (Ok y) s law says keeps answer makes = absurd makes
  answered None (Some t) (Err fault.OutOfMemory) s law says keeps answer makes = refl
  answered None (Some t) (Err (fault.Refused r)) s law says keeps answer makes = makes
  answered (Some t) late (Ok y) s law says keeps answer makes = absurd makes
  answered (Some t) late (Err fault.OutOfMemory) s law says keeps answer makes = absurd makes
  answered (Some t) late (Err (fault.Refused r)) s law says keeps answer makes = makes

  -- what a call of a running end makes answers it, once an end stops where memory ran out
  pub item_answers : (early late : Option Refusal) (messages : List Message) (given result : Result A CallFault) → RpcStands old items at rest → running_refusal old.state ≡ None → is_of_the_past call ≡ false → IsAsItems old call items early late messages
      → (early ≡ None → OnOk given (AreMessages messages)) → (early ≡ None → KeepsFor kept (Did call ∷ items)) → IsAnswer x → MakesItem old made kept early late messages x given
      → result ≡ given → new ≡ finished given made → Answers old new items at rest call IsAnswer result
  item_answers early late messages given result s running past by fine keeps answer makes same finish =
      let k : Encoder = encoder old.terms.encoding in
      let none = no_end (ended items) old.state s.state running in
      let law : call_refusal k call items ≡ or_else early late = on_running (is_of_the_past call) (ended items) _ _ past none ∙ (λ i. or_else (sym by.early_is i) (sym by.late_is i)) in
      let early_law : early_refusal call items ≡ early = on_running (is_of_the_past call) (ended items) _ _ past none ∙ sym by.early_is in
      let made_item = subst (λ (m : List Message). MakesItem old made kept early late m x given) by.says makes in
      let fine_item = subst (λ (m : List Message). early ≡ None → OnOk given (AreMessages m)) by.says fine in
      subst (λ (r : Result A CallFault). Answers old new items at rest call IsAnswer r) (sym same)
      (subst (λ (n : RpcValue). Answers old n items at rest call IsAnswer given) (sym finish)
      (subst (λ (o : Option Refusal). CallAnswers old (finished given made) items at rest call o (early_refusal call items) IsAnswer given) (sym law)
      (subst (λ (o : Option Refusal). CallAnswers old (finished given made) items at rest call (or_else early late) o IsAnswer given) (sym early_law)
      (answered early late given s law fine_item keeps answer made_item))))

  -- the same of a call that is refused late for its messages alone
  pub call_answers : (early : Option Refusal) (messages : List Message) (given result : Result A CallFault) → RpcStands old items at rest → running_refusal old.state ≡ None → is_of_the_past call ≡ false
      → said_refusal (encoder old.terms.encoding) call items ≡ first_refusal (encoder old.terms.encoding) (said (Did call) items) → early ≡ state_refusal call items → messages ≡ said (Did call) items
      → OnOk given (AreMessages messages) → (early ≡ None → KeepsFor kept (Did call ∷ items)) → IsAnswer x → CallsItem old made kept early messages x given
      → result ≡ given → new ≡ finished given made → Answers old new items at rest call IsAnswer result
  call_answers early messages given result s running past late_is early_is says fine keeps answer calls same finish =
      let k : Encoder = encoder old.terms.encoding in
      item_answers early (first_refusal k messages) messages given result s running past (record { early_is = early_is; late_is = ap (first_refusal k) says ∙ sym late_is; says = says }) (λ free. fine) keeps answer calls same finish

-- no call changes how an end writes and reads
makes_terms : {A : Type 0} (old made now : RpcValue) (early late : Option Refusal) (x : A) (given : Result A CallFault) → now.terms ≡ old.terms → Makes old made early late now x given → made.terms ≡ old.terms
makes_terms old made now None None x (Ok y) same makes = ap (λ (e : RpcValue). e.terms) makes.0 ∙ same
makes_terms old made now None None x (Err fault.OutOfMemory) same makes = makes
makes_terms old made now None None x (Err (fault.Refused r)) same makes = absurd makes
makes_terms old made now None (Some t) x (Ok y) same makes = absurd makes
makes_terms old made now None (Some t) x (Err fault.OutOfMemory) same makes = makes
makes_terms old made now None (Some t) x (Err (fault.Refused r)) same makes = ap (λ (e : RpcValue). e.terms) makes.1
makes_terms old made now (Some t) late x (Ok y) same makes = absurd makes
makes_terms old made now (Some t) late x (Err fault.OutOfMemory) same makes = absurd makes
makes_terms old made now (Some t) late x (Err (fault.Refused r)) same makes = ap (λ (e : RpcValue). e.terms) makes.1

finished_terms : {A : Type 0} (made : RpcValue) (given : Result A CallFault) → (finished given made).terms ≡ made.terms
finished_terms made (Ok y) = refl
finished_terms made (Err fault.OutOfMemory) = refl
finished_terms made (Err (fault.Refused r)) = refl

module _ {A : Type 0} (old made kept new : RpcValue) (x : A) (given : Result A CallFault) where
  pub made_terms : (early late : Option Refusal) (messages : List Message) → MakesItem old made kept early late messages x given → new ≡ finished given made → new.terms ≡ old.terms
  made_terms early late messages makes finish = ap (λ (e : RpcValue). e.terms) finish ∙ (finished_terms made given ∙ makes_terms old made (with_said messages (keeping kept old)) early late x given refl makes)

  pub calls_terms : (early : Option Refusal) (messages : List Message) → CallsItem old made kept early messages x given → new ≡ finished given made → new.terms ≡ old.terms
  calls_terms early messages calls finish = made_terms early (first_refusal (encoder old.terms.encoding) messages) messages calls finish

-- a call whose text isn't written
unprepared_by : {A : Type 0} (B : Type 0) (old now : RpcValue) (early late : Option Refusal) (x : A) (error : CallFault) → Prepares {A = B} early late (Err error) → Makes old old early late now x (Err error)
unprepared_by B old now None None x fault.OutOfMemory why = refl
unprepared_by B old now None None x (fault.Refused r) why = absurd cc
unprepared_by B old now None (Some t) x fault.OutOfMemory why = refl
unprepared_by B old now None (Some t) x (fault.Refused r) why = (cc, refl)
unprepared_by B old now (Some t) late x fault.OutOfMemory why = absurd cc
unprepared_by B old now (Some t) late x (fault.Refused r) why = (cc, refl)

pub unprepared : {A B : Type 0} (old now : RpcValue) (early late : Option Refusal) (x : A) (error : CallFault) (text : Result B CallFault) → text ≡ Err error → Prepares early late text → Makes old old early late now x (Err error)
unprepared {B = B} old now early late x error text is why = unprepared_by B old now early late x error (subst (λ (r : Result B CallFault). Prepares early late r) is why)
