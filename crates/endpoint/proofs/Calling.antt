-- What a call of an end answers that is one of its multiplexing end.
use Rattle.std.specs.Prelude.{ℕ, ◌≤◌, List, [], ◌∷◌, length, Bool, false, if◌then◌else◌, Option, Some, None, Result, Ok, Err, OnOk}
use Rattle.std.proofs.Common.{◌≡◌, refl, sym, ◌∙◌, ap, subst}
use Rattle.wire_base.specs.declared.fault.CallFault.{CallFault}
use Rattle.wire_base.specs.declared.fault.CallFault.TheVariants as fault
use Rattle.wire_base.specs.declared.frame.Version.{Version}
use Rattle.wire_base.specs.declared.refusal.Refusal.{Refusal}
use Rattle.wire_base.specs.declared.state.Cause.TheVariants as cause
use Rattle.wire_base.specs.declared.state.EndState.TheVariants as state
use Rattle.mux_items.specs.declared.call.Call.{Call}
use Rattle.mux_items.specs.declared.call.Call.TheVariants as call
use Rattle.mux_items.specs.declared.channel.ChannelKey.{ChannelKey}
use Rattle.mux_items.specs.Calls.{item_of_call}
use Rattle.mux_items.specs.Calls as mux_calls
use Rattle.mux_items.specs.Items.{Item, DidTerminate}
use Rattle.mux_items.specs.Lists.{taken}
use Rattle.mux_end.specs.Replies.{CallAnswers}
use Rattle.mux_end.specs.Replies as mux
use Rattle.mux_end.specs.Stands.{EndValue, MuxStands}
use Rattle.endpoint_items.specs.Items.{EndItem, Mux}
use Rattle.endpoint_items.specs.Connections.{end_by}
use Rattle.endpoint_items.specs.Following.{follow_ups}
use Rattle.endpoint_items.specs.Layers.{mux_of}
use Rattle.endpoint_items.specs.Bytes.{is_read_on}
use Rattle.endpoint_items.specs.Calls.{OfMux, call_refusal, item_of, unless_refused}
use Rattle.endpoint_items.specs.Allowed.{AreAllowed}
use Rattle.endpoint_items.proofs.Rules.{calls_keep}
use Rattle.endpoint.specs.declared.attached.Attached.{Attached}
use Rattle.endpoint.specs.Changes.{ended_at, finished, with_connections}
use Rattle.endpoint.specs.Replies.{Adds, Answers, AnswersBy}
use Rattle.endpoint.specs.Stands.{Stands}
use Rattle.endpoint.specs.Value.{EndpointValue, value_in}
use Rattle.endpoint.proofs.Adding.{StandAfter, adds_mux, none_ends, one_ends}
use Rattle.endpoint.proofs.Places.{ended_keys, keys_of}
use Rattle.endpoint.proofs.Standing.{going}

-- the item of a call, after which nothing follows, and with which no byte comes

call_alone : (v : Version) (attached : ChannelKey → Bool) (d : Call) (m now : List Item) → follow_ups v attached (item_of_call d m) now ≡ []
call_alone v attached (call.Offer name size) m now = refl
call_alone v attached (call.Accept c size) m now = refl
call_alone v attached (call.Write c bytes) m now = refl
call_alone v attached (call.Read c max) m now = refl
call_alone v attached (call.Complete c) m now = refl
call_alone v attached (call.Terminate c) m now = refl

call_brings : (c : ChannelKey) (attached : Bool) (d : Call) (m : List Item) → is_read_on c attached (item_of_call d m) ≡ false
call_brings c attached (call.Offer name size) m = refl
call_brings c attached (call.Accept key size) m = refl
call_brings c attached (call.Write key bytes) m = refl
call_brings c attached (call.Read key max) m = refl
call_brings c attached (call.Complete key) m = refl
call_brings c attached (call.Terminate key) m = refl

call_taken : (v : Version) (c : ChannelKey) (d : Call) (m : List Item) → taken v c m ≡ taken v c (item_of_call d m ∷ m)
call_taken v c (call.Offer name size) m = refl
call_taken v c (call.Accept key size) m = refl
call_taken v c (call.Write key bytes) m = refl
call_taken v c (call.Read key max) m = refl
call_taken v c (call.Complete key) m = refl
call_taken v c (call.Terminate key) m = refl

module _ (old made : EndpointValue) (items : List EndItem) (at : ℕ) (rest : List ℕ) (d : Call) (s : Stands old items at rest) where
  call_adds : mux.Adds old.mux made.mux (mux_of old.mux.version items) at rest (item_of_call d (mux_of old.mux.version items)) → call_refusal old.mux.version (OfMux d) items ≡ None → made.state ≡ made.mux.state
      → keys_of made.connections ≡ keys_of old.connections → StandAfter old made items at at rest rest (item_of_call d (mux_of old.mux.version items)) s → Adds old made items at rest (Mux (item_of_call d (mux_of old.mux.version items)))
  call_adds add none state_is keys after =
      let v = old.mux.version in
      let m = mux_of v items in
      adds_mux old made items at at rest rest (item_of_call d m) s add (call_alone v _ d m _)
      (subst (λ (r : Option Refusal). AreAllowed v (unless_refused r (item_of v (OfMux d) items) items)) none (calls_keep v (OfMux d) items s.allowed)) state_is keys after
      (λ c. subst (λ bytes. length bytes ≤ at) (call_taken v c d m) (s.taken_within c)) s.fed_within

-- how the connections stand after an accepted call
pub record IsMade (old made : EndpointValue) (items : List EndItem) (at : ℕ) (rest : List ℕ) (d : Call) (s : Stands old items at rest) : Type 0 where
  pub keys : keys_of made.connections ≡ keys_of old.connections
  pub after : StandAfter old made items at at rest rest (item_of_call d (mux_of old.mux.version items)) s

module _ {A : Type 0} (old made : EndpointValue) (items : List EndItem) (at : ℕ) (rest : List ℕ) (d : Call) (IsAnswer : A → Type 0) (s : Stands old items at rest) where
  answered : (refused : Option Refusal) (given : Result A CallFault) → call_refusal old.mux.version (OfMux d) items ≡ refused
      → CallAnswers old.mux made.mux (mux_of old.mux.version items) at rest refused (item_of_call d (mux_of old.mux.version items)) IsAnswer given → made.state ≡ made.mux.state
      → OnOk given (IsMade old made items at rest d s) → ((r : Refusal) → given ≡ Err (fault.Refused r) → made.connections ≡ old.connections)
      → AnswersBy old (finished given made) items at rest (OfMux d) refused refused IsAnswer given
  answered None (Ok x) law h state_is ok same = (call_adds old made items at rest d s h.0 law state_is ok.keys ok.after, h.1)
  answered None (Err fault.OutOfMemory) law h state_is ok same = refl
  answered None (Err (fault.Refused r)) law h state_is ok same = absurd h
  answered (Some r) (Err (fault.Refused t)) law h state_is ok same =
      (h.0, λ i. record { mux = h.1 i; connections = same t refl i; state = (state_is ∙ (ap (λ (e : EndValue). e.state) h.1 ∙ sym s.state)) i })
  answered (Some r) (Err fault.OutOfMemory) law h state_is ok same = absurd h
  answered (Some r) (Ok x) law h state_is ok same = absurd h

  pub call_answers : (new : EndpointValue) (refused : Option Refusal) (given result : Result A CallFault) → call_refusal old.mux.version (OfMux d) items ≡ refused
      → CallAnswers old.mux made.mux (mux_of old.mux.version items) at rest refused (item_of_call d (mux_of old.mux.version items)) IsAnswer given → made.state ≡ made.mux.state
      → OnOk given (IsMade old made items at rest d s) → ((r : Refusal) → given ≡ Err (fault.Refused r) → made.connections ≡ old.connections)
      → new ≡ finished given made → result ≡ given → Answers old new items at rest (OfMux d) IsAnswer result
  call_answers new refused given result law h state_is ok same new_is result_is =
      subst (λ (r : Result A CallFault). Answers old new items at rest (OfMux d) IsAnswer r) (sym result_is)
      (subst (λ (n : EndpointValue). Answers old n items at rest (OfMux d) IsAnswer given) (sym new_is)
      (subst (λ (o : Option Refusal). AnswersBy old (finished given made) items at rest (OfMux d) o o IsAnswer given) (sym law)
      (answered refused given law h state_is ok same)))

-- a call that ends no connection

pub on_ok : {A F : Type 0} (given : Result A F) (P : Type 0) → P → OnOk given P
on_ok (Ok x) P p = p
on_ok (Err e) P p = tt

when_ok : {A F P Q : Type 0} (given : Result A F) → (P → Q) → OnOk given P → OnOk given Q
when_ok (Ok x) f p = f p
when_ok (Err e) f p = tt

module _ {A : Type 0} (within within' : EndValue) (connections : List Attached) (stopped : Bool) (old new : EndpointValue) (items : List EndItem) (at : ℕ) (rest : List ℕ) (d : Call) (IsAnswer : A → Type 0) (s : Stands old items at rest) where
  pub plain_answers : (given result : Result A CallFault) → value_in within connections stopped ≡ old → call_refusal old.mux.version (OfMux d) items ≡ mux_calls.call_refusal old.mux.version d (mux_of old.mux.version items)
      → (MuxStands within (mux_of old.mux.version items) at rest → CallAnswers within within' (mux_of old.mux.version items) at rest (mux_calls.call_refusal within.version d (mux_of old.mux.version items)) (item_of_call d (mux_of old.mux.version items)) IsAnswer given)
      → OnOk given ((c : ChannelKey) → end_by old.mux.version c (item_of_call d (mux_of old.mux.version items)) (item_of_call d (mux_of old.mux.version items) ∷ mux_of old.mux.version items) ≡ None)
      → new ≡ finished given (value_in within' connections stopped) → result ≡ given → Answers old new items at rest (OfMux d) IsAnswer result
  plain_answers given result is law answers ends new_is result_is =
      let m = mux_of old.mux.version items in
      let made : EndpointValue = value_in within' connections stopped in
      let inside : within ≡ old.mux = ap (λ (e : EndpointValue). e.mux) is in
      let same : connections ≡ old.connections = ap (λ (e : EndpointValue). e.connections) is in
      call_answers old made items at rest d IsAnswer s new (mux_calls.call_refusal old.mux.version d m) given result law
      (subst (λ (e : EndValue). MuxStands e m at rest → CallAnswers e within' m at rest (mux_calls.call_refusal e.version d m) (item_of_call d m) IsAnswer given) inside answers s.mux)
      (ap (λ b. if b then state.Stopped else within'.state) (going within connections stopped old items at rest is s))
      (when_ok given (λ none. record { keys = ap keys_of same; after = none_ends old made items at at rest rest (item_of_call d m) s none (λ c. call_brings c _ d m) same }) ends)
      (λ r failed. same) new_is result_is

-- a termination ends the connection of its channel
pub closing_answers : {A : Type 0} (within within' : EndValue) (connections : List Attached) (stopped : Bool) (old new : EndpointValue) (items : List EndItem) (at : ℕ) (rest : List ℕ) (key : ChannelKey) (x : A) → Stands old items at rest → value_in within connections stopped ≡ old
    → (MuxStands within (mux_of old.mux.version items) at rest → CallAnswers within within' (mux_of old.mux.version items) at rest (mux_calls.call_refusal within.version (call.Terminate key) (mux_of old.mux.version items)) (DidTerminate key) (λ _. Unit {0}) (Ok x))
    → new ≡ with_connections (ended_at key cause.ChannelClosed connections) (value_in within' connections stopped) → Answers old new items at rest (OfMux (call.Terminate key)) (λ _. Unit {0}) (Ok x)
closing_answers within within' connections stopped old new items at rest key x s is answers new_is =
    let m = mux_of old.mux.version items in
    let made : EndpointValue = with_connections (ended_at key cause.ChannelClosed connections) (value_in within' connections stopped) in
    let inside : within ≡ old.mux = ap (λ (e : EndpointValue). e.mux) is in
    let same : connections ≡ old.connections = ap (λ (e : EndpointValue). e.connections) is in
    call_answers old made items at rest (call.Terminate key) (λ _. Unit {0}) s new (mux_calls.call_refusal old.mux.version (call.Terminate key) m) (Ok x) (Ok x) refl
    (subst (λ (e : EndValue). MuxStands e m at rest → CallAnswers e within' m at rest (mux_calls.call_refusal e.version (call.Terminate key) m) (DidTerminate key) (λ _. Unit {0}) (Ok x)) inside answers s.mux)
    (ap (λ b. if b then state.Stopped else within'.state) (going within connections stopped old items at rest is s))
    (record {
      keys = ended_keys key cause.ChannelClosed connections ∙ ap keys_of same;
      after = one_ends old made items at at rest rest (DidTerminate key) s key cause.ChannelClosed (λ c. refl) (λ c. refl) (ap (ended_at key cause.ChannelClosed) same);
    })
    (λ r failed. absurd cc) new_is refl

-- no call changes the terms of an end

finished_mux : {A : Type 0} (given : Result A CallFault) (made : EndpointValue) → (finished given made).mux ≡ made.mux
finished_mux (Ok x) made = refl
finished_mux (Err (fault.Refused r)) made = refl
finished_mux (Err fault.OutOfMemory) made = refl

pub keeps_terms : {A : Type 0} (within within' : EndValue) (connections : List Attached) (stopped : Bool) (old new : EndpointValue) (given : Result A CallFault) → value_in within connections stopped ≡ old → mux.KeepsTerms within within'
    → new ≡ finished given (value_in within' connections stopped) → mux.KeepsTerms old.mux new.mux
keeps_terms within within' connections stopped old new given is kept new_is =
    subst (λ (e : EndValue). mux.KeepsTerms e new.mux) (ap (λ (e : EndpointValue). e.mux) is)
    (subst (λ (e : EndValue). mux.KeepsTerms within e) (sym (finished_mux given (value_in within' connections stopped)) ∙ sym (ap (λ (e : EndpointValue). e.mux) new_is)) kept)
