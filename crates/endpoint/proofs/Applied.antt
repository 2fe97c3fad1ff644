-- What a call as one value leaves and answers, told by what the call itself does.
use Rattle.std.specs.Prelude.{ℕ, List, Bool, true, false, Option, Some, None, Result, Ok, Err, MatchResult, IsOkAnd}
use Rattle.std.specs.List.{position}
use Rattle.std.proofs.Common.{◌≡◌, refl, sym, ◌∙◌, ap, subst}
use Rattle.wire_base.specs.declared.fault.CallFault.{CallFault}
use Rattle.wire_base.specs.declared.fault.CallFault.TheVariants as fault
use Rattle.wire_base.specs.declared.refusal.Refusal.{Refusal}
use Rattle.wire_base.specs.declared.refusal.Refusal.TheVariants as refusal
use Rattle.wire_base.specs.declared.state.EndState.TheVariants as state
use Rattle.mux_items.specs.declared.call.Call.{Call as MuxCall}
use Rattle.mux_items.specs.Bodies.{same_key}
use Rattle.mux_items.specs.declared.channel.ChannelKey.{ChannelKey}
use Rattle.rpc_items.specs.Outcomes.{Look, Known, NotYet, NoRequest}
use Rattle.endpoint_items.specs.declared.call.Call.{Call}
use Rattle.endpoint_items.specs.declared.call.Call.TheVariants as call
use Rattle.endpoint_items.specs.declared.reply.Reply.{Reply}
use Rattle.endpoint_items.specs.declared.reply.Reply.TheVariants as reply
use Rattle.endpoint_items.specs.Asked.{look_reply, made_by, refused_or, reply_to, told}
use Rattle.endpoint_items.specs.Calls.{EndCall, OfMux, call_refusal, item_of}
use Rattle.endpoint_items.specs.Connections.{was_attached}
use Rattle.endpoint_items.specs.Items.{EndItem}
use Rattle.endpoint_items.specs.Layers.{rpc_of}
use Rattle.endpoint_items.specs.Outcomes.{outcome_on}
use Rattle.endpoint.specs.Applied.{Applies, Leaves, TellsOf, as_reply, early_made, item_made, item_unless}
use Rattle.endpoint.specs.declared.attached.Attached.{Attached}
use Rattle.endpoint.specs.Calls.{attached_place}
use Rattle.endpoint.specs.Changes.{finished}
use Rattle.endpoint.specs.Replies.{Answers, AnswersBy, early_refusal}
use Rattle.endpoint.specs.Stands.{Stands}
use Rattle.endpoint.specs.Value.{EndpointValue}
use Rattle.endpoint.proofs.RpcCalling.{not_attached}

-- a call's result is that of the call that it stands for, whose answer is told so
abbrev pub Gives : {A : Type 0} → (A → Reply) → Result A CallFault → Result Reply CallFault → Type 0
Gives f answer result = MatchResult answer (λ x. IsOkAnd result (λ r. r ≡ f x)) (λ e. result ≡ Err e)

-- whether a reply is any but that memory ran out
abbrev pub is_told : Reply → Bool
is_told reply.OutOfMemory = false
is_told r = true

module _ (old new : EndpointValue) (items : List EndItem) (at : ℕ) (rest : List ℕ) (call : Call) where
  -- memory didn't run out
  pub applies_told : (r : Reply) → is_told r ≡ true → r ≡ reply_to old.mux.version call items → Leaves old new items at rest (item_made old.mux.version (made_by call) items) → Applies old new items at rest call r
  applies_told reply.Done is e h = (e, h)
  applies_told (reply.Made key) is e h = (e, h)
  applies_told (reply.Bytes bytes) is e h = (e, h)
  applies_told (reply.Number n) is e h = (e, h)
  applies_told (reply.Report value) is e h = (e, h)
  applies_told (reply.Known outcome) is e h = (e, h)
  applies_told reply.NotYet is e h = (e, h)
  applies_told (reply.Refused r) is e h = (e, h)
  applies_told reply.OutOfMemory is e h = absurd (cc is)

-- a call is applied as the call is that it stands for
module _ {A : Type 0} (old new : EndpointValue) (items : List EndItem) (at : ℕ) (rest : List ℕ) (call : Call) (made : EndCall) (IsAnswer : A → Type 0) (f : A → Reply) (success : Reply)
    (made_is : made_by call ≡ Some made) (reply_is : reply_to old.mux.version call items ≡ refused_or (call_refusal old.mux.version made items) success)
    (tells : (x : A) → IsAnswer x → f x ≡ success) (is : (x : A) → is_told (f x) ≡ true) where
  leaves : (refused : Option Refusal) → call_refusal old.mux.version made items ≡ refused → Leaves old new items at rest (item_unless refused (item_of old.mux.version made items)) → Leaves old new items at rest (item_made old.mux.version (made_by call) items)
  leaves refused law h = subst (λ (m : Option EndCall). Leaves old new items at rest (item_made old.mux.version m items)) (sym made_is) (subst (λ (r : Option Refusal). Leaves old new items at rest (item_unless r (item_of old.mux.version made items))) (sym law) h)

  replies : (refused : Option Refusal) (r : Reply) → call_refusal old.mux.version made items ≡ refused → r ≡ refused_or refused success → r ≡ reply_to old.mux.version call items
  replies refused r law e = e ∙ ap (λ (o : Option Refusal). refused_or o success) (sym law) ∙ sym reply_is

  by : (refused early : Option Refusal) (answer : Result A CallFault) (result : Result Reply CallFault) → call_refusal old.mux.version made items ≡ refused → early_refusal old.mux.version made items ≡ early → Gives f answer result
      → AnswersBy old new items at rest made refused early IsAnswer answer → Applies old new items at rest call (as_reply result)
  by None early (Ok x) (Ok r) law first given h =
      applies_told old new items at rest call r (ap is_told given ∙ is x) (replies None r law (given ∙ tells x h.1)) (leaves None law h.0)
  by None early (Ok x) (Err e) law first given h = absurd given
  by (Some t) early (Ok x) result law first given h = absurd h
  by None None (Err (fault.Refused s)) result law first given h = absurd h
  by None (Some t) (Err (fault.Refused s)) result law first given h = absurd h
  by (Some t) early (Err (fault.Refused s)) result law first given h =
      subst (λ (o : Result Reply CallFault). Applies old new items at rest call (as_reply o)) (sym given)
      (replies (Some t) (reply.Refused s) law (ap reply.Refused h.0), leaves (Some t) law h.1)
  by refused None (Err fault.OutOfMemory) result law first given h =
      subst (λ (o : Result Reply CallFault). Applies old new items at rest call (as_reply o)) (sym given)
      (ap (λ (m : Option EndCall). early_made old.mux.version m items) made_is ∙ first, stops refused h)
    where
      stops : (refused : Option Refusal) → AnswersBy {A = A} old new items at rest made refused None IsAnswer (Err fault.OutOfMemory) → new.state ≡ state.Stopped
      stops None h = h
      stops (Some t) h = h
  by None (Some t) (Err fault.OutOfMemory) result law first given h = absurd h
  by (Some u) (Some t) (Err fault.OutOfMemory) result law first given h = absurd h

  pub applied : (answer : Result A CallFault) (result : Result Reply CallFault) → Gives f answer result → Answers old new items at rest made IsAnswer answer → Applies old new items at rest call (as_reply result)
  applied answer result given h = by (call_refusal old.mux.version made items) (early_refusal old.mux.version made items) answer result refl refl given h

-- what is told of a request

told_look : (look : Look) → is_told (look_reply look) ≡ true
told_look (Known outcome) = refl
told_look NotYet = refl
told_look NoRequest = refl

pub tells : (old new : EndpointValue) (items : List EndItem) (at : ℕ) (rest : List ℕ) (key : ChannelKey) (n : ℕ) (look : Look) (result : Result Reply CallFault) → was_attached (rpc_of old.mux.version key items) ≡ true → look ≡ outcome_on false old.mux.version key n items
    → TellsOf look result → new ≡ finished result old → Applies old new items at rest (call.Outcome key n) (as_reply result)
tells old new items at rest key n look result was is = by result
  where
    replies : look_reply look ≡ told old.mux.version key n items
    replies = rw was (ap look_reply is)

    by : (result : Result Reply CallFault) → TellsOf look result → new ≡ finished result old → Applies old new items at rest (call.Outcome key n) (as_reply result)
    by (Ok r) e new_is = applies_told old new items at rest (call.Outcome key n) r (ap is_told e ∙ told_look look) (e ∙ replies) new_is
    by (Err (fault.Refused r)) e new_is = (e ∙ replies, new_is)
    by (Err fault.OutOfMemory) e new_is = (refl, ap (λ (end : EndpointValue). end.state) new_is)

-- a channel without a connection has no requests to tell of

pub unattached_tells : (old : EndpointValue) (items : List EndItem) (at : ℕ) (rest : List ℕ) (key : ChannelKey) (n : ℕ) (error : CallFault) → Stands old items at rest
    → Err error ≡ attached_place old.state (position (λ (attached : Attached). same_key key attached.key) old.connections) → Applies old old items at rest (call.Outcome key n) (as_reply (Err error))
unattached_tells old items at rest key n error s e =
    let p = not_attached old items at rest key error s e in
    subst (λ (e : CallFault). Applies old old items at rest (call.Outcome key n) (as_reply (Err e))) (sym p.0) (rw p.1 refl, refl)

-- memory runs out after a call of the multiplexing end was made
pub starves : {A : Type 0} (old new now : EndpointValue) (items : List EndItem) (at : ℕ) (rest : List ℕ) (c : MuxCall) (IsAnswer : A → Type 0) (x : A) → Answers old new items at rest (OfMux c) IsAnswer (Ok x) → now.state ≡ state.Stopped
    → Applies old now items at rest (call.Mux c) reply.OutOfMemory
starves old new now items at rest c IsAnswer x h stopped = (by (call_refusal old.mux.version (OfMux c) items) (early_refusal old.mux.version (OfMux c) items) h, stopped)
  where
    by : (refused early : Option Refusal) → AnswersBy old new items at rest (OfMux c) refused early IsAnswer (Ok x) → refused ≡ None
    by None early h = refl
    by (Some r) early h = absurd h

-- one that answers nothing more
pub done_applied : (old new : EndpointValue) (items : List EndItem) (at : ℕ) (rest : List ℕ) (call : Call) (made : EndCall) → made_by call ≡ Some made → reply_to old.mux.version call items ≡ refused_or (call_refusal old.mux.version made items) reply.Done
    → (answer : Result (Unit {0}) CallFault) (result : Result Reply CallFault) → Gives (λ _. reply.Done) answer result → Answers old new items at rest made (λ _. Unit {0}) answer → Applies old new items at rest call (as_reply result)
done_applied old new items at rest call made made_is reply_is = applied old new items at rest call made (λ (_ : Unit {0}). Unit {0}) (λ _. reply.Done) reply.Done made_is reply_is (λ x h. refl) (λ x. refl)
