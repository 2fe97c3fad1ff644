-- What a running end makes of what arrives.
use Rattle.std.specs.Prelude.{ℕ, ◌+◌, ◌<◌, ◌≤◌, List, [], ◌++◌, length, nat_lt, take, drop, Bool, true, Option, Some, None, is_none, Result, Ok, Err}
use Rattle.std.proofs.Common.{◌≡◌, refl, sym, ◌∙◌, ap, ap₂, subst, arith, length-drop}
use Rattle.std.proofs.lemmas.List.{append-nil}
use Rattle.wire_base.specs.declared.reason.Reason.{Reason}
use Rattle.wire_base.specs.declared.state.Cause.{Cause}
use Rattle.wire_base.specs.declared.state.Cause.TheVariants.{Spent}
use Rattle.wire_base.specs.declared.state.EndState.{EndState}
use Rattle.wire_base.specs.declared.state.EndState.TheVariants as state
use Rattle.wire_base.specs.States.{state_by}
use Rattle.message_body.specs.AsRead.{AreMessages}
use Rattle.message_body.specs.Found.{body_in}
use Rattle.message_framing.specs.declared.front.Front.{Front}
use Rattle.message_framing.specs.declared.front.Front.TheVariants as fronts
use Rattle.message_framing.specs.Front.{front}
use Rattle.message_framing.proofs.FrontLemmas.{whole_within}
use Rattle.rpc_items.specs.declared.calls.RpcEvent.{RpcEvent}
use Rattle.rpc_items.specs.declared.messages.Message.{Message}
use Rattle.rpc_items.specs.Items.{RpcItem, Got, End, ended}
use Rattle.rpc_items.specs.Refusals.{message_refusal}
use Rattle.rpc_items.specs.Saying.{all_said, said}
use Rattle.rpc_items.specs.declared.calls.Outcome.TheVariants.{Lost}
use Rattle.call_table.specs.Table.{over}
use Rattle.call_table.proofs.After.{lost_after}
use Rattle.enumerables.specs.Producer.{all_ended}
use Rattle.enumerables.proofs.After.{ended_after, over_after}
use Rattle.marshalled_handles.specs.Holder as holders
use Rattle.marshalled_handles.specs.Owner as owners
use Rattle.marshalled_handles.proofs.After.{own_ended_after, peer_ended_after}
use Rattle.rpc_end.specs.declared.step.RpcStep.{RpcStep}
use Rattle.rpc_end.specs.declared.step.RpcStep.TheVariants as step
use Rattle.rpc_end.specs.Arrivals.{Arrival, Refuses, allowed_arrival, arrival, body_arrival, front_arrival}
use Rattle.rpc_end.specs.Ends.{with_applied, with_end}
use Rattle.rpc_end.specs.Heeding.{HasId, Steps, body_arrives, broken_by, front_arrives, said_by, with_heeded}
use Rattle.rpc_end.specs.Replies.{Adds, EndsBy, FeedAnswers, StepAnswers, is_spent, most_fed, refused_at}
use Rattle.rpc_end.specs.Stands.{RpcValue, RpcStands}
use Rattle.rpc_end.specs.Texts.{message_texts}
use Rattle.rpc_end.proofs.Heeded.{broken_is, event_is, said_is}
use Rattle.rpc_end.proofs.Kept.{holder_stands, owner_stands, table_stands}
use Rattle.rpc_end.proofs.Named.{has_id}
use Rattle.rpc_end.proofs.Said.{both_messages, named_then}
use Rattle.rpc_end.proofs.Sequences.{consumer_stands, producer_stands}

-- an end that runs stands for items with no end
runs : (cause : Option Cause) → state.Running ≡ state_by cause → cause ≡ None
runs None e = refl
runs (Some cause) e = absurd (cc e)

stops_not : (cause : Option Cause) → state.Stopped ≡ state_by cause → ⊥
stops_not None e = cc e
stops_not (Some cause) e = cc e

-- an end that stands for items isn't stopped
pub never_stopped : (old : RpcValue) (items : List RpcItem) (at : ℕ) (rest : List ℕ) → RpcStands old items at rest → old.state ≡ state.Stopped → ⊥
never_stopped old items at rest s is = stops_not (ended items) (sym is ∙ s.state)

ended_by : (old : RpcValue) (items : List RpcItem) (at : ℕ) (rest : List ℕ) (arrives : Arrival) (c : Cause) (cause : Option Cause) → state.Ended c ≡ state_by cause → StepAnswers old old items at rest cause arrives (step.Ended c)
ended_by old items at rest arrives c None e = absurd (cc e)
ended_by old items at rest arrives c (Some cause) e = (cc, refl)

-- a step of an end that has ended
pub ended_answers : (old : RpcValue) (items : List RpcItem) (at : ℕ) (rest : List ℕ) (arrives : Arrival) (c : Cause) → RpcStands old items at rest → old.state ≡ state.Ended c → StepAnswers old old items at rest (ended items) arrives (step.Ended c)
ended_answers old items at rest arrives c s is = ended_by old items at rest arrives c (ended items) (sym is ∙ s.state)

module _ (old : RpcValue) (items : List RpcItem) (at : ℕ) (rest : List ℕ) (s : RpcStands old items at rest) (run : old.state ≡ state.Running) where
  going : ended items ≡ None
  going = runs (ended items) (sym run ∙ s.state)

  running : is_none (ended items) ≡ true
  running = ap is_none going

  -- the end

  ended_adds : (c : Cause) → Adds old (with_end c old) items at rest (End c)
  ended_adds c = record {
    stands = record {
      table = lost_after old.table (over Lost old.table) items c refl s.table;
      producer = ended_after c old.producer (all_ended old.producer) items refl s.producer;
      consumer = over_after c old.consumer [] items refl s.consumer;
      owner = own_ended_after c old.owner (owners.all_ended old.owner) items refl s.owner;
      holder = peer_ended_after c old.holder (holders.all_ended old.holder) items refl s.holder;
      at_is = s.at_is;
      rest_is = s.rest_is;
      state = refl;
      allowed = (running, s.allowed);
      said = both_messages (all_said items) [] s.said tt;
      named = s.named;
    };
    output = sym (append-nil old.output);
    terms_stay = refl;
  }

  ends : (new : RpcValue) (c : Cause) → new ≡ with_end c old → Adds old new items at rest (End c)
  ends new c is = subst (λ (n : RpcValue). Adds old n items at rest (End c)) (sym is) (ended_adds c)

  pub ends_by : (new : RpcValue) (c : Cause) → new ≡ with_end c old → EndsBy old new items at rest c (ended items)
  ends_by new c is = subst (λ (o : Option Cause). EndsBy old new items at rest c o) (sym going) (ends new c is)

  -- more was fed than may be
  pub ends_spent : (new : RpcValue) (piece : List ℕ) (now : EndState) → nat_lt most_fed (old.at + length old.rest + length piece) ≡ true → now ≡ new.state → new ≡ with_end Spent old → FeedAnswers old new items at rest piece (ended items) (is_spent at rest piece) (Ok now)
  ends_spent new piece now spent state_is is =
      let too_much : is_spent at rest piece ≡ true = sym (ap₂ (λ (n : ℕ) (bytes : List ℕ). nat_lt most_fed (n + length bytes + length piece)) s.at_is s.rest_is) ∙ spent in
      subst (λ (o : Option Cause). FeedAnswers old new items at rest piece o (is_spent at rest piece) (Ok now)) (sym going)
      (subst (λ (b : Bool). FeedAnswers old new items at rest piece None b (Ok now)) (sym too_much) (state_is ∙ ap (λ (e : RpcValue). e.state) is, ends new Spent is))

  -- a message that no rule refuses

  applied : (place size : ℕ) (m : Message) → message_refusal m items ≡ None → HasId m → AreMessages (said_by m old) → Adds old (with_applied size (with_heeded m old)) items (at + size) (drop size rest) (Got place m)
  applied place size m ok has says = record {
    stands = record {
      table = table_stands old items at rest s place m ok;
      producer = producer_stands old.producer items s.producer place m;
      consumer = consumer_stands old.table old.consumer items s.table s.consumer place m;
      owner = owner_stands old items at rest s place m;
      holder = holder_stands old items at rest s place m;
      at_is = ap (λ n. n + size) s.at_is;
      rest_is = ap (drop size) s.rest_is;
      state = s.state;
      allowed = ((running, ok), s.allowed);
      said = both_messages (all_said items) (said (Got place m) items) s.said (subst AreMessages (sym (said_is old items at rest s place m)) says);
      named = named_then place m items has s.named;
    };
    output = ap (λ (ms : List Message). old.output ++ message_texts old.terms ms) (sym (said_is old items at rest s place m));
    terms_stay = refl;
  }

  module _ (new : RpcValue) where
    by_message : (m : Message) (place place' size : ℕ) (broken : Option Reason) (result : RpcStep) → place ≡ place' → message_refusal m items ≡ broken → HasId m → Steps old new (allowed_arrival place m size broken) result
        → StepAnswers old new items at rest None (allowed_arrival place' m size broken) result
    by_message m place place' size None (step.Event e) same ok has h =
        (h.0 ∙ event_is old items at rest s m, subst (λ (n : RpcValue). Adds old n items (at + size) (drop size rest) (Got place' m)) (sym h.1) (applied place' size m ok has h.2))
    by_message m place place' size None step.OutOfMemory same ok has h = h.0
    by_message m place place' size None step.Short same ok has h = absurd h
    by_message m place place' size None (step.Ended c) same ok has h = absurd h
    by_message m place place' size None step.Stopped same ok has h = absurd h
    by_message m place place' size (Some r) (step.Ended c) same ok has h = (h.0 ∙ ap (λ n. refused_at n r) same, ends new c h.1)
    by_message m place place' size (Some r) step.OutOfMemory same ok has h = h.0
    by_message m place place' size (Some r) (step.Event e) same ok has h = absurd h
    by_message m place place' size (Some r) step.Short same ok has h = absurd h
    by_message m place place' size (Some r) step.Stopped same ok has h = absurd h

    by_refusal : (place place' : ℕ) (r : Reason) (result : RpcStep) → place ≡ place' → Steps old new (Refuses place r) result → StepAnswers old new items at rest None (Refuses place' r) result
    by_refusal place place' r (step.Ended c) same h = (h.0 ∙ ap (λ n. refused_at n r) same, ends new c h.1)
    by_refusal place place' r step.OutOfMemory same h = h.0
    by_refusal place place' r (step.Event e) same h = absurd h
    by_refusal place place' r step.Short same h = absurd h
    by_refusal place place' r step.Stopped same h = absurd h

    by_body : (found : Result Message (ℕ × Reason)) (start size : ℕ) (result : RpcStep) → ((m : Message) → found ≡ Ok m → HasId m) → Steps old new (body_arrives old (old.at + start) size found) result → StepAnswers old new items at rest None (body_arrival items (at + start) size found) result
    by_body (Ok m) start size result has h =
        let broken = broken_is old items at rest s m in
        by_message m (old.at + start) (at + start) size (message_refusal m items) result (ap (λ n. n + start) s.at_is) refl (has m refl)
        (subst (λ (b : Option Reason). Steps old new (allowed_arrival (old.at + start) m size b) result) broken h)
    by_body (Err broken) start size result has h = by_refusal (old.at + start + broken.0) (at + start + broken.0) broken.1 result (ap (λ n. n + start + broken.0) s.at_is) h

    by_front : (f : Front) (result : RpcStep) → Steps old new (front_arrives old f) result → StepAnswers old new items at rest None (front_arrival old.terms items at old.rest f) result
    by_front (fronts.Whole start size) result h =
        let body = take size (drop start old.rest) in
        by_body (body_in old.terms.encoding body) start (start + size) result (λ m. has_id old.terms.encoding body m) h
    by_front fronts.Short step.Short h = h
    by_front fronts.Short step.OutOfMemory h = h.0
    by_front fronts.Short (step.Event e) h = absurd h
    by_front fronts.Short (step.Ended c) h = absurd h
    by_front fronts.Short step.Stopped h = absurd h
    by_front (fronts.Broken offset r) result h = by_refusal (old.at + offset) (at + offset) r result (ap (λ n. n + offset) s.at_is) h

  -- a step of a running end
  pub step_answers : (new : RpcValue) (result : RpcStep) → Steps old new (front_arrives old (front old.terms.framing old.rest)) result → StepAnswers old new items at rest (ended items) (arrival old.terms items at rest) result
  step_answers new result h =
      subst (λ (o : Option Cause). StepAnswers old new items at rest o (arrival old.terms items at rest) result) (sym going)
      (subst (λ bytes. StepAnswers old new items at rest None (front_arrival old.terms items at bytes (front old.terms.framing bytes)) result) s.rest_is
      (by_front new (front old.terms.framing old.rest) result h))

-- an event takes bytes

message_shortens : (old new : RpcValue) (place size : ℕ) (m : Message) (broken : Option Reason) (e : RpcEvent) → (0 < size) × (size ≤ length old.rest) → Steps old new (allowed_arrival place m size broken) (step.Event e) → length new.rest < length old.rest
message_shortens old new place size m None e within h =
    let left : new.rest ≡ drop size old.rest = ap (λ (n : RpcValue). n.rest) h.1 in
    omega (arith, ap length left, length-drop size old.rest)
message_shortens old new place size m (Some r) e within h = absurd h

body_shortens : (old new : RpcValue) (place size : ℕ) (found : Result Message (ℕ × Reason)) (e : RpcEvent) → (0 < size) × (size ≤ length old.rest) → Steps old new (body_arrives old place size found) (step.Event e) → length new.rest < length old.rest
body_shortens old new place size (Ok m) e within h = message_shortens old new place size m (broken_by m old.table) e within h
body_shortens old new place size (Err broken) e within h = absurd h

front_shortens : (old new : RpcValue) (f : Front) (e : RpcEvent) → front old.terms.framing old.rest ≡ f → Steps old new (front_arrives old f) (step.Event e) → length new.rest < length old.rest
front_shortens old new (fronts.Whole start size) e is h =
    let within = whole_within old.terms.framing old.rest start size is in
    body_shortens old new (old.at + start) (start + size) (body_in old.terms.encoding (take size (drop start old.rest))) e (omega (arith, within.0), within.1) h
front_shortens old new fronts.Short e is h = absurd h
front_shortens old new (fronts.Broken offset r) e is h = absurd h

pub event_shortens : (old new : RpcValue) (result : RpcStep) (e : RpcEvent) → result ≡ step.Event e → Steps old new (front_arrives old (front old.terms.framing old.rest)) result → length new.rest < length old.rest
event_shortens old new result e is h = front_shortens old new (front old.terms.framing old.rest) e refl (subst (λ (r : RpcStep). Steps old new (front_arrives old (front old.terms.framing old.rest)) r) is h)
