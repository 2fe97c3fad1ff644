-- What a step of the multiplexing end makes of an end with connections.
use Rattle.std.specs.Prelude.{◌+◌, ◌≤◌, drop, length, Bool, false, Option, Some, None}
use Rattle.std.proofs.Common.{◌≡◌, ℕ, List, ◌∷◌, refl, sym, ◌∙◌, ap, subst, arith, length-drop}
use Rattle.wire_base.specs.declared.frame.Version.{Version}
use Rattle.wire_base.specs.declared.state.Cause.{Cause}
use Rattle.wire_base.specs.declared.state.EndState.TheVariants as state
use Rattle.mux_items.specs.declared.channel.ChannelKey.{ChannelKey}
use Rattle.mux_items.specs.declared.channel.MuxEvent.{MuxEvent}
use Rattle.mux_items.specs.declared.channel.MuxEvent.TheVariants as mux_event
use Rattle.mux_items.specs.declared.party.Party.{Party}
use Rattle.mux_items.specs.Applying.{event_of, item_of_frame}
use Rattle.mux_items.specs.Bodies.{FrameBody}
use Rattle.mux_items.specs.Items.{Item, Hello, ended}
use Rattle.mux_items.specs.Limits.{most_bytes}
use Rattle.mux_items.specs.Lists.{taken}
use Rattle.mux_items.specs.Views.{in_order}
use Rattle.mux_end.specs.declared.step.MuxStep.TheVariants as mux_step
use Rattle.mux_end.specs.Arrivals.{Arrival, Greets, Applies, Waits, Refuses, arrival}
use Rattle.mux_end.specs.Replies as mux
use Rattle.mux_end.specs.Stands.{EndValue, MuxStands}
use Rattle.endpoint_items.specs.Allowed.{AreAllowed}
use Rattle.endpoint_items.specs.Bytes.{consumed, rest_of}
use Rattle.endpoint_items.specs.Items.{EndItem, Mux, attached_keys, terms_of}
use Rattle.endpoint_items.specs.Layers.{mux_of, rpc_of}
use Rattle.endpoint.specs.declared.attached.Attached.{Attached}
use Rattle.endpoint_items.specs.declared.event.EndEvent.TheVariants as event
use Rattle.endpoint.specs.declared.step.EndStep.{EndStep}
use Rattle.endpoint.specs.declared.step.EndStep.TheVariants as step
use Rattle.endpoint.specs.Changes.{each_ended}
use Rattle.endpoint.specs.Replies.{Adds, FrameAnswers, Sends, StepAnswers}
use Rattle.endpoint.specs.Stands.{ConnectionStands, Stands}
use Rattle.endpoint.specs.Steps.{FollowAnswers, Follows, FromConnections, HasApplied}
use Rattle.endpoint.specs.Value.{EndpointValue, connection_at, value_in}
use Rattle.endpoint.proofs.Adding.{ends_all}
use Rattle.endpoint.proofs.Growing.{sends_more, sends_one}
use Rattle.endpoint.proofs.Places.{keys_of}
use Rattle.endpoint.proofs.Running.{running_state}
use Rattle.endpoint.proofs.Sending.{unstopped}
use Rattle.endpoint.proofs.Within.{applies_within, frame_taken, greets_within}

-- want of memory, whatever came
pub memory_lacks : (old new : EndpointValue) (items : List EndItem) (at : ℕ) (rest : List ℕ) (arrives : Arrival) → new.state ≡ state.Stopped → FrameAnswers old new items at rest arrives step.OutOfMemory
memory_lacks old new items at rest (Greets party size) e = e
memory_lacks old new items at rest (Applies key body size) e = e
memory_lacks old new items at rest Waits e = e
memory_lacks old new items at rest (Refuses place r) e = e

-- an end by which an item was applied in this version
record AppliedIn (v : Version) (end : EndpointValue) (items : List EndItem) (item : Item) (at : ℕ) (rest : List ℕ) : Type 0 where
  mux : MuxStands end.mux (item ∷ mux_of v items) at rest
  state : end.state ≡ end.mux.state
  connections : (c : ChannelKey) → ConnectionStands (connection_at c end.connections) (rpc_of v c items) (terms_of c items) (consumed c items) (rest_of v c items)
  keys : keys_of end.connections ≡ in_order (attached_keys items)
  allowed : AreAllowed v items
  taken_within : (c : ChannelKey) → length (taken v c (item ∷ mux_of v items)) ≤ at
  fed_within : at + length rest ≤ most_bytes

applied_by : (v : Version) (end : EndpointValue) (items : List EndItem) (item : Item) (at : ℕ) (rest : List ℕ) → end.mux.version ≡ v → AppliedIn v end items item at rest → HasApplied end items item at rest
applied_by v end items item at rest same a =
    subst (λ (w : Version). AppliedIn w end items item at rest → HasApplied end items item at rest) same
    (λ h. record { mux = h.mux; state = h.state; connections = h.connections; keys = h.keys; allowed = h.allowed; taken_within = h.taken_within; fed_within = h.fed_within }) a

module _ (m now : EndValue) (xs : List Attached) (stopped : Bool) (items : List EndItem) (at : ℕ) (rest : List ℕ) (s : Stands (value_in m xs stopped) items at rest) where
  abbrev old : EndpointValue
  old = value_in m xs stopped

  abbrev between : EndpointValue
  between = value_in now xs stopped

  abbrev before : List Item
  before = mux_of m.version items

  unstops : stopped ≡ false
  unstops = unstopped stopped m before at rest s.mux s.state

  -- the multiplexing end applied an item of so many bytes
  has_applied : (item : Item) (size : ℕ) → mux.Adds m now before (at + size) (drop size rest) item → ((c : ChannelKey) → length (taken m.version c (item ∷ before)) ≤ at + size) → size ≤ length rest
      → HasApplied between items item (at + size) (drop size rest)
  has_applied item size add within fits = applied_by m.version between items item (at + size) (drop size rest) add.terms.version (record {
    mux = add.stands;
    state = running_state stopped now unstops;
    connections = s.connections;
    keys = s.keys;
    allowed = s.allowed;
    taken_within = within;
    fed_within = omega (arith, s.fed_within, fits, length-drop size rest);
  })

  -- what follows it is done too
  after : (new : EndpointValue) (item : Item) (at' : ℕ) (rest' : List ℕ) → mux.Adds m now before at' rest' item → Follows between new items item at' rest' → Adds old new items at' rest' (Mux item)
  after new item at' rest' add f = record {
    stands = f.stands;
    sends = sends_more m.version before (item ∷ before) (mux_of m.version (Mux item ∷ items)) m.output now.output new.mux.output (sends_one m.version item before m.output now.output add.output)
        (subst (λ (v : Version). Sends v (item ∷ mux_of v items) (mux_of v (Mux item ∷ items)) now.output new.mux.output) add.terms.version f.sends);
    terms = record { version = f.terms.version ∙ add.terms.version; nonce = f.terms.nonce ∙ add.terms.nonce };
  }

  abbrev Follower : EndpointValue → MuxEvent → EndStep → Type 0
  Follower new happened result = (is : List EndItem) (item : Item) (n : ℕ) (bs : List ℕ) → HasApplied between is item n bs → event_of now.version item (mux_of now.version is) ≡ Some happened → FollowAnswers between new is item n bs happened result

  -- an event, and what it asks for
  pub event_answers : (new : EndpointValue) (happened : MuxEvent) (result : EndStep) → ended before ≡ None → mux.StepAnswers m now before at rest (ended before) (arrival m.version m.nonce before at rest) (mux_step.Event happened)
      → Follower new happened result → FrameAnswers old new items at rest (arrival m.version m.nonce before at rest) result
  event_answers new happened result runs h follow =
      by (arrival m.version m.nonce before at rest) refl (subst (λ o. mux.StepAnswers m now before at rest o (arrival m.version m.nonce before at rest) (mux_step.Event happened)) runs h)
    where
      same_version : (item : Item) (e : Option MuxEvent) (terms : mux.KeepsTerms m now) → event_of m.version item before ≡ e → event_of now.version item (mux_of now.version items) ≡ e
      same_version item e terms is = subst (λ (v : Version). event_of v item (mux_of v items) ≡ e) (sym terms.version) is

      greeted : (party : Party) (size : ℕ) → mux.Adds m now before (at + size) (drop size rest) (Hello party) → happened ≡ mux_event.Ready → (reply : EndStep)
          → FollowAnswers between new items (Hello party) (at + size) (drop size rest) happened reply → FrameAnswers old new items at rest (Greets party size) reply
      greeted party size add is (step.Event (event.Mux e)) f = (f.0 ∙ is, after new (Hello party) (at + size) (drop size rest) add f.1)
      greeted party size add is (step.Event (event.Rpc k e)) f = absurd f
      greeted party size add is (step.Event (event.RpcEnded k why)) f = absurd f
      greeted party size add is step.OutOfMemory f = f
      greeted party size add is step.Short f = absurd f
      greeted party size add is (step.Ended why) f = absurd f
      greeted party size add is step.Stopped f = absurd f

      applied : (key : ChannelKey) (body : FrameBody) (size : ℕ) → mux.Adds m now before (at + size) (drop size rest) (item_of_frame m.version at key body before)
          → Some happened ≡ event_of m.version (item_of_frame m.version at key body before) before → (reply : EndStep)
          → FollowAnswers between new items (item_of_frame m.version at key body before) (at + size) (drop size rest) happened reply → FrameAnswers old new items at rest (Applies key body size) reply
      applied key body size add is (step.Event (event.Mux e)) f = (ap Some f.0 ∙ is, after new (item_of_frame m.version at key body before) (at + size) (drop size rest) add f.1)
      applied key body size add is (step.Event (event.Rpc k e)) f = absurd f
      applied key body size add is (step.Event (event.RpcEnded k why)) f = absurd f
      applied key body size add is step.OutOfMemory f = f
      applied key body size add is step.Short f = absurd f
      applied key body size add is (step.Ended why) f = absurd f
      applied key body size add is step.Stopped f = absurd f

      by : (arrives : Arrival) → arrival m.version m.nonce before at rest ≡ arrives → mux.StepAnswers m now before at rest None arrives (mux_step.Event happened) → FrameAnswers old new items at rest arrives result
      by (Greets party size) e h =
          let within = greets_within m.version m.nonce before at rest party size e in
          let there = has_applied (Hello party) size h.1 (λ c. omega (arith, s.taken_within c)) within in
          greeted party size h.1 h.0 result (follow items (Hello party) (at + size) (drop size rest) there (same_version (Hello party) (Some happened) h.1.terms (ap Some (sym h.0))))
      by (Applies key body size) e h =
          let lies = applies_within m.version m.nonce before at rest key body size e in
          let item = item_of_frame m.version at key body before in
          let there = has_applied item size h.1 (λ c. omega (arith, s.taken_within c, frame_taken m.version c at key body before, lies.content)) lies.frame in
          applied key body size h.1 h.0 result (follow items item (at + size) (drop size rest) there (same_version item (Some happened) h.1.terms (sym h.0)))
      by Waits e h = absurd h
      by (Refuses place r) e h = absurd h

  -- nothing is whole
  pub short_answers : ended before ≡ None → mux.StepAnswers m now before at rest (ended before) (arrival m.version m.nonce before at rest) mux_step.Short → FrameAnswers old between items at rest (arrival m.version m.nonce before at rest) step.Short
  short_answers runs h = by (arrival m.version m.nonce before at rest) (subst (λ o. mux.StepAnswers m now before at rest o (arrival m.version m.nonce before at rest) mux_step.Short) runs h)
    where
      by : (arrives : Arrival) → mux.StepAnswers m now before at rest None arrives mux_step.Short → FrameAnswers old between items at rest arrives step.Short
      by Waits h = ap (λ (e : EndValue). value_in e xs stopped) h
      by (Greets party size) h = absurd h
      by (Applies key body size) h = absurd h
      by (Refuses place r) h = absurd h

  -- the end, for a frame that is refused
  pub end_answers : (why : Cause) → ended before ≡ None → mux.StepAnswers m now before at rest (ended before) (arrival m.version m.nonce before at rest) (mux_step.Ended why)
      → FrameAnswers old (value_in now (each_ended why xs) stopped) items at rest (arrival m.version m.nonce before at rest) (step.Ended why)
  end_answers why runs h = by (arrival m.version m.nonce before at rest) (subst (λ o. mux.StepAnswers m now before at rest o (arrival m.version m.nonce before at rest) (mux_step.Ended why)) runs h)
    where
      by : (arrives : Arrival) → mux.StepAnswers m now before at rest None arrives (mux_step.Ended why) → FrameAnswers old (value_in now (each_ended why xs) stopped) items at rest arrives (step.Ended why)
      by (Refuses place r) h = (h.0, ends_all old (value_in now (each_ended why xs) stopped) items at rest why s h.1 refl (running_state stopped now unstops))
      by Waits h = absurd h
      by (Greets party size) h = absurd h
      by (Applies key body size) h = absurd h

-- what connections make of an end is what its step answers
pub connections_answer : (old new : EndpointValue) (items : List EndItem) (at : ℕ) (rest : List ℕ) (next : Option EndItem) (reply : EndStep) → FromConnections old new items at rest next (Some reply) → StepAnswers old new items at rest None next reply
connections_answer old new items at rest (Some item) reply h = h
connections_answer old new items at rest None step.OutOfMemory h = memory_lacks old new items at rest (arrival old.mux.version old.mux.nonce (mux_of old.mux.version items) at rest) h
connections_answer old new items at rest None step.Short h = absurd h
connections_answer old new items at rest None step.Stopped h = absurd h
connections_answer old new items at rest None (step.Ended why) h = absurd h
connections_answer old new items at rest None (step.Event e) h = absurd h
