-- What the messages of connections add to an end.
use Rattle.std.specs.Prelude.{zero, suc, ◌<◌, if◌then◌else◌, ◌&&◌, Bool, true, false, is_none, drop, set, get_or, IfOk, Option, Some, None, Result, Ok, Err}
use Rattle.std.proofs.Common.{◌≡◌, ℕ, ◌+◌, List, [], ◌∷◌, ◌++◌, length, refl, sym, ◌∙◌, ap, subst, arith}
use Rattle.std.proofs.lemmas.List.{drop-drop, set-get_or, set-set}
use Rattle.wire_base.specs.declared.frame.Version.{Version}
use Rattle.wire_base.specs.declared.out_of_memory.OutOfMemory.{OutOfMemory}
use Rattle.wire_base.specs.declared.reason.Reason.{Reason}
use Rattle.wire_base.specs.declared.state.Cause.{Cause}
use Rattle.wire_base.specs.declared.state.Cause.TheVariants as cause
use Rattle.wire_base.specs.declared.state.EndState.TheVariants as state
use Rattle.mux_items.specs.declared.call.Call.TheVariants as call
use Rattle.mux_items.specs.declared.channel.ChannelKey.{ChannelKey}
use Rattle.mux_items.specs.Applying.{place_at}
use Rattle.mux_items.specs.Bodies.{same_key}
use Rattle.mux_items.specs.Calls.{called}
use Rattle.mux_items.specs.Items.{Item, End}
use Rattle.mux_items.proofs.Keys.{same_key_refl}
use Rattle.mux_end.specs.Arrivals.{refused_at}
use Rattle.mux_end.specs.Stands.{EndValue, MuxStands}
use Rattle.rpc_items.specs.declared.calls.RpcEvent.{RpcEvent}
use Rattle.rpc_items.specs.declared.messages.Message.{Message}
use Rattle.rpc_items.specs.Events as events
use Rattle.rpc_items.specs.Items as rpc
use Rattle.rpc_items.specs.Saying.{said}
use Rattle.rpc_end.specs.declared.step.RpcStep.{RpcStep}
use Rattle.rpc_end.specs.declared.step.RpcStep.TheVariants as rpc_step
use Rattle.rpc_end.specs.declared.terms.Terms.{Terms}
use Rattle.rpc_end.specs.Arrivals.{Arrival, Applies, Waits, Refuses, arrival, begins_message}
use Rattle.rpc_end.specs.Ends.{with_output}
use Rattle.rpc_end.specs.Replies as rpc_end
use Rattle.rpc_end.specs.Stands.{RpcValue, RpcStands}
use Rattle.rpc_end.specs.Texts.{message_texts}
use Rattle.endpoint_items.specs.Allowed.{Arrives}
use Rattle.endpoint_items.specs.Arriving.{arrival_on, has_message, item_of_arrival, lacks_room}
use Rattle.endpoint_items.specs.Calls.{is_spent_on}
use Rattle.endpoint_items.specs.Bytes.{consumed, joined, rest_of}
use Rattle.endpoint_items.specs.Connections.{Connection, is_attached, items_of, end_for, with_item}
use Rattle.endpoint_items.specs.Following.{followed, write_said}
use Rattle.endpoint_items.specs.Items.{EndItem, Mux, GotMessage, RefusedMessage, terms_of}
use Rattle.endpoint_items.specs.Layers.{mux_of, rpc_of}
use Rattle.endpoint_items.proofs.Usable.{running_none}
use Rattle.endpoint.specs.declared.attached.Attached.{Attached}
use Rattle.endpoint_items.specs.declared.event.EndEvent.TheVariants as event
use Rattle.endpoint.specs.declared.step.EndStep.{EndStep}
use Rattle.endpoint.specs.declared.step.EndStep.TheVariants as step
use Rattle.endpoint.specs.Changes.{Moves}
use Rattle.endpoint.specs.Replies.{Adds, MessageAnswers}
use Rattle.endpoint.specs.Sending as sending
use Rattle.endpoint.specs.Stands.{ConnectionStands, IsConnection, Stands}
use Rattle.endpoint.specs.Steps.{ClosesAt, FromConnections, MovesAlone, SaidAnswers}
use Rattle.endpoint.specs.Value.{AreOfOne, EndpointValue, connection_at, value_in}
use Rattle.endpoint.proofs.Frames.{IsHeld}
use Rattle.endpoint.proofs.OnChannel.{IsApart, adds_on, followed_taken}
use Rattle.endpoint.proofs.Places.{IsAt, at_index, keys_of}
use Rattle.endpoint.proofs.Running.{running_state}
use Rattle.endpoint.proofs.Sending.{at_set, read_at, unstopped}

-- want of memory, whatever a message would have made
pub starves : (old new : EndpointValue) (items : List EndItem) (at : ℕ) (rest : List ℕ) (next : Option EndItem) → new.state ≡ state.Stopped → FromConnections old new items at rest next (Some step.OutOfMemory)
starves old new items at rest None e = e
starves old new items at rest (Some item) e = by item
  where
    by_mux : (item : Item) → MessageAnswers old new items at rest (Mux item) step.OutOfMemory
    by_mux (End why) = e
    by_mux item = e

    by : (item : EndItem) → MessageAnswers old new items at rest item step.OutOfMemory
    by (GotMessage c place size message) = e
    by (RefusedMessage c place reason) = e
    by (Mux item) = by_mux item
    by item = e

-- an attached connection
pub attached_held : (end : RpcValue) (connection : Connection) (terms : Terms) (at : ℕ) (rest : List ℕ) → ConnectionStands (Some end) connection terms at rest → is_attached connection ≡ true → IsHeld end connection terms at rest
attached_held end (Some items) terms at rest c e = record { items = items; is = refl; stands = c; runs = running_none (rpc.ended items) e }
attached_held end None terms at rest c e = absurd c

module _ (old new : EndpointValue) (items : List EndItem) (at : ℕ) (rest : List ℕ) (c : ChannelKey) (end mid : RpcValue) (s : Stands old items at rest)
    (holds : IsHeld end (rpc_of old.mux.version c items) (terms_of c items) (consumed c items) (rest_of old.mux.version c items)) where
  got_apart : (d : ChannelKey) (place size : ℕ) (message : Message) → same_key c d ≡ false → IsApart old.mux.version d (GotMessage c place size message) items
  got_apart d place size message differs =
      let v = old.mux.version in
      record {
        rpc = ap (λ b. if b then with_item (rpc.Got place message) (rpc_of v d items) else rpc_of v d items) differs;
        terms = refl;
        consumed = ap (λ b. if b then consumed d items + size else consumed d items) differs;
        rest = ap (λ b. drop (if b then consumed d items + size else consumed d items) (joined v d items)) differs;
      }

  refused_apart : (d : ChannelKey) (place : ℕ) (r : Reason) → same_key c d ≡ false → IsApart old.mux.version d (RefusedMessage c place r) items
  refused_apart d place r differs =
      let v = old.mux.version in
      record { rpc = ap (λ b. if b then end_for (Some (cause.Refused (place_at place) r)) (rpc_of v d items) else rpc_of v d items) differs; terms = refl; consumed = refl; rest = refl }

  -- a message that is applied
  module _ (place size : ℕ) (message : Message) (adds : rpc_end.Adds end mid holds.items (consumed c items + size) (drop size (rest_of old.mux.version c items)) (rpc.Got place message)) where
    got_stands : IsConnection (terms_of c items) (rpc.Got place message ∷ holds.items) (consumed c items + size) (drop (consumed c items + size) (joined old.mux.version c items)) (with_output [] mid)
    got_stands =
        let bytes = joined old.mux.version c items in
        record {
          stands = record {
            table = adds.stands.table;
            producer = adds.stands.producer;
            consumer = adds.stands.consumer;
            owner = adds.stands.owner;
            holder = adds.stands.holder;
            at_is = adds.stands.at_is;
            rest_is = adds.stands.rest_is ∙ drop-drop size (consumed c items) bytes;
            state = adds.stands.state;
            allowed = adds.stands.allowed;
            said = adds.stands.said;
            named = adds.stands.named;
          };
          terms_are = adds.terms_stay ∙ holds.stands.terms_are;
          written = refl;
        }

    -- what it makes the connection say
    pub got_says : mid.output ≡ message_texts (terms_of c items) (said (rpc.Got place message) (items_of (rpc_of old.mux.version c items)))
    got_says =
        adds.output ∙ (ap (λ bs. bs ++ message_texts end.terms (said (rpc.Got place message) holds.items)) holds.stands.written
        ∙ (ap (λ t. message_texts t (said (rpc.Got place message) holds.items)) holds.stands.terms_are
        ∙ ap (λ x. message_texts (terms_of c items) (said (rpc.Got place message) (items_of x))) (sym holds.is)))

    got_connection : ConnectionStands (Some (with_output [] mid)) (rpc_of old.mux.version c (GotMessage c place size message ∷ items)) (terms_of c items) (consumed c (GotMessage c place size message ∷ items))
        (rest_of old.mux.version c (GotMessage c place size message ∷ items))
    got_connection =
        let v = old.mux.version in
        let x = rpc_of v c items in
        subst (λ b. ConnectionStands (Some (with_output [] mid)) (if b then with_item (rpc.Got place message) x else x) (terms_of c items) (if b then consumed c items + size else consumed c items)
        (drop (if b then consumed c items + size else consumed c items) (joined v c items))) (sym (same_key_refl c))
        (subst (λ y. ConnectionStands (Some (with_output [] mid)) (with_item (rpc.Got place message) y) (terms_of c items) (consumed c items + size) (drop (consumed c items + size) (joined v c items))) (sym holds.is) got_stands)

    pub got_adds : Arrives old.mux.version c (Applies place message size) items
        → Moves old.mux new.mux (mux_of old.mux.version items) (mux_of old.mux.version (GotMessage c place size message ∷ items)) at rest → new.state ≡ new.mux.state → keys_of new.connections ≡ keys_of old.connections
        → connection_at c new.connections ≡ Some (with_output [] mid) → ((d : ChannelKey) → same_key c d ≡ false → connection_at d new.connections ≡ connection_at d old.connections)
        → Adds old new items at rest (GotMessage c place size message)
    got_adds arrives moves state_is keys found same =
        let v = old.mux.version in
        let m = mux_of v items in
        adds_on old new items at rest (GotMessage c place size message) c (with_output [] mid) s moves state_is (keys ∙ s.keys) found same got_connection (λ d differs. got_apart d place size message differs) arrives
        (λ d. followed_taken v d (write_said c (terms_of c items) (said (rpc.Got place message) (items_of (rpc_of v c items))) m) m)

  -- a message that is refused
  module _ (place : ℕ) (r : Reason) (adds : rpc_end.Adds end mid holds.items (consumed c items) (rest_of old.mux.version c items) (rpc.End (refused_at place r))) where
    refused_stands : IsConnection (terms_of c items) (rpc.End (refused_at place r) ∷ holds.items) (consumed c items) (rest_of old.mux.version c items) mid
    refused_stands = record {
      stands = adds.stands;
      terms_are = adds.terms_stay ∙ holds.stands.terms_are;
      written = adds.output ∙ ap (λ bs. bs ++ []) holds.stands.written;
    }

    refused_connection : ConnectionStands (Some mid) (rpc_of old.mux.version c (RefusedMessage c place r ∷ items)) (terms_of c items) (consumed c items) (rest_of old.mux.version c items)
    refused_connection =
        let v = old.mux.version in
        let x = rpc_of v c items in
        let why = refused_at place r in
        let attached : is_attached (Some holds.items) ≡ true = ap is_none holds.runs in
        subst (λ b. ConnectionStands (Some mid) (if b then end_for (Some why) x else x) (terms_of c items) (consumed c items) (rest_of v c items)) (sym (same_key_refl c))
        (subst (λ y. ConnectionStands (Some mid) (end_for (Some why) y) (terms_of c items) (consumed c items) (rest_of v c items)) (sym holds.is)
        (subst (λ b. ConnectionStands (Some mid) (if b then Some (rpc.End why ∷ holds.items) else Some holds.items) (terms_of c items) (consumed c items) (rest_of v c items)) (sym attached) refused_stands))

    pub refused_adds : Arrives old.mux.version c (Refuses place r) items
        → Moves old.mux new.mux (mux_of old.mux.version items) (mux_of old.mux.version (RefusedMessage c place r ∷ items)) at rest → new.state ≡ new.mux.state → keys_of new.connections ≡ keys_of old.connections
        → connection_at c new.connections ≡ Some mid → ((d : ChannelKey) → same_key c d ≡ false → connection_at d new.connections ≡ connection_at d old.connections)
        → Adds old new items at rest (RefusedMessage c place r)
    refused_adds arrives moves state_is keys found same =
        let v = old.mux.version in
        let m = mux_of v items in
        adds_on old new items at rest (RefusedMessage c place r) c mid s moves state_is (keys ∙ s.keys) found same refused_connection (λ d differs. refused_apart d place r differs) arrives
        (λ d. followed_taken v d (call.Terminate c ∷ []) m)

pub slice_of : (xs : List Attached) (place : ℕ) (x : Attached) → place < length xs → x ≡ get_or xs place x → sending.IsAt xs place x
slice_of [] place x within is = absurd (omega arith)
slice_of (z ∷ zs) zero x within is = ap Some (sym is)
slice_of (z ∷ zs) (suc place) x within is = slice_of zs place x (omega arith) is

-- what a step of the connection at a place makes of the end
module _ (mux : EndValue) (xs : List Attached) (stopped : Bool) (place : ℕ) (x : Attached) (mid : RpcValue) (new : EndpointValue) (items : List EndItem) (at : ℕ) (rest : List ℕ)
    (within : place < length xs) (one : AreOfOne xs) (is : x ≡ get_or xs place x) (s : Stands (value_in mux xs stopped) items at rest)
    (attached : is_attached (rpc_of mux.version x.key items) ≡ true) (room : lacks_room mux.version x.key items ≡ false) where
  abbrev c : ChannelKey
  c = x.key

  abbrev old : EndpointValue
  old = value_in mux xs stopped

  abbrev y : Attached
  y = record x { end = mid }

  abbrev between : EndpointValue
  between = value_in mux (set xs place y) stopped

  here : IsAt c xs place x
  here = at_index xs place x within is one

  abbrev Answered : RpcStep → Type 0
  Answered reply = (ys : List rpc.RpcItem) (n : ℕ) (bs : List ℕ) → RpcStands x.end ys n bs → rpc_end.StepAnswers x.end mid ys n bs (rpc.ended ys) (arrival x.end.terms ys n bs) reply

  holds : IsHeld x.end (rpc_of mux.version c items) (terms_of c items) (consumed c items) (rest_of mux.version c items)
  holds = attached_held x.end (rpc_of mux.version c items) (terms_of c items) (consumed c items) (rest_of mux.version c items)
      (subst (λ o. ConnectionStands o (rpc_of mux.version c items) (terms_of c items) (consumed c items) (rest_of mux.version c items)) here.found (s.connections c)) attached

  abbrev Replies : Arrival → RpcStep → Type 0
  Replies arrives reply = rpc_end.StepAnswers x.end mid holds.items (consumed c items) (rest_of mux.version c items) None arrives reply

  replied : (reply : RpcStep) → Answered reply → Replies (arrival_on mux.version c items) reply
  replied reply answers =
      let n = consumed c items in
      let bs = rest_of mux.version c items in
      subst (λ o. rpc_end.StepAnswers x.end mid holds.items n bs None (arrival (terms_of c items) (items_of o) n bs) reply) (sym holds.is)
      (subst (λ t. rpc_end.StepAnswers x.end mid holds.items n bs None (arrival t holds.items n bs) reply) holds.stands.terms_are
      (subst (λ o. rpc_end.StepAnswers x.end mid holds.items n bs o (arrival x.end.terms holds.items n bs) reply) holds.runs (answers holds.items n bs holds.stands.stands)))

  arrived : (arrives : Arrival) → arrival_on mux.version c items ≡ arrives → Arrives mux.version c arrives items
  arrived arrives e = record { attached = attached; room = room; stands = e }

  -- the others stay where the connection changes
  others : (end : RpcValue) (d : ChannelKey) → same_key c d ≡ false → connection_at d (set xs place (record x { end = end })) ≡ connection_at d xs
  others end d differs = here.changes (record x { end = end }) refl d ∙ ap (λ b. if b then Some end else connection_at d xs) differs

  found : (end : RpcValue) → connection_at c (set xs place (record x { end = end })) ≡ Some end
  found end = here.changes (record x { end = end }) refl c ∙ ap (λ b. if b then Some end else connection_at c xs) (same_key_refl c)

  -- it waits
  pub waits_answers : Answered rpc_step.Short
      → FromConnections old between items at rest (item_of_arrival c (arrival_on mux.version c items)) None
  waits_answers answers = by (arrival_on mux.version c items) (replied rpc_step.Short answers)
    where
      by : (arrives : Arrival) → Replies arrives rpc_step.Short → FromConnections old between items at rest (item_of_arrival c arrives) None
      by Waits h = ap (λ (e : RpcValue). value_in mux (set xs place (record x { end = e })) stopped) h ∙ ap (λ zs. value_in mux zs stopped) (here_same)
        where
          here_same : set xs place x ≡ xs
          here_same = ap (set xs place) is ∙ set-get_or xs place x
      by (Applies p message size) h = absurd h
      by (Refuses p r) h = absurd h

  -- it applied a message
  pub event_answers : (happened : RpcEvent) (result : EndStep)
      → Answered (rpc_step.Event happened)
      → SaidAnswers between new place c happened result → FromConnections old new items at rest (item_of_arrival c (arrival_on mux.version c items)) (Some result)
  event_answers happened result answers = by (arrival_on mux.version c items) refl (replied (rpc_step.Event happened) answers) result
    where
      by : (arrives : Arrival) → arrival_on mux.version c items ≡ arrives → Replies arrives (rpc_step.Event happened) → (result : EndStep) → SaidAnswers between new place c happened result → FromConnections old new items at rest (item_of_arrival c arrives) (Some result)
      by Waits e h result t = absurd h
      by (Refuses p r) e h result t = absurd h
      by (Applies p message size) e h step.OutOfMemory t = t
      by (Applies p message size) e h step.Short t = absurd t
      by (Applies p message size) e h (step.Ended why) t = absurd t
      by (Applies p message size) e h step.Stopped t = absurd t
      by (Applies p message size) e h (step.Event (event.Mux k)) t = absurd t
      by (Applies p message size) e h (step.Event (event.RpcEnded k why)) t = absurd t
      by (Applies p message size) e h (step.Event (event.Rpc k told)) t =
          let v = mux.version in
          let m = mux_of v items in
          let messages = said (rpc.Got p message) (items_of (rpc_of v c items)) in
          let w : sending.Writes between new place y m (followed v (write_said c (terms_of c items) messages m) m) at rest =
          t.2 m at rest y (terms_of c items) messages s.mux s.state (at_set xs place x y (slice_of xs place x within is)) (got_says old new items at rest c x.end mid s holds p size message h.1) in
          let sets : new.connections ≡ set xs place (record x { end = with_output [] mid }) = w.connections ∙ set-set xs place y (record x { end = with_output [] mid }) in (
            t.0,
            t.1 ∙ (h.0 ∙ ap (λ o. events.event_of message (items_of o)) (sym holds.is)),
            got_adds old new items at rest c x.end mid s holds p size message h.1 (arrived (Applies p message size) e) w.moves w.state
                (ap keys_of sets ∙ here.keys (record x { end = with_output [] mid }) refl) (ap (connection_at c) sets ∙ found (with_output [] mid)) (λ d differs. ap (connection_at d) sets ∙ others (with_output [] mid) d differs),
          )

  -- it refused one
  pub refusal_answers : (why : Cause) (result : EndStep)
      → Answered (rpc_step.Ended why)
      → ((m : List Item) (n : ℕ) (bs : List ℕ) → MuxStands mux m n bs → between.state ≡ mux.state → ClosesAt between new c why m n bs result) → FromConnections old new items at rest (item_of_arrival c (arrival_on mux.version c items)) (Some result)
  refusal_answers why result answers closes = by (arrival_on mux.version c items) refl (replied (rpc_step.Ended why) answers) result (closes (mux_of mux.version items) at rest s.mux s.state)
    where
      by : (arrives : Arrival) → arrival_on mux.version c items ≡ arrives → Replies arrives (rpc_step.Ended why) → (result : EndStep) → ClosesAt between new c why (mux_of mux.version items) at rest result → FromConnections old new items at rest (item_of_arrival c arrives) (Some result)
      by Waits e h result t = absurd h
      by (Applies p message size) e h result t = absurd h
      by (Refuses p r) e h step.OutOfMemory t = t
      by (Refuses p r) e h step.Short t = absurd t
      by (Refuses p r) e h (step.Ended k) t = absurd t
      by (Refuses p r) e h step.Stopped t = absurd t
      by (Refuses p r) e h (step.Event (event.Mux k)) t = absurd t
      by (Refuses p r) e h (step.Event (event.Rpc k told)) t = absurd t
      by (Refuses p r) e h (step.Event (event.RpcEnded k told)) t =
          let adds = subst (λ q. rpc_end.Adds x.end mid holds.items (consumed c items) (rest_of mux.version c items) (rpc.End q)) h.0 h.1 in
          let sets : new.connections ≡ set xs place y = t.2.connections in (
            t.0,
            t.1 ∙ h.0,
            refused_adds old new items at rest c x.end mid s holds p r adds (arrived (Refuses p r) e) t.2.moves t.2.state
                (ap keys_of sets ∙ here.keys y refl) (ap (connection_at c) sets ∙ found mid) (λ d differs. ap (connection_at d) sets ∙ others mid d differs),
          )

-- so of the end as it is seen outside, and of the connection as it is found there
pub seen : (old now new : EndpointValue) (place : ℕ) (x attached : Attached) (items : List EndItem) (at : ℕ) (rest : List ℕ) (reply : Option EndStep) → old ≡ now → x ≡ get_or old.connections place x → place < length now.connections
    → sending.IsAt now.connections place attached → Stands now items at rest → is_attached (rpc_of now.mux.version attached.key items) ≡ true → lacks_room now.mux.version attached.key items ≡ false
    → (place < length old.connections → Stands old items at rest → is_attached (rpc_of old.mux.version x.key items) ≡ true → lacks_room old.mux.version x.key items ≡ false
    → FromConnections old new items at rest (item_of_arrival x.key (arrival_on old.mux.version x.key items)) reply)
    → FromConnections now new items at rest (item_of_arrival attached.key (arrival_on now.mux.version attached.key items)) reply
seen old now new place x attached items at rest reply same is within here s runs room answers =
    subst (λ (e : EndpointValue). place < length e.connections → sending.IsAt e.connections place attached → Stands e items at rest → is_attached (rpc_of e.mux.version attached.key items) ≡ true → lacks_room e.mux.version attached.key items ≡ false
    → FromConnections e new items at rest (item_of_arrival attached.key (arrival_on e.mux.version attached.key items)) reply) same
    (λ within here s runs room.
    let found : x ≡ attached = read_at old.connections place x attached within is here in
    subst (λ (a : Attached). FromConnections old new items at rest (item_of_arrival a.key (arrival_on old.mux.version a.key items)) reply) found
    (answers within s (subst (λ (a : Attached). is_attached (rpc_of old.mux.version a.key items) ≡ true) (sym found) runs) (subst (λ (a : Attached). lacks_room old.mux.version a.key items ≡ false) (sym found) room)))
    within here s runs room

-- the channel of a connection is terminated
pub closes_at : (mux now : EndValue) (end : EndpointValue) (xs : List Attached) (stopped : Bool) (place : ℕ) (x attached : Attached) (why : Cause) (items : List Item) (at : ℕ) (rest : List ℕ) → value_in mux xs stopped ≡ end → x ≡ get_or xs place x
    → ((m : List Item) (n : ℕ) (bs : List ℕ) → MuxStands mux m n bs → Moves mux now m (called mux.version (call.Terminate x.key) m) n bs)
    → place < length end.connections → sending.IsAt end.connections place attached → MuxStands end.mux items at rest → end.state ≡ end.mux.state
    → (x.key ≡ attached.key) × (why ≡ why) × MovesAlone end (value_in now xs stopped) items (called end.mux.version (call.Terminate attached.key) items) at rest
closes_at mux now end xs stopped place x attached why items at rest same is moves within here s runs =
    subst (λ (e : EndpointValue). place < length e.connections → sending.IsAt e.connections place attached → MuxStands e.mux items at rest → e.state ≡ e.mux.state
    → (x.key ≡ attached.key) × (why ≡ why) × MovesAlone e (value_in now xs stopped) items (called e.mux.version (call.Terminate attached.key) items) at rest) same
    (λ within here s runs.
    let found : x ≡ attached = read_at xs place x attached within is here in
    let keys : x.key ≡ attached.key = ap (λ (a : Attached). a.key) found in (
      keys,
      refl,
      record {
        moves = subst (λ k. Moves mux now items (called mux.version (call.Terminate k) items) at rest) keys (moves items at rest s);
        connections = refl;
        state = running_state stopped now (unstopped stopped mux items at rest s runs);
      },
    ))
    within here s runs

-- whether a message lacks room
pub room_lacks : (v : Version) (end : RpcValue) (c : ChannelKey) (items : List EndItem) (spent : Bool) (result : Result Bool OutOfMemory) → ConnectionStands (Some end) (rpc_of v c items) (terms_of c items) (consumed c items) (rest_of v c items)
    → is_attached (rpc_of v c items) ≡ true → spent ≡ is_spent_on c (mux_of v items) → spent ≡ true
    → ((ys : List rpc.RpcItem) (n : ℕ) (bs : List ℕ) → RpcStands end ys n bs → IfOk result (λ has. has ≡ (rpc.is_running ys && begins_message end.terms bs))) → IfOk result (λ lacks. lacks ≡ lacks_room v c items)
room_lacks v end c items spent result s runs e full has =
    let h = attached_held end (rpc_of v c items) (terms_of c items) (consumed c items) (rest_of v c items) s runs in
    by result h (has h.items (consumed c items) (rest_of v c items) h.stands.stands)
  where
    by : (result : Result Bool OutOfMemory) → (h : IsHeld end (rpc_of v c items) (terms_of c items) (consumed c items) (rest_of v c items))
        → IfOk result (λ has. has ≡ (rpc.is_running h.items && begins_message end.terms (rest_of v c items))) → IfOk result (λ lacks. lacks ≡ lacks_room v c items)
    by (Err error) h told = tt
    by (Ok has) h told =
        told ∙ (ap (λ o. is_none o && begins_message end.terms (rest_of v c items)) h.runs ∙ (ap (λ t. begins_message t (rest_of v c items)) h.stands.terms_are ∙ ap (λ b. b && has_message v c items) (sym full ∙ e)))
