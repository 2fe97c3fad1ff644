-- A step of an end that applies what is whole.
use Rattle.std.specs.Prelude.{if◌then◌else◌, true, false, is_none}
use Rattle.std.proofs.Common.{◌≡◌, ℕ, ◌+◌, List, [], ◌∷◌, ◌++◌, length, drop, refl, sym, ◌∙◌, ap, ap₂, subst, arith, Option, Some, None}
use Rattle.std.proofs.lemmas.Bool.{or_right}
use Rattle.wire_base.specs.declared.frame.Version.{Version}
use Rattle.wire_base.specs.declared.state.Cause.{Cause}
use Rattle.wire_base.specs.States.{state_by, is_running_state}
use Rattle.std.specs.Str.{bytes_eq}
use Rattle.mux_items.specs.declared.call.Call.{Call}
use Rattle.mux_items.specs.declared.call.Call.TheVariants as call
use Rattle.mux_items.specs.declared.channel.ChannelKey.{ChannelKey}
use Rattle.mux_items.specs.declared.channel.MuxEvent.{MuxEvent}
use Rattle.mux_items.specs.declared.channel.MuxEvent.TheVariants as mux_event
use Rattle.mux_items.specs.Applying.{item_of_frame, lacks_room, event_of}
use Rattle.mux_items.specs.Bodies.{FrameBody, ChannelFrame, flip, frame_text, is_three}
use Rattle.mux_items.specs.Due.{got}
use Rattle.mux_items.specs.Items.{Item, Hello, Got, Rejected, End, is_running, ended}
use Rattle.mux_items.specs.Parties.{party_by}
use Rattle.mux_items.specs.Refusals.{is_ready}
use Rattle.mux_run.specs.Run.{RunSide, SideTerms, greeting_size, next_frames, place_after}
use Rattle.mux_end.specs.Arrivals.{Arrival, arrival}
use Rattle.rpc_items.specs.Events as rpc
use Rattle.rpc_items.specs.Items as rpc_item
use Rattle.rpc_items.specs.Saying.{said}
use Rattle.endpoint_items.specs.declared.event.EndEvent.{EndEvent}
use Rattle.endpoint_items.specs.declared.event.EndEvent.TheVariants as event
use Rattle.endpoint_items.specs.Arriving.{next_message, either}
use Rattle.endpoint_items.specs.Connections.{is_attached, items_of}
use Rattle.endpoint_items.specs.Following.{followed, follow_ups, write_said}
use Rattle.endpoint_items.specs.Items.{EndItem, Mux, GotMessage, RefusedMessage, terms_of}
use Rattle.endpoint_items.specs.Layers.{mux_of, rpc_of}
use Rattle.endpoint_run.specs.Answers.{mux_events, events_of, events_since}
use Rattle.endpoint_run.specs.Midway.{all_applied}
use Rattle.endpoint_run.specs.Next.{next_of_peer, next_item}
use Rattle.endpoint_run.specs.declared.answers.SideEvent.{SideEvent}
use Rattle.endpoint_run.specs.declared.answers.SideEvent.TheVariants.{Happened, Ended}
use Rattle.endpoint_run.proofs.Midway.{goes_on, all_is_applied, midway_lies}
use Rattle.endpoint_run.proofs.Applied.{followed_running}
use Rattle.endpoint_run.proofs.Telling.{events_pushed}
use Rattle.endpoint.specs.Replies.{Adds, MessageAnswers, FrameAnswers, StepAnswers}
use Rattle.endpoint.specs.Stands.{Stands}
use Rattle.endpoint.specs.Value.{EndpointValue}
use Rattle.endpoint.specs.declared.step.EndStep.{EndStep}
use Rattle.endpoint.specs.declared.step.EndStep.TheVariants as step
use Rattle.duo_world.specs.Holding.{place_of, rest_of, StandsForSide}
use Rattle.duo_world.specs.Settling.{side_with, IsMidStep, IsSettled}
use Rattle.duo_world.proofs.Coming.{Comes, waits, greets, applies, refuses, comes}
use Rattle.duo_world.proofs.Ranging.{OwnInRange}
use Rattle.duo_world.proofs.Settling.{given_side, MayApply, place_ready, place_unready, next_key_in_range, takes_frame, still_ready, place_got, rest_moved}
use Rattle.duo_world.proofs.Standing.{got_followed, ready_followed, place_same, rest_at, stands_more}

-- whether an end runs

state_runs : (o : Option Cause) → is_running_state (state_by o) ≡ is_none o
state_runs None = refl
state_runs (Some c) = refl

pub runs_as : (w : SideTerms) (end : EndpointValue) (items : List EndItem) (d : ℕ) (y : RunSide) → StandsForSide w end (side_with items d) y → is_running (mux_of w.version items) ≡ is_running_state end.state
runs_as w end items d y h =
    ap (λ v. is_running (mux_of v items)) (sym h.version)
    ∙ sym (ap is_running_state (h.stands.state ∙ h.stands.mux.state) ∙ state_runs (ended (mux_of end.mux.version items)))

pub running_none : (m : List Item) → is_running m ≡ true → ended m ≡ None
running_none m e = by (ended m) e
  where
    by : (o : Option Cause) → is_none o ≡ true → o ≡ None
    by None e = refl
    by (Some c) e = cc

-- what is next at an end that runs

next_found : (w : SideTerms) (d : ℕ) (y : RunSide) (items : List EndItem) (message : Option EndItem) → is_running (mux_of w.version items) ≡ true → next_message w.version items ≡ message
    → next_item w d y items ≡ either message (next_of_peer w d (mux_of w.version items) y)
next_found w d y items message runs is =
    ap (λ b. if b then either (next_message w.version items) (next_of_peer w d (mux_of w.version items) y) else None) runs
    ∙ ap (λ o. either o (next_of_peer w d (mux_of w.version items) y)) is

-- an end in the midst of a step that began with these items: what is left to apply leaves it where all would have left it
pub record IsUnderway (w : SideTerms) (d older : ℕ) (own : EndpointValue) (events : List SideEvent) (items : List EndItem) (y : RunSide) : Type 0 where
  pub now : List EndItem
  pub mid : IsMidStep w d older own events now y
  pub runs : is_running (mux_of w.version now) ≡ true
  pub leads : all_applied w d y now ≡ all_applied w d y items

may_apply : (w : SideTerms) (d older : ℕ) (own : EndpointValue) (events : List SideEvent) (items : List EndItem) (y : RunSide) → IsMidStep w d older own events items y → is_running (mux_of w.version items) ≡ true
    → MayApply w d (mux_of w.version items) y
may_apply w d older own events items y m runs = record { nonces = m.nonces; lie = midway_lies w d y items m.midway runs; in_range = m.stands.in_range; peer_in_range = m.peer_in_range }

-- the places of an end, before a step and after it

abbrev place : SideTerms → ℕ → List EndItem → RunSide → ℕ
place w d items y = place_of w (given_side (mux_of w.version items) d) y

abbrev rest : SideTerms → ℕ → List EndItem → RunSide → List ℕ
rest w d items y = rest_of w (given_side (mux_of w.version items) d) y

-- one more item, with its events
added_mid : (w : SideTerms) (d older : ℕ) (old new : EndpointValue) (events more : List SideEvent) (item : EndItem) (items : List EndItem) (y : RunSide) (at : ℕ) (bytes : List ℕ) → IsMidStep w d older old events items y → next_item w d y items ≡ Some item
    → OwnInRange w item (mux_of w.version items) → Adds old new items at bytes item → at ≡ place w d (item ∷ items) y → bytes ≡ rest w d (item ∷ items) y → more ≡ events_of w.version item items
    → IsMidStep w d older new (events ++ more) (item ∷ items) y × (all_applied w d y (item ∷ items) ≡ all_applied w d y items)
added_mid w d older old new events more item items y at bytes m next own a at_is bytes_are events_are =
    let on = goes_on w d y item items m.midway next in (
      record {
        nonces = m.nonces;
        midway = on.midway;
        stands = stands_more w old new item items d y at bytes m.stands own a at_is bytes_are;
        peer_in_range = m.peer_in_range;
        newer = omega (arith, m.newer);
        events_are = ap (λ es. es ++ more) m.events_are ∙ (ap (λ es. events_since w.version older items ++ es) events_are ∙ sym (events_pushed w.version older item items m.newer));
      },
      on.same,
    )

-- an item with whose calls nothing is applied leaves the place and the rest
record StaysAt (v : Version) (item : EndItem) (items : List EndItem) : Type 0 where
  got_is : got (mux_of v (item ∷ items)) ≡ got (mux_of v items)
  ready_is : is_ready v (mux_of v (item ∷ items)) ≡ is_ready v (mux_of v items)

stays_mid : (w : SideTerms) (d older : ℕ) (old new : EndpointValue) (events more : List SideEvent) (item : EndItem) (items : List EndItem) (y : RunSide) → IsMidStep w d older old events items y → next_item w d y items ≡ Some item
    → StaysAt w.version item items → OwnInRange w item (mux_of w.version items) → Adds old new items (place w d items y) (rest w d items y) item → more ≡ events_of w.version item items
    → IsMidStep w d older new (events ++ more) (item ∷ items) y × (all_applied w d y (item ∷ items) ≡ all_applied w d y items)
stays_mid w d older old new events more item items y m next stays own a events_are =
    let at : place w d items y ≡ place w d (item ∷ items) y = sym (place_same w d (mux_of w.version items) (mux_of w.version (item ∷ items)) y stays.got_is stays.ready_is) in
    added_mid w d older old new events more item items y (place w d items y) (rest w d items y) m next own a at (rest_at w d (place w d items y) (mux_of w.version (item ∷ items)) y at) events_are

end_stays : (v : Version) (why : Cause) (items : List EndItem) → StaysAt v (Mux (End why)) items
end_stays v why items = record { got_is = refl; ready_is = refl }

written_stays : (v : Version) (calls : List Call) (m : List Item) → (got (followed v calls m) ≡ got m) × (is_ready v (followed v calls m) ≡ is_ready v m)
written_stays v calls m = (got_followed v calls m, ready_followed v calls m)

-- a step that applied or refused a message of a connection, which goes on

mux_no_event : (old new : EndpointValue) (items : List EndItem) (at : ℕ) (bytes : List ℕ) (item : Item) (e : EndEvent) → MessageAnswers old new items at bytes (Mux item) (step.Event e) → ⊥
mux_no_event old new items at bytes (End why) e h = absurd h
mux_no_event old new items at bytes item e h = absurd h

message_event : (w : SideTerms) (d older : ℕ) (old new : EndpointValue) (events : List SideEvent) (item : EndItem) (items : List EndItem) (y : RunSide) (e : EndEvent) → IsMidStep w d older old events items y → is_running (mux_of w.version items) ≡ true
    → next_message w.version items ≡ Some item → MessageAnswers old new items (place w d items y) (rest w d items y) item (step.Event e) → IsUnderway w d older new (events ++ Happened e ∷ []) items y
message_event w d older old new events (GotMessage c at size message) items y (event.Rpc key e) m runs next h =
    let v = w.version in
    let item = GotMessage c at size message in
    let calls = write_said c (terms_of c items) (said (rpc_item.Got at message) (items_of (rpc_of v c items))) (mux_of v items) in
    let stays = written_stays v calls (mux_of v items) in
    let told : Happened (event.Rpc key e) ∷ [] ≡ events_of v item items = ap₂ (λ c e. Happened (event.Rpc c e) ∷ []) h.0 (h.1 ∙ ap (λ v. rpc.event_of message (items_of (rpc_of v c items))) m.stands.version) in
    let on = stays_mid w d older old new events (Happened (event.Rpc key e) ∷ []) item items y m (next_found w d y items (Some item) runs next) (record { got_is = stays.0; ready_is = stays.1 }) tt h.2 told in
    record { now = item ∷ items; mid = on.0; runs = followed_running w calls (mux_of v items) ∙ runs; leads = on.1 }
message_event w d older old new events (RefusedMessage c at r) items y (event.RpcEnded key why) m runs next h =
    let v = w.version in
    let item = RefusedMessage c at r in
    let calls = call.Terminate c ∷ [] in
    let stays = written_stays v calls (mux_of v items) in
    let told : Happened (event.RpcEnded key why) ∷ [] ≡ events_of v item items = ap₂ (λ c why. Happened (event.RpcEnded c why) ∷ []) h.0 h.1 in
    let on = stays_mid w d older old new events (Happened (event.RpcEnded key why) ∷ []) item items y m (next_found w d y items (Some item) runs next) (record { got_is = stays.0; ready_is = stays.1 }) tt h.2 told in
    record { now = item ∷ items; mid = on.0; runs = followed_running w calls (mux_of v items) ∙ runs; leads = on.1 }
message_event w d older old new events (Mux item) items y e m runs next h = absurd (mux_no_event old new items (place w d items y) (rest w d items y) item e h)
message_event w d older old new events item items y e m runs next h = absurd h

-- a step that greeted or applied a frame

frame_events : (v : Version) (at : ℕ) (c : ChannelKey) (body : FrameBody) (items : List EndItem)
    → events_of v (Mux (item_of_frame v at c body (mux_of v items))) items ≡ mux_events (event_of v (item_of_frame v at c body (mux_of v items)) (mux_of v items))
frame_events v at c body items =
    elim (lacks_room v body (mux_of v items)) as (λ b. events_of v (Mux (if b then Rejected at c body else Got at c body)) items ≡ mux_events (event_of v (if b then Rejected at c body else Got at c body) (mux_of v items))) [ true ↦ refl | false ↦ refl ]

frame_runs : (v : Version) (at : ℕ) (c : ChannelKey) (body : FrameBody) (m : List Item) → is_running (item_of_frame v at c body m ∷ m) ≡ is_running m
frame_runs v at c body m = elim (lacks_room v body m) as (λ b. is_running ((if b then Rejected at c body else Got at c body) ∷ m) ≡ is_running m) [ true ↦ refl | false ↦ refl ]

hello_ready : (w : SideTerms) (m : List Item) → is_ready w.version (Hello (party_by w.own w.peer) ∷ m) ≡ true
hello_ready w m = or_right (is_three w.version) true refl

greeted : (w : SideTerms) (d older : ℕ) (old new : EndpointValue) (events : List SideEvent) (items : List EndItem) (y : RunSide) (e : MuxEvent) → IsMidStep w d older old events items y → is_running (mux_of w.version items) ≡ true
    → next_message w.version items ≡ None → is_ready w.version (mux_of w.version items) ≡ false → bytes_eq w.own w.peer ≡ false → next_of_peer w d (mux_of w.version items) y ≡ Some (Mux (Hello (party_by w.own w.peer)))
    → (e ≡ mux_event.Ready) × Adds old new items (place w d items y + greeting_size w) (drop (greeting_size w) (rest w d items y)) (Mux (Hello (party_by w.own w.peer)))
    → IsUnderway w d older new (events ++ Happened (event.Mux e) ∷ []) items y
greeted w d older old new events items y e m runs none unready differ next h =
    let v = w.version in
    let mux = mux_of v items in
    let hello = Hello (party_by w.own w.peer) in
    let size = greeting_size w in
    let may = may_apply w d older old events items y m runs in
    let first : place_after w (length (got mux)) y ≡ size + 0 = ap (λ fs. place_after w (length fs) y) (may.lie.waits unready) in
    let at : place w d items y + size ≡ place w d (Mux hello ∷ items) y =
    omega (arith, place_ready w (given_side (hello ∷ mux) d) y (hello_ready w mux), first, place_unready w (given_side mux d) y unready) in
    let on = added_mid w d older old new events (Happened (event.Mux e) ∷ []) (Mux hello) items y (place w d items y + size) (drop size (rest w d items y)) m (next_found w d y items None runs none ∙ next)
    (record { differ = differ; party_is = refl }) h.1 at (rest_moved w d size mux (hello ∷ mux) y at) (ap (λ e. Happened (event.Mux e) ∷ []) h.0) in
    record { now = Mux hello ∷ items; mid = on.0; runs = runs; leads = on.1 }

took_frame : (w : SideTerms) (d older : ℕ) (old new : EndpointValue) (events : List SideEvent) (items : List EndItem) (y : RunSide) (e : MuxEvent) (f : ChannelFrame) (fs : List ChannelFrame) → IsMidStep w d older old events items y → is_running (mux_of w.version items) ≡ true
    → next_message w.version items ≡ None → is_ready w.version (mux_of w.version items) ≡ true → next_frames w d (length (got (mux_of w.version items))) y ≡ f ∷ fs
    → next_of_peer w d (mux_of w.version items) y ≡ Some (Mux (item_of_frame w.version (place w d items y) (flip f).key f.body (mux_of w.version items)))
    → (Some e ≡ event_of w.version (item_of_frame w.version (place w d items y) (flip f).key f.body (mux_of w.version items)) (mux_of w.version items))
    × Adds old new items (place w d items y + length (frame_text w.version f)) (drop (length (frame_text w.version f)) (rest w d items y)) (Mux (item_of_frame w.version (place w d items y) (flip f).key f.body (mux_of w.version items)))
    → IsUnderway w d older new (events ++ Happened (event.Mux e) ∷ []) items y
took_frame w d older old new events items y e f fs m runs none ready some next h =
    let v = w.version in
    let mux = mux_of v items in
    let key = (flip f).key in
    let size = length (frame_text v f) in
    let item = item_of_frame v (place w d items y) key f.body mux in
    let t = takes_frame v (place w d items y) key f.body mux in
    let calls = follow_ups v (λ c. is_attached (rpc_of v c items)) item (item ∷ mux) in
    let may = may_apply w d older old events items y m runs in
    let first : place w d items y + size ≡ place_of w (given_side (item ∷ mux) d) y =
    ap (λ n. n + size) (place_ready w (given_side mux d) y ready) ∙ sym (place_ready w (given_side (item ∷ mux) d) y (still_ready v (flip f) item mux t ready) ∙ place_got w d item mux y f fs some t) in
    let at : place w d items y + size ≡ place w d (Mux item ∷ items) y = first ∙ sym (place_same w d (item ∷ mux) (followed v calls (item ∷ mux)) y (got_followed v calls (item ∷ mux)) (ready_followed v calls (item ∷ mux))) in
    let told : Happened (event.Mux e) ∷ [] ≡ events_of v (Mux item) items = ap mux_events h.0 ∙ sym (frame_events v (place w d items y) key f.body items) in
    let on = added_mid w d older old new events (Happened (event.Mux e) ∷ []) (Mux item) items y (place w d items y + size) (drop size (rest w d items y)) m (next_found w d y items None runs none ∙ next)
    (t.in_range w (next_key_in_range w d mux y f fs may ready some)) h.1 at (rest_moved w d size mux (followed v calls (item ∷ mux)) y at) told in
    record { now = Mux item ∷ items; mid = on.0; runs = followed_running w calls (item ∷ mux) ∙ (frame_runs v (place w d items y) key f.body mux ∙ runs); leads = on.1 }

frame_event : (w : SideTerms) (d older : ℕ) (old new : EndpointValue) (events : List SideEvent) (items : List EndItem) (y : RunSide) (e : EndEvent) (a : Arrival) → IsMidStep w d older old events items y → is_running (mux_of w.version items) ≡ true
    → next_message w.version items ≡ None → Comes w d (mux_of w.version items) y a → FrameAnswers old new items (place w d items y) (rest w d items y) a (step.Event e) → IsUnderway w d older new (events ++ Happened e ∷ []) items y
frame_event w d older old new events items y (event.Mux e) a m runs none (waits next) h = absurd h
frame_event w d older old new events items y (event.Mux e) a m runs none (greets unready differ next) h = greeted w d older old new events items y e m runs none unready differ next h
frame_event w d older old new events items y (event.Mux e) a m runs none (applies ready f fs some next) h =
    let at = place w d items y in
    let size = length (frame_text w.version f) in
    took_frame w d older old new events items y e f fs m runs none ready some next
    (subst (λ v. (Some e ≡ event_of v (item_of_frame v at (flip f).key f.body (mux_of v items)) (mux_of v items)) × Adds old new items (at + size) (drop size (rest w d items y)) (Mux (item_of_frame v at (flip f).key f.body (mux_of v items)))) m.stands.version h)
frame_event w d older old new events items y (event.Mux e) a m runs none (refuses place r next) h = absurd h
frame_event w d older old new events items y (event.Rpc c e) a m runs none (waits next) h = absurd h
frame_event w d older old new events items y (event.Rpc c e) a m runs none (greets unready differ next) h = absurd h
frame_event w d older old new events items y (event.Rpc c e) a m runs none (applies ready f fs some next) h = absurd h
frame_event w d older old new events items y (event.Rpc c e) a m runs none (refuses place r next) h = absurd h
frame_event w d older old new events items y (event.RpcEnded c e) a m runs none (waits next) h = absurd h
frame_event w d older old new events items y (event.RpcEnded c e) a m runs none (greets unready differ next) h = absurd h
frame_event w d older old new events items y (event.RpcEnded c e) a m runs none (applies ready f fs some next) h = absurd h
frame_event w d older old new events items y (event.RpcEnded c e) a m runs none (refuses place r next) h = absurd h

-- what a step of the end answers

abbrev pub StepAnswersWhere : (old new : EndpointValue) → EndStep → Type 0
StepAnswersWhere old new reply = (items : List EndItem) (at : ℕ) (rest : List ℕ) → Stands old items at rest → StepAnswers old new items at rest (ended (mux_of old.mux.version items)) (next_message old.mux.version items) reply

-- the same where it runs: of a message, or where there is none of what the peer sent
abbrev Answered : SideTerms → ℕ → (old new : EndpointValue) → List EndItem → RunSide → (message : Option EndItem) → EndStep → Type 0
Answered w d old new items y (Some item) reply = MessageAnswers old new items (place w d items y) (rest w d items y) item reply
Answered w d old new items y None reply = FrameAnswers old new items (place w d items y) (rest w d items y) (arrival w.version w.own (mux_of w.version items) (place w d items y) (rest w d items y)) reply

answered_by : (w : SideTerms) (d : ℕ) (old new : EndpointValue) (items : List EndItem) (y : RunSide) (message : Option EndItem) (reply : EndStep) → old.mux.version ≡ w.version → old.mux.nonce ≡ w.own
    → StepAnswers old new items (place w d items y) (rest w d items y) None message reply → Answered w d old new items y message reply
answered_by w d old new items y (Some item) reply version nonce h = h
answered_by w d old new items y None reply version nonce h =
    subst (λ n. FrameAnswers old new items (place w d items y) (rest w d items y) (arrival w.version n (mux_of w.version items) (place w d items y) (rest w d items y)) reply) nonce
    (subst (λ v. FrameAnswers old new items (place w d items y) (rest w d items y) (arrival v old.mux.nonce (mux_of v items) (place w d items y) (rest w d items y)) reply) version h)

answered : (w : SideTerms) (d older : ℕ) (old new : EndpointValue) (events : List SideEvent) (items : List EndItem) (y : RunSide) (reply : EndStep) → IsMidStep w d older old events items y → is_running (mux_of w.version items) ≡ true → StepAnswersWhere old new reply
    → Answered w d old new items y (next_message w.version items) reply
answered w d older old new events items y reply m runs answers =
    let at = place w d items y in
    let bytes = rest w d items y in
    answered_by w d old new items y (next_message w.version items) reply m.stands.version m.stands.nonce
    (subst (λ o. StepAnswers old new items at bytes o (next_message w.version items) reply) (running_none (mux_of w.version items) runs)
    (subst (λ v. StepAnswers old new items at bytes (ended (mux_of v items)) (next_message v items) reply) m.stands.version (answers items at bytes m.stands.stands)))

-- an event of a step
event_goes : (w : SideTerms) (d older : ℕ) (old new : EndpointValue) (events : List SideEvent) (items : List EndItem) (y : RunSide) (e : EndEvent) → IsMidStep w d older old events items y → is_running (mux_of w.version items) ≡ true → StepAnswersWhere old new (step.Event e)
    → IsUnderway w d older new (events ++ Happened e ∷ []) items y
event_goes w d older old new events items y e m runs answers = by (next_message w.version items) refl (answered w d older old new events items y (step.Event e) m runs answers)
  where
    by : (message : Option EndItem) → next_message w.version items ≡ message → Answered w d old new items y message (step.Event e) → IsUnderway w d older new (events ++ Happened e ∷ []) items y
    by (Some item) is h = message_event w d older old new events item items y e m runs is h
    by None is h = frame_event w d older old new events items y e _ m runs is (comes w d (mux_of w.version items) y (may_apply w d older old events items y m runs)) h

-- a step that found nothing whole

message_not_short : (old new : EndpointValue) (items : List EndItem) (at : ℕ) (bytes : List ℕ) (item : EndItem) → MessageAnswers old new items at bytes item step.Short → ⊥
message_not_short old new items at bytes (Mux (End why)) h = absurd h
message_not_short old new items at bytes item h = absurd h

frame_short : (w : SideTerms) (d : ℕ) (old new : EndpointValue) (items : List EndItem) (y : RunSide) (at : ℕ) (bytes : List ℕ) (a : Arrival) → Comes w d (mux_of w.version items) y a → FrameAnswers old new items at bytes a step.Short
    → (new ≡ old) × (next_of_peer w d (mux_of w.version items) y ≡ None)
frame_short w d old new items y at bytes a (waits next) h = (h, next)
frame_short w d old new items y at bytes a (greets unready differ next) h = absurd h
frame_short w d old new items y at bytes a (applies ready f fs some next) h = absurd h
frame_short w d old new items y at bytes a (refuses place r next) h = absurd h

short_stays : (w : SideTerms) (d older : ℕ) (old new : EndpointValue) (events : List SideEvent) (items : List EndItem) (y : RunSide) → IsMidStep w d older old events items y → is_running (mux_of w.version items) ≡ true → StepAnswersWhere old new step.Short
    → (new ≡ old) × (next_item w d y items ≡ None)
short_stays w d older old new events items y m runs answers = by (next_message w.version items) refl (answered w d older old new events items y step.Short m runs answers)
  where
    by : (message : Option EndItem) → next_message w.version items ≡ message → Answered w d old new items y message step.Short → (new ≡ old) × (next_item w d y items ≡ None)
    by (Some item) is h = absurd (message_not_short old new items (place w d items y) (rest w d items y) item h)
    by None is h =
        let both = frame_short w d old new items y (place w d items y) (rest w d items y) _ (comes w d (mux_of w.version items) y (may_apply w d older old events items y m runs)) h in
        (both.0, next_found w d y items None runs is ∙ both.1)

-- a step that ended the end

pub stopped_none : (w : SideTerms) (d : ℕ) (y : RunSide) (items : List EndItem) → is_running (mux_of w.version items) ≡ false → next_item w d y items ≡ None
stopped_none w d y items e = ap (λ b. if b then either (next_message w.version items) (next_of_peer w d (mux_of w.version items) y) else None) e

ends_with : (w : SideTerms) (d older : ℕ) (old new : EndpointValue) (events : List SideEvent) (items : List EndItem) (y : RunSide) (c : Cause) → IsMidStep w d older old events items y → next_item w d y items ≡ Some (Mux (End c))
    → Adds old new items (place w d items y) (rest w d items y) (Mux (End c)) → IsSettled w older new (events ++ Ended c ∷ []) (side_with (all_applied w d y items) d) y
ends_with w d older old new events items y c m next a =
    let on = stays_mid w d older old new events (Ended c ∷ []) (Mux (End c)) items y m next (end_stays w.version c items) tt a refl in
    let there : Mux (End c) ∷ items ≡ all_applied w d y items = sym (all_is_applied w d y (Mux (End c) ∷ items) (stopped_none w d y (Mux (End c) ∷ items) refl)) ∙ on.1 in
    subst (λ now. IsSettled w older new (events ++ Ended c ∷ []) (side_with now d) y) there (record { stands = on.0.stands; events_are = on.0.events_are })

message_ended : (w : SideTerms) (d older : ℕ) (old new : EndpointValue) (events : List SideEvent) (item : EndItem) (items : List EndItem) (y : RunSide) (c : Cause) → IsMidStep w d older old events items y → next_item w d y items ≡ Some item
    → MessageAnswers old new items (place w d items y) (rest w d items y) item (step.Ended c) → IsSettled w older new (events ++ Ended c ∷ []) (side_with (all_applied w d y items) d) y
message_ended w d older old new events (Mux (End why)) items y c m next h =
    subst (λ c. IsSettled w older new (events ++ Ended c ∷ []) (side_with (all_applied w d y items) d) y) (sym h.0) (ends_with w d older old new events items y why m next h.1)
message_ended w d older old new events item items y c m next h = absurd h

frame_ended : (w : SideTerms) (d older : ℕ) (old new : EndpointValue) (events : List SideEvent) (items : List EndItem) (y : RunSide) (c : Cause) (a : Arrival) → IsMidStep w d older old events items y → is_running (mux_of w.version items) ≡ true → next_message w.version items ≡ None
    → Comes w d (mux_of w.version items) y a → FrameAnswers old new items (place w d items y) (rest w d items y) a (step.Ended c) → IsSettled w older new (events ++ Ended c ∷ []) (side_with (all_applied w d y items) d) y
frame_ended w d older old new events items y c a m runs none (waits next) h = absurd h
frame_ended w d older old new events items y c a m runs none (greets unready differ next) h = absurd h
frame_ended w d older old new events items y c a m runs none (applies ready f fs some next) h = absurd h
frame_ended w d older old new events items y c a m runs none (refuses at r next) h =
    ends_with w d older old new events items y c m (next_found w d y items None runs none ∙ (next ∙ ap (λ c. Some (Mux (End c))) (sym h.0))) h.1

-- the loop

-- an end that doesn't run has applied what it could
pub stopped_settles : (w : SideTerms) (d older : ℕ) (own : EndpointValue) (events : List SideEvent) (items : List EndItem) (y : RunSide) → IsMidStep w d older own events items y → is_running_state own.state ≡ false
    → IsSettled w older own events (side_with (all_applied w d y items) d) y
stopped_settles w d older own events items y m e =
    let none = stopped_none w d y items (runs_as w own items d y m.stands ∙ e) in
    subst (λ now. IsSettled w older own events (side_with now d) y) (sym (all_is_applied w d y items none)) (record { stands = m.stands; events_are = m.events_are })

pub begins : (w : SideTerms) (d older : ℕ) (own : EndpointValue) (events : List SideEvent) (items : List EndItem) (y : RunSide) → IsMidStep w d older own events items y → is_running_state own.state ≡ true → IsUnderway w d older own events items y
begins w d older own events items y m e = record { now = items; mid = m; runs = runs_as w own items d y m.stands ∙ e; leads = refl }

pub goes_on_with : (w : SideTerms) (d older : ℕ) (old new : EndpointValue) (events events' : List SideEvent) (items : List EndItem) (y : RunSide) (e : EndEvent) → IsUnderway w d older old events items y → StepAnswersWhere old new (step.Event e)
    → events' ≡ events ++ Happened e ∷ [] → IsUnderway w d older new events' items y
goes_on_with w d older old new events events' items y e u answers is =
    let n = event_goes w d older old new events u.now y e u.mid u.runs answers in
    record { now = n.now; mid = subst (λ es. IsMidStep w d older new es n.now y) (sym is) n.mid; runs = n.runs; leads = n.leads ∙ u.leads }

pub short_settles : (w : SideTerms) (d older : ℕ) (old new : EndpointValue) (events : List SideEvent) (items : List EndItem) (y : RunSide) → IsUnderway w d older old events items y → StepAnswersWhere old new step.Short
    → IsSettled w older new events (side_with (all_applied w d y items) d) y
short_settles w d older old new events items y u answers =
    let both = short_stays w d older old new events u.now y u.mid u.runs answers in
    subst (λ now. IsSettled w older new events (side_with now d) y) (sym (all_is_applied w d y u.now both.1) ∙ u.leads)
    (record { stands = subst (λ end. StandsForSide w end (side_with u.now d) y) (sym both.0) u.mid.stands; events_are = u.mid.events_are })

pub ended_settles : (w : SideTerms) (d older : ℕ) (old new : EndpointValue) (events events' : List SideEvent) (items : List EndItem) (y : RunSide) (c : Cause) → IsUnderway w d older old events items y → StepAnswersWhere old new (step.Ended c)
    → events' ≡ events ++ Ended c ∷ [] → IsSettled w older new events' (side_with (all_applied w d y items) d) y
ended_settles w d older old new events events' items y c u answers is =
    subst (λ now. IsSettled w older new events' (side_with now d) y) u.leads
    (subst (λ es. IsSettled w older new es (side_with (all_applied w d y u.now) d) y) (sym is) (by (next_message w.version u.now) refl (answered w d older old new events u.now y (step.Ended c) u.mid u.runs answers)))
  where
    by : (message : Option EndItem) → next_message w.version u.now ≡ message → Answered w d old new u.now y message (step.Ended c) → IsSettled w older new (events ++ Ended c ∷ []) (side_with (all_applied w d y u.now) d) y
    by (Some item) found h = message_ended w d older old new events item u.now y c u.mid (next_found w d y u.now (Some item) u.runs found) h
    by None found h = frame_ended w d older old new events u.now y c _ u.mid u.runs found (comes w d (mux_of w.version u.now) y (may_apply w d older old events u.now y u.mid u.runs)) h
