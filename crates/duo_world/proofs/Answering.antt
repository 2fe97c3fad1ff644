-- What a call, a question and the end of the stream leave of two ends.
use Rattle.std.specs.Prelude.{if◌then◌else◌, Bool, true, false, is_none}
use Rattle.std.proofs.Common.{◌≡◌, ℕ, ◌≤◌, List, [], ◌++◌, length, refl, sym, ◌∙◌, ap, ap₂, subst, arith, Option, Some, None}
use Rattle.wire_base.specs.declared.frame.Version.{Version}
use Rattle.wire_base.specs.declared.refusal.Refusal.{Refusal}
use Rattle.wire_base.specs.declared.state.Cause.{Cause}
use Rattle.wire_base.specs.declared.state.Cause.TheVariants as cause
use Rattle.mux_items.specs.declared.call.Call.{Call as MuxCall}
use Rattle.mux_items.specs.declared.call.Call.TheVariants as mux_call
use Rattle.mux_items.specs.Calls.{item_of_call}
use Rattle.mux_items.specs.Items.{Item, End, ended}
use Rattle.mux_run.specs.Run.{SideTerms, turned}
use Rattle.mux_run.specs.declared.steps.Side.{Side}
use Rattle.mux_run.specs.declared.steps.Side.TheVariants.{A}
use Rattle.endpoint_items.specs.declared.call.Call.{Call}
use Rattle.endpoint_items.specs.declared.reply.Reply.{Reply}
use Rattle.endpoint_items.specs.Asked.{made_by, reply_to}
use Rattle.endpoint_items.specs.Calls.{EndCall, OfMux, Attaches, OfConnection, call_refusal, item_of, unless_refused, called}
use Rattle.endpoint_items.specs.Items.{EndItem, Mux}
use Rattle.endpoint_items.specs.Layers.{mux_of}
use Rattle.endpoint_run.specs.declared.answers.DuoAnswer.TheVariants as duo
use Rattle.endpoint_run.specs.declared.answers.SideEvent.{SideEvent}
use Rattle.endpoint_run.specs.declared.steps.Step.TheVariants as step
use Rattle.endpoint_run.specs.Answers.{events_of, events_since, events_if, called_step, side_by}
use Rattle.endpoint_run.specs.Midway.{IsMidway, all_applied}
use Rattle.endpoint_run.specs.Run.{EndSide, Calls, Ends, mux_side, runs, with_item, stopped, side_after}
use Rattle.endpoint_run.proofs.Midway.{all_is_applied, begun_midway}
use Rattle.endpoint_run.proofs.Telling.{events_none, events_pushed}
use Rattle.endpoint.specs.Replies.{EndsBy}
use Rattle.endpoint.specs.Value.{EndpointValue}
use Rattle.duo_world.specs.Holding.{place_of, rest_of, StandsForSide, StandForSides}
use Rattle.duo_world.specs.Settling.{side_with, IsMidStep, IsSettled}
use Rattle.duo_world.specs.Stepping.{IsBetweenSteps, StepsAt, called_by}
use Rattle.duo_world.specs.Stepping as stepping
use Rattle.duo_world.proofs.Arriving.{stopped_none}
use Rattle.duo_world.proofs.Delivering.{peer_stays}
use Rattle.duo_world.proofs.Standing.{stands_more}

-- a call has no event of its own

no_mux_event : (v : Version) (c : MuxCall) (items : List EndItem) → events_of v (Mux (item_of_call c (mux_of v items))) items ≡ []
no_mux_event v (mux_call.Offer name size) items = refl
no_mux_event v (mux_call.Accept c size) items = refl
no_mux_event v (mux_call.Write c bytes) items = refl
no_mux_event v (mux_call.Read c max) items = refl
no_mux_event v (mux_call.Complete c) items = refl
no_mux_event v (mux_call.Terminate c) items = refl

no_event : (v : Version) (c : EndCall) (items : List EndItem) → events_of v (item_of v c items) items ≡ []
no_event v (OfMux c) items = no_mux_event v c items
no_event v (Attaches c terms) items = refl
no_event v (OfConnection c call) items = refl

-- what a call adds: one item at most, without an event
record AddsSilently (v : Version) (items after : List EndItem) : Type 0 where
  newer : length items ≤ length after
  events_are : events_since v (length items) after ≡ []

adds_none : (v : Version) (items : List EndItem) → AddsSilently v items items
adds_none v items = record { newer = omega arith; events_are = events_none v (length items) items (omega arith) }

called_silently : (v : Version) (c : EndCall) (items : List EndItem) → AddsSilently v items (called v c items)
called_silently v c items = by (call_refusal v c items)
  where
    by : (r : Option Refusal) → AddsSilently v items (unless_refused r (item_of v c items) items)
    by (Some refusal) = adds_none v items
    by None =
        let item = item_of v c items in
        record {
          newer = omega arith;
          events_are = events_pushed v (length items) item items (omega arith) ∙ (ap (λ es. es ++ events_of v item items) (events_none v (length items) items (omega arith)) ∙ no_event v c items);
        }

by_silently : (v : Version) (o : Option EndCall) (items : List EndItem) → AddsSilently v items (called_by v o items)
by_silently v (Some c) items = called_silently v c items
by_silently v None items = adds_none v items

-- an end on which a call was made may apply more
called_midway : (w : SideTerms) (o : Option EndCall) (x y : EndSide) → IsMidway w x.delivered (mux_side w.version y) x.items → IsMidway w x.delivered (mux_side w.version y) (called_by w.version o x.items)
called_midway w (Some c) x y h = begun_midway w (Calls A c) x y h
called_midway w None x y h = h

pub called_mid : (w : SideTerms) (o : Option EndCall) (own new peer : EndpointValue) (events : List SideEvent) (x y : EndSide) → IsBetweenSteps w own peer x y → events ≡ []
    → StandsForSide w new (side_with (called_by w.version o x.items) x.delivered) (mux_side w.version y) → IsMidStep w x.delivered (length x.items) new events (called_by w.version o x.items) (mux_side w.version y)
called_mid w o own new peer events x y r none h =
    let silent = by_silently w.version o x.items in
    record {
      nonces = r.nonces;
      midway = called_midway w o x y r.own_midway;
      stands = h;
      peer_in_range = r.stand.at_peer.in_range;
      newer = silent.newer;
      events_are = none ∙ sym silent.events_are;
    }

-- a call that makes a step
called_by_step : (w : SideTerms) (c : Call) (o : Option EndCall) (side : Side) (own new peer : EndpointValue) (r : Reply) (events : List SideEvent) (x y : EndSide) → is_none o ≡ false → IsBetweenSteps w own peer x y → r ≡ reply_to w.version c x.items
    → IsSettled w (length x.items) new events (side_with (all_applied w x.delivered (mux_side w.version y) (called_by w.version o x.items)) x.delivered) (mux_side w.version y)
    → (duo.Replied r events ≡ duo.Replied (reply_to w.version c x.items) (events_if w (called_step side o) x y)) × StandForSides w new peer (side_by w (called_step side o) x y) y
called_by_step w c (Some made) side own new peer r events x y some b is s = (ap₂ (λ r es. duo.Replied r es) is s.events_are, record { at_own = s.stands; at_peer = peer_stays w (Calls side made) own peer x y b })
called_by_step w c None side own new peer r events x y some b is s = absurd (cc some)

pub called_settled : (w : SideTerms) (c : Call) (side : Side) (own new peer : EndpointValue) (r : Reply) (events : List SideEvent) (x y : EndSide) → is_none (made_by c) ≡ false → IsBetweenSteps w own peer x y → r ≡ reply_to w.version c x.items
    → IsSettled w (length x.items) new events (side_with (all_applied w x.delivered (mux_side w.version y) (called_by w.version (made_by c) x.items)) x.delivered) (mux_side w.version y)
    → StepsAt w (step.Call side c) new peer x y (duo.Replied r events)
called_settled w c side own new peer r events x y some b is s = called_by_step w c (made_by c) side own new peer r events x y some b is s

-- a question makes none
questioned : (w : SideTerms) (c : Call) (o : Option EndCall) (side : Side) (own new peer : EndpointValue) (r : Reply) (events : List SideEvent) (x y : EndSide) → is_none o ≡ true → IsBetweenSteps w own peer x y → r ≡ reply_to w.version c x.items → events ≡ []
    → StandsForSide w new (side_with (called_by w.version o x.items) x.delivered) (mux_side w.version y)
    → (duo.Replied r events ≡ duo.Replied (reply_to w.version c x.items) (events_if w (called_step side o) x y)) × StandForSides w new peer (side_by w (called_step side o) x y) y
questioned w c (Some made) side own new peer r events x y none b is empty h = absurd (cc none)
questioned w c None side own new peer r events x y none b is empty h = (ap₂ (λ r es. duo.Replied r es) is empty, record { at_own = h; at_peer = b.stand.at_peer })

pub question_steps : (w : SideTerms) (c : Call) (side : Side) (own new peer : EndpointValue) (r : Reply) (events : List SideEvent) (x y : EndSide) → is_none (made_by c) ≡ true → IsBetweenSteps w own peer x y → events ≡ []
    → stepping.Calls w c new x (mux_side w.version y) r → StepsAt w (step.Call side c) new peer x y (duo.Replied r events)
question_steps w c side own new peer r events x y none b empty made = questioned w c (made_by c) side own new peer r events x y none b made.0 empty made.1

-- the end of the stream; after it nothing more is applied

ended_at_rest : (w : SideTerms) (x y : EndSide) → runs w.version x ≡ false → side_with (all_applied w x.delivered (mux_side w.version y) x.items) x.delivered ≡ x
ended_at_rest w x y e =
    ap (λ items. side_with items x.delivered) (all_is_applied w x.delivered (mux_side w.version y) x.items (stopped_none w x.delivered (mux_side w.version y) x.items e))

ended_side : (w : SideTerms) (side : Side) (x y : EndSide) (running : Bool) → runs w.version x ≡ running → side_after w (Ends side) x y ≡ (if running then with_item (Mux (End cause.InputEnded)) x else x)
ended_side w side x y running e = all running e ∙ by running e
  where
    item : EndItem
    item = Mux (End cause.InputEnded)

    settled : EndSide → EndSide
    settled given = side_with (all_applied w given.delivered (mux_side w.version y) given.items) given.delivered

    all : (b : Bool) → runs w.version x ≡ b → settled (stopped w.version cause.InputEnded x) ≡ settled (if b then with_item item x else x)
    all b e = ap (λ b. settled (if b then with_item item x else x)) e

    by : (b : Bool) → runs w.version x ≡ b → settled (if b then with_item item x else x) ≡ (if b then with_item item x else x)
    by true e = ended_at_rest w (with_item item x) y refl
    by false e = ended_at_rest w x y e

pub ended_steps : (w : SideTerms) (side : Side) (own new peer : EndpointValue) (x y : EndSide) → IsBetweenSteps w own peer x y
    → EndsBy own new x.items (place_of w (mux_side w.version x) (mux_side w.version y)) (rest_of w (mux_side w.version x) (mux_side w.version y)) cause.InputEnded (ended (mux_of own.mux.version x.items))
    → StepsAt w (step.End side) new peer x y duo.Ended
ended_steps w side own new peer x y r a =
    (refl, by (ended m) refl (subst (λ v. EndsBy own new x.items at rest cause.InputEnded (ended (mux_of v x.items))) r.stand.at_own.version a))
  where
    m : List Item
    m = mux_of w.version x.items

    at : ℕ
    at = place_of w (mux_side w.version x) (mux_side w.version y)

    rest : List ℕ
    rest = rest_of w (mux_side w.version x) (mux_side w.version y)

    by : (o : Option Cause) → ended m ≡ o → EndsBy own new x.items at rest cause.InputEnded o → StandForSides w new peer (side_after w (Ends side) x y) y
    by None e a =
        let item = Mux (End cause.InputEnded) in
        let after : side_after w (Ends side) x y ≡ with_item item x = ended_side w side x y true (ap is_none e) in
        record {
          at_own = subst (λ x'. StandsForSide w new x' (mux_side w.version y)) (sym after) (stands_more w own new item x.items x.delivered (mux_side w.version y) at rest r.stand.at_own tt a refl refl);
          at_peer = subst (λ x'. StandsForSide (turned w) peer y (mux_side w.version x')) (sym after)
              (subst (λ x'. StandsForSide (turned w) peer y (mux_side w.version (side_with x'.items x.delivered))) after (peer_stays w (Ends side) own peer x y r));
        }
    by (Some why) e a =
        let after : side_after w (Ends side) x y ≡ x = ended_side w side x y false (ap is_none e) in
        subst (λ x'. StandForSides w new peer x' y) (sym after) (record { at_own = subst (λ end. StandsForSide w end x (mux_side w.version y)) (sym a) r.stand.at_own; at_peer = r.stand.at_peer })
