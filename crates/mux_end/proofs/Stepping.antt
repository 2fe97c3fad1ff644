-- What an end makes of what arrives.
use Rattle.std.specs.Prelude.{ℕ, ◌+◌, ◌<◌, ◌≤◌, List, ◌∷◌, length, drop, Bool, true, false, not, if◌then◌else◌, Option, Some, None, is_none}
use Rattle.std.proofs.Common.{◌≡◌, ◌≢◌, refl, sym, ◌∙◌, ap, subst, arith, length-drop}
use Rattle.std.proofs.lemmas.Bool.{or_parts, false≢true}
use Rattle.std.proofs.lemmas.List.{append-nil}
use Rattle.wire_base.specs.declared.frame.Frame.{Frame}
use Rattle.wire_base.specs.declared.frame.Version.{Version}
use Rattle.wire_base.specs.declared.frame.Version.TheVariants as version
use Rattle.wire_base.specs.declared.reason.Reason.{Reason}
use Rattle.wire_base.specs.declared.state.Cause.{Cause}
use Rattle.wire_base.specs.declared.state.EndState.TheVariants as state
use Rattle.wire_base.specs.Front.{Whole, Short, Broken}
use Rattle.wire_base.specs.States.{state_by}
use Rattle.frame_text.specs.Front.{Front}
use Rattle.frame_text.specs.Reading.{front}
use Rattle.frame_text.proofs.Within.{front_within}
use Rattle.mux_handshake.specs.Handshake.{Handshake, handshake}
use Rattle.mux_handshake.proofs.Taking.{handshake_takes}
use Rattle.mux_handshake.proofs.Steady.{whole_within}
use Rattle.mux_items.specs.declared.channel.ChannelKey.{ChannelKey}
use Rattle.mux_items.specs.declared.channel.MuxEvent.{MuxEvent}
use Rattle.mux_items.specs.declared.channel.MuxEvent.TheVariants as event
use Rattle.mux_items.specs.declared.party.Party.{Party}
use Rattle.mux_items.specs.Bodies.{FrameBody, ChannelFrame, taken_frame, is_three}
use Rattle.mux_items.specs.Items.{Item, Got, Hello, Rejected, ended, greeting, party_of, party_or_neither}
use Rattle.mux_items.specs.Refusals.{frame_refusal, is_greeted, is_ready}
use Rattle.mux_items.specs.Applying.{Allowed, IsGreeting, IsTaken, event_of, item_of_frame, lacks_room}
use Rattle.mux_state.specs.Book.{Book, event_in, frame_in, has_room, is_ready_book, next_book}
use Rattle.mux_state.proofs.Books.{frame_by_book, room_by_book}
use Rattle.mux_state.proofs.Dues.{event_by_book}
use Rattle.mux_end.specs.declared.step.MuxStep.{MuxStep}
use Rattle.mux_end.specs.declared.step.MuxStep.TheVariants as step
use Rattle.mux_end.specs.Arrivals.{Arrival, arrival, arrival_of_frame, arrival_of_handshake, frame_arrival, refused_at, taken_arrival}
use Rattle.mux_end.specs.Ends.{Steps, front_arrives, with_applied, with_greeting, with_item}
use Rattle.mux_end.specs.Keeps.{event_by, item_in}
use Rattle.mux_end.specs.Replies.{Adds, StepAnswers}
use Rattle.mux_end.specs.Stands.{EndValue, MuxStands}
use Rattle.mux_end.proofs.Answering.{adds_item, ends, still_running}
use Rattle.mux_handshake.proofs.Parity.{handshake_parity}

module _ (old : EndValue) (items : List Item) (at : ℕ) (rest : List ℕ) (s : MuxStands old items at rest) (run : old.state ≡ state.Running) where
  -- a frame that no rule refuses, by whether it is rejected
  module _ (c : ChannelKey) (body : FrameBody) (ready : is_ready old.version items ≡ true) (unrefused : frame_refusal old.version c body items ≡ None) where
    taken : IsTaken old.version c body items
    taken = record { ready = ready; running = ap is_none (still_running old items at rest s run); unrefused = unrefused }

    room_is : (lacks : Bool) → lacks_room old.version body items ≡ lacks → has_room body old.book ≡ not lacks
    room_is lacks e = ap (has_room body) s.book ∙ (sym (room_by_book old.version body items) ∙ ap not e)

    after_applied : (size : ℕ) (item : Item) → Allowed old.version (item ∷ items) → (next_book item old.book).cause ≡ old.book.cause
        → Adds old (with_applied size (with_item item old)) items (at + size) (drop size rest) item
    after_applied size item ok same =
        adds_item old (with_applied size (with_item item old)) items at (at + size) rest (drop size rest) item s ok refl refl refl refl
        (run ∙ ap state_by (sym (same ∙ (ap (λ (b : Book). b.cause) s.book ∙ still_running old items at rest s run)))) (ap (λ n. n + size) s.at_is) (ap (drop size) s.rest_is)

    by_room : (size : ℕ) (lacks : Bool) → lacks_room old.version body items ≡ lacks
        → (Some (if not lacks then event_in c body old.book else event.Rejected c) ≡ event_of old.version (if lacks then Rejected at c body else Got at c body) items)
        × Adds old (with_applied size (with_item (if not lacks then Got at c body else Rejected at c body) old)) items (at + size) (drop size rest) (if lacks then Rejected at c body else Got at c body)
    by_room size true e = (refl, after_applied size (Rejected at c body) (taken, e, s.allowed) refl)
    by_room size false e = (
      ap (λ (b : Book). Some (event_in c body b)) s.book ∙ ap Some (sym (event_by_book old.version at c body items (taken, e, s.allowed))),
      after_applied size (Got at c body) (taken, e, s.allowed) refl,
    )

    applied : (size : ℕ) → (Some (event_by c body old.book) ≡ event_of old.version (item_of_frame old.version at c body items) items)
        × Adds old (with_applied size (with_item (item_in old.at c body old.book) old)) items (at + size) (drop size rest) (item_of_frame old.version at c body items)
    applied size =
        let lacks = lacks_room old.version body items in
        let room : has_room body old.book ≡ not lacks = room_is lacks refl in
        subst (λ b. (Some (if b then event_in c body old.book else event.Rejected c) ≡ event_of old.version (item_of_frame old.version at c body items) items)
        × Adds old (with_applied size (with_item (if b then Got old.at c body else Rejected old.at c body) old)) items (at + size) (drop size rest) (item_of_frame old.version at c body items)) (sym room)
        (subst (λ n. (Some (if not lacks then event_in c body old.book else event.Rejected c) ≡ event_of old.version (item_of_frame old.version at c body items) items)
        × Adds old (with_applied size (with_item (if not lacks then Got n c body else Rejected n c body) old)) items (at + size) (drop size rest) (item_of_frame old.version at c body items)) (sym s.at_is)
        (by_room size lacks refl))

  module _ (new : EndValue) (ready : is_ready old.version items ≡ true) where
    by_frame : (f : ChannelFrame) (size : ℕ) (refused : Option Reason) (result : MuxStep) → frame_refusal old.version f.key f.body items ≡ refused → Steps old new (frame_arrival f old.at size refused) result
        → StepAnswers old new items at rest None (frame_arrival f at size refused) result
    by_frame f size None (step.Event e) is h =
        let done = applied f.key f.body ready is size in
        (ap Some h.0 ∙ done.0, subst (λ (n : EndValue). Adds old n items (at + size) (drop size rest) (item_of_frame old.version at f.key f.body items)) (sym h.1) done.1)
    by_frame f size None step.OutOfMemory is h = h
    by_frame f size None step.Short is h = absurd h
    by_frame f size None (step.Ended c) is h = absurd h
    by_frame f size None step.Stopped is h = absurd h
    by_frame f size (Some r) (step.Ended c) is h = (h.0 ∙ ap (λ n. refused_at n r) s.at_is, ends old new items at rest c s run h.1)
    by_frame f size (Some r) step.OutOfMemory is h = h
    by_frame f size (Some r) (step.Event e) is h = absurd h
    by_frame f size (Some r) step.Short is h = absurd h
    by_frame f size (Some r) step.Stopped is h = absurd h

    refusal_is : (f : ChannelFrame) → frame_refusal old.version f.key f.body items ≡ frame_in f.key f.body old.book
    refusal_is f = frame_by_book old.version f.key f.body items ∙ ap (frame_in f.key f.body) (sym s.book)

    frame_answers : (frame : Frame) (size : ℕ) (result : MuxStep) → Steps old new (front_arrives old (Whole frame size)) result → StepAnswers old new items at rest None (arrival_of_frame old.version items at (Whole frame size)) result
    frame_answers frame size result h =
        let f = taken_frame (party_or_neither old.book.party) frame in
        let party : party_of items ≡ party_or_neither old.book.party = ap (λ (b : Book). party_or_neither b.party) (sym s.book) in
        subst (λ p. StepAnswers old new items at rest None (taken_arrival old.version items (taken_frame p frame) at size) result) (sym party)
        (subst (λ refused. StepAnswers old new items at rest None (frame_arrival f at size refused) result) (sym (refusal_is f))
        (by_frame f size (frame_in f.key f.body old.book) result (refusal_is f) h))

    by_front : (f : Front) (result : MuxStep) → Steps old new (front_arrives old f) result → StepAnswers old new items at rest None (arrival_of_frame old.version items at f) result
    by_front (Whole frame size) result h = frame_answers frame size result h
    by_front Short step.Short h = h
    by_front Short step.OutOfMemory h = h
    by_front Short (step.Event e) h = absurd h
    by_front Short (step.Ended c) h = absurd h
    by_front Short step.Stopped h = absurd h
    by_front (Broken offset r) (step.Ended c) h = (h.0 ∙ ap (λ n. refused_at (n + offset) r) s.at_is, ends old new items at rest c s run h.1)
    by_front (Broken offset r) step.OutOfMemory h = h
    by_front (Broken offset r) (step.Event e) h = absurd h
    by_front (Broken offset r) step.Short h = absurd h
    by_front (Broken offset r) step.Stopped h = absurd h

  greets : (v : Version) (own bytes : List ℕ) (party : Party) (size : ℕ) → handshake v own bytes ≡ Whole party size → v ≡ old.version → is_ready v items ≡ false → IsGreeting old.version party items
  greets v own bytes party size whole same waits =
      let parts = or_parts (is_three v) (is_greeted (greeting items)) waits in
      let other : is_three v ≡ false = parts.0 in
      record {
        needed = ap is_three (sym same) ∙ other;
        parity = handshake_parity v own bytes party size other whole;
        once = ungreeted (greeting items) parts.1;
        running = ap is_none (still_running old items at rest s run);
      }
    where
      ungreeted : (met : Option Party) → is_greeted met ≡ false → met ≡ None
      ungreeted None e = refl
      ungreeted (Some party) e = absurd cc

  by_handshake : (new : EndValue) (h : Handshake) (result : MuxStep) → is_ready old.version items ≡ false → handshake old.version old.nonce old.rest ≡ h → Steps old new (arrival_of_handshake old.at h) result
      → StepAnswers old new items at rest None (arrival_of_handshake at h) result
  by_handshake new (Whole party size) (step.Event e) waits whole h = (
    h.0,
    subst (λ (n : EndValue). Adds old n items (at + size) (drop size rest) (Hello party)) (sym h.1)
        (adds_item old (with_applied size (with_greeting party old)) items at (at + size) rest (drop size rest) (Hello party) s (greets old.version old.nonce old.rest party size whole refl waits, s.allowed) refl refl refl (sym (append-nil old.output))
        (run ∙ ap state_by (sym (ap (λ (b : Book). b.cause) s.book ∙ still_running old items at rest s run))) (ap (λ n. n + size) s.at_is) (ap (drop size) s.rest_is)),
  )
  by_handshake new (Whole party size) step.OutOfMemory waits whole h = h
  by_handshake new (Whole party size) step.Short waits whole h = absurd h
  by_handshake new (Whole party size) (step.Ended c) waits whole h = absurd h
  by_handshake new (Whole party size) step.Stopped waits whole h = absurd h
  by_handshake new Short step.Short waits whole h = h
  by_handshake new Short step.OutOfMemory waits whole h = h
  by_handshake new Short (step.Event e) waits whole h = absurd h
  by_handshake new Short (step.Ended c) waits whole h = absurd h
  by_handshake new Short step.Stopped waits whole h = absurd h
  by_handshake new (Broken offset r) (step.Ended c) waits whole h = (h.0 ∙ ap (λ n. refused_at (n + offset) r) s.at_is, ends old new items at rest c s run h.1)
  by_handshake new (Broken offset r) step.OutOfMemory waits whole h = h
  by_handshake new (Broken offset r) (step.Event e) waits whole h = absurd h
  by_handshake new (Broken offset r) step.Short waits whole h = absurd h
  by_handshake new (Broken offset r) step.Stopped waits whole h = absurd h

  ready_is : is_ready old.version items ≡ is_ready_book old.book
  ready_is = ap (λ (b : Book). is_ready_book b) (sym s.book)

  going : (new : EndValue) (arrives : Arrival) (result : MuxStep) → StepAnswers old new items at rest None arrives result → StepAnswers old new items at rest (ended items) arrives result
  going new arrives result h = subst (λ (o : Option Cause). StepAnswers old new items at rest o arrives result) (sym (still_running old items at rest s run)) h

  arrival_if : Bool → List ℕ → Arrival
  arrival_if ready bytes = if ready then arrival_of_frame old.version items at (front old.version bytes) else arrival_of_handshake at (handshake old.version old.nonce bytes)

  -- a step of a running end that is ready
  pub step_answers : (new : EndValue) (result : MuxStep) → is_ready_book old.book ≡ true → Steps old new (front_arrives old (front old.version old.rest)) result
      → StepAnswers old new items at rest (ended items) (arrival old.version old.nonce items at rest) result
  unfolding arrival_if
  step_answers new result ready h =
      let is = ready_is ∙ ready in
      going new (arrival old.version old.nonce items at rest) result
      (subst (λ b. StepAnswers old new items at rest None (arrival_if b rest) result) (sym is)
      (subst (λ bytes. StepAnswers old new items at rest None (arrival_of_frame old.version items at (front old.version bytes)) result) s.rest_is (by_front new is (front old.version old.rest) result h)))

  -- a step of a running end that waits for the peer's handshake
  pub greeting_answers : (new : EndValue) (result : MuxStep) → is_ready_book old.book ≡ false → Steps old new (arrival_of_handshake old.at (handshake old.version old.nonce old.rest)) result
      → StepAnswers old new items at rest (ended items) (arrival old.version old.nonce items at rest) result
  unfolding arrival_if
  greeting_answers new result waits h =
      let is = ready_is ∙ waits in
      going new (arrival old.version old.nonce items at rest) result
      (subst (λ b. StepAnswers old new items at rest None (arrival_if b rest) result) (sym is)
      (subst (λ bytes. StepAnswers old new items at rest None (arrival_of_handshake at (handshake old.version old.nonce bytes)) result) s.rest_is (by_handshake new (handshake old.version old.nonce old.rest) result is refl h)))

-- an event takes bytes
frame_shortens : (old new : EndValue) (f : ChannelFrame) (size : ℕ) (refused : Option Reason) (e : MuxEvent) → (0 < size) × (size ≤ length old.rest) → Steps old new (frame_arrival f old.at size refused) (step.Event e) → length new.rest < length old.rest
frame_shortens old new f size None e within h =
    let left : new.rest ≡ drop size old.rest = ap (λ (n : EndValue). n.rest) h.1 in
    omega (arith, ap length left, length-drop size old.rest)
frame_shortens old new f size (Some r) e within h = absurd h

front_shortens : (old new : EndValue) (f : Front) (e : MuxEvent) → front old.version old.rest ≡ f → Steps old new (front_arrives old f) (step.Event e) → length new.rest < length old.rest
front_shortens old new (Whole frame size) e is h = let f = taken_frame (party_or_neither old.book.party) frame in frame_shortens old new f size (frame_in f.key f.body old.book) e (front_within old.version old.rest frame size is) h
front_shortens old new Short e is h = absurd h
front_shortens old new (Broken offset r) e is h = absurd h

pub event_shortens : (old new : EndValue) (result : MuxStep) (e : MuxEvent) → result ≡ step.Event e → Steps old new (front_arrives old (front old.version old.rest)) result → length new.rest < length old.rest
event_shortens old new result e is h = front_shortens old new (front old.version old.rest) e refl (subst (λ (r : MuxStep). Steps old new (front_arrives old (front old.version old.rest)) r) is h)

handshake_shortens : (old new : EndValue) (h : Handshake) (e : MuxEvent) → old.version ≢ version.Three → handshake old.version old.nonce old.rest ≡ h → Steps old new (arrival_of_handshake old.at h) (step.Event e) → length new.rest < length old.rest
handshake_shortens old new (Whole party size) e other is h =
    let left : new.rest ≡ drop size old.rest = ap (λ (n : EndValue). n.rest) h.1 in
    let some = handshake_takes old.version old.nonce old.rest party size other is in
    let within = whole_within old.version old.nonce old.rest party size is in
    omega (arith, ap length left, length-drop size old.rest)
handshake_shortens old new Short e other is h = absurd h
handshake_shortens old new (Broken offset r) e other is h = absurd h

pub greeting_shortens : (old new : EndValue) (result : MuxStep) (e : MuxEvent) → is_three old.version ≡ false → result ≡ step.Event e → Steps old new (arrival_of_handshake old.at (handshake old.version old.nonce old.rest)) result → length new.rest < length old.rest
greeting_shortens old new result e unlike is h =
    handshake_shortens old new (handshake old.version old.nonce old.rest) e (λ three. false≢true (sym unlike ∙ ap is_three three)) refl
    (subst (λ (r : MuxStep). Steps old new (arrival_of_handshake old.at (handshake old.version old.nonce old.rest)) r) is h)
