-- A frame that is applied or refused.
use Rattle.std.specs.Prelude.{ℕ, List, ◌++◌, Bool, true, false, ◌||◌, if◌then◌else◌, Option, Some, None, Ok, Err}
use Rattle.std.proofs.Common.{◌≡◌, refl, sym, ◌∙◌, ap, subst, arith, length-drop}
use Rattle.std.proofs.lemmas.Bool.{true≢false}
use Rattle.wire_base.specs.declared.frame.Frame.{Frame}
use Rattle.wire_base.specs.declared.place.Place.{Place}
use Rattle.wire_base.specs.declared.reason.Reason.{Reason}
use Rattle.wire_base.specs.declared.state.Cause.TheVariants as causes
use Rattle.wire_base.specs.Front.{Whole}
use Rattle.frame_reader.specs.Unread.{Unread, without_front}
use Rattle.frame_text.specs.Reading.{front}
use Rattle.frame_text.proofs.Within.{front_within}
use Rattle.channel_credit.specs.declared.take_fault.TakeFault.{TakeFault}
use Rattle.channel_credit.specs.declared.take_fault.TakeFault.TheVariants as take_fault
use Rattle.mux_items.specs.declared.channel.ChannelKey.{ChannelKey}
use Rattle.mux_items.specs.declared.channel.MuxEvent.{MuxEvent}
use Rattle.mux_items.specs.declared.party.Party.{Party}
use Rattle.mux_items.specs.Bodies.{FrameBody, ChannelFrame, body_of, frame_on, frame_texts, is_three, key_of, taken_frame}
use Rattle.mux_items.specs.Items.{Item, Got, Rejected, party_or_neither}
use Rattle.mux_items.specs.Applying.{place_at}
use Rattle.mux_items.specs.Refusals.{is_greeted}
use Rattle.mux_state.specs.Book.{Book, due_of_book, frame_in, has_room, is_ready_book, next_book}
use Rattle.mux_end.specs.declared.step.MuxStep.{MuxStep}
use Rattle.mux_end.specs.declared.step.MuxStep.TheVariants as step
use Rattle.mux_end.specs.Arrivals.{frame_arrival}
use Rattle.mux_end.specs.Ends.{Steps, frame_arrives, state_in, value_in, with_applied, with_end, with_item}
use Rattle.mux_end.specs.Keeps.{event_by, item_in}
use Rattle.mux_end.specs.Known.{Takes}
use Rattle.mux_end.specs.Reader.{IsReaderOf}
use Rattle.mux_end.specs.Stands.{EndValue}

-- the reader goes on behind a frame
pub skips : (book book' : Book) (reader : Unread) (frame : Frame) (size : ℕ) → IsReaderOf book reader → book'.version ≡ book.version → book'.party ≡ book.party → is_ready_book book ≡ true
    → front reader.version reader.rest ≡ Whole frame size → IsReaderOf book' (without_front size reader)
skips book book' reader frame size r version_is party_is ready whole =
    let within = front_within reader.version reader.rest frame size whole in
    record {
      one_version = r.one_version ∙ sym version_is;
      fed_all = omega (arith, r.fed_all, within.1, length-drop size reader.rest);
      fed_within = r.fed_within;
      waits = λ unready. absurd (true≢false (sym ready ∙ ((λ i. is_three (sym version_is i) || is_greeted (sym party_is i)) ∙ unready)));
    }

item_keeps : (room : Bool) (place : ℕ) (c : ChannelKey) (body : FrameBody) (book : Book) → (next_book (if room then Got place c body else Rejected place c body) book).cause ≡ book.cause
item_keeps true place c body book = refl
item_keeps false place c body book = refl

-- an end after a frame
after_frame : (nonce output output' : List ℕ) (book book' : Book) (reader reader' : Unread) (stopped : Bool) (size : ℕ) (item : Item) → book' ≡ next_book item book → output' ≡ output ++ frame_texts book.version (due_of_book item book)
    → reader' ≡ without_front size reader → (next_book item book).cause ≡ book.cause → value_in nonce book' output' reader' stopped ≡ with_applied size (with_item item (value_in nonce book output reader stopped))
after_frame nonce output output' book book' reader reader' stopped size item is wrote read keeps =
    (λ i. value_in nonce (is i) (wrote i) (read i) stopped)
    ∙ (λ i. record (with_applied size (with_item item (value_in nonce book output reader stopped))) { state = state_in stopped (keeps i) })

taken_at : (nonce output output' : List ℕ) (book book' : Book) (reader reader' : Unread) (stopped : Bool) (f : ChannelFrame) (size : ℕ) (refused : Option Reason) (e : MuxEvent)
    → Takes refused book (next_book (item_in reader.at f.key f.body book) book) book' (Ok e) → e ≡ event_by f.key f.body book
    → output' ≡ output ++ frame_texts book.version (due_of_book (item_in reader.at f.key f.body book) book) → reader' ≡ without_front size reader
    → Steps (value_in nonce book output reader stopped) (value_in nonce book' output' reader' stopped) (frame_arrival f reader.at size refused) (step.Event e)
taken_at nonce output output' book book' reader reader' stopped f size None e takes event wrote read =
    (event, after_frame nonce output output' book book' reader reader' stopped size (item_in reader.at f.key f.body book) takes wrote read (item_keeps (has_room f.body book) reader.at f.key f.body book))
taken_at nonce output output' book book' reader reader' stopped f size (Some r) e takes event wrote read = absurd takes

-- a frame that the book takes is applied
pub frame_taken : (nonce output output' : List ℕ) (book book' : Book) (reader reader' : Unread) (stopped : Bool) (f : ChannelFrame) (size : ℕ) (old : EndValue) (e : MuxEvent) → value_in nonce book output reader stopped ≡ old
    → Takes (frame_in f.key f.body book) book (next_book (item_in reader.at f.key f.body book) book) book' (Ok e) → e ≡ event_by f.key f.body book
    → output' ≡ output ++ frame_texts book.version (due_of_book (item_in reader.at f.key f.body book) book) → reader' ≡ without_front size reader
    → Steps old (value_in nonce book' output' reader' stopped) (frame_arrives old f size) (step.Event e)
frame_taken nonce output output' book book' reader reader' stopped f size old e is takes event wrote read =
    subst (λ (o : EndValue). Steps o (value_in nonce book' output' reader' stopped) (frame_arrives o f size) (step.Event e)) is
    (taken_at nonce output output' book book' reader reader' stopped f size (frame_in f.key f.body book) e takes event wrote read)

-- a frame that the book refuses leaves it, and ends the end
pub refused_by : (A : Type 0) (refused : Option Reason) (book after book' : Book) (fault : TakeFault) (reason : Reason) → fault ≡ take_fault.Refused reason → Takes {A = A} refused book after book' (Err fault) → (refused ≡ Some reason) × (book' ≡ book)
refused_by A (Some r) book after book' (take_fault.Refused t) reason is h = let same : t ≡ reason = cc in (ap Some (sym h.0 ∙ same), h.1)
refused_by A (Some r) book after book' take_fault.OutOfMemory reason is h = absurd h
refused_by A None book after book' take_fault.OutOfMemory reason is h = absurd cc
refused_by A None book after book' (take_fault.Refused t) reason is h = absurd h

pub frame_refused : (old new : EndValue) (f : ChannelFrame) (size : ℕ) (reason : Reason) (place : Place) (result : MuxStep) → frame_in f.key f.body old.book ≡ Some reason → place.0 ≡ old.at → new ≡ with_end (causes.Refused place reason) old
    → result ≡ step.Ended (causes.Refused place reason) → Steps old new (frame_arrives old f size) result
frame_refused old new f size reason place result refused place_is is answer =
    let at : place ≡ place_at old.at = λ i. record { 0 = place_is i } in
    subst (λ (r : MuxStep). Steps old new (frame_arrives old f size) r) (sym answer)
    (subst (λ (o : Option Reason). Steps old new (frame_arrival f old.at size o) (step.Ended (causes.Refused place reason))) (sym refused) (ap (λ p. causes.Refused p reason) at, is))

-- the frame as the code names it
pub frame_named : (book now : Book) (frame : Frame) (party : Party) (key : ChannelKey) → book ≡ now → party ≡ party_or_neither book.party → key ≡ key_of party frame
    → frame_on key (body_of frame.code frame.payload) ≡ taken_frame (party_or_neither now.party) frame
frame_named book now frame party key is party_is key_is =
    ap (λ k. frame_on k (body_of frame.code frame.payload)) (key_is ∙ ap (λ p. key_of p frame) (party_is ∙ ap (λ (b : Book). party_or_neither b.party) is))
