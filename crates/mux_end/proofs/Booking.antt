-- What a call or a frame makes of an end's book.
use Rattle.std.specs.Prelude.{ℕ, List, Bool, true, false, not, if◌then◌else◌, Option, Some, None, Result, Ok, Err, OnOk, ◌++◌, is_none}
use Rattle.std.proofs.Common.{◌≡◌, refl, sym, ◌∙◌, ap, subst}
use Rattle.frame_text.specs.Frames.{fits_id}
use Rattle.wire_base.specs.declared.fault.CallFault.{CallFault}
use Rattle.wire_base.specs.declared.fault.CallFault.TheVariants as fault
use Rattle.wire_base.specs.declared.frame.Code.{Code}
use Rattle.wire_base.specs.declared.frame.Code.TheVariants as code
use Rattle.wire_base.specs.declared.frame.Payload.{Payload}
use Rattle.wire_base.specs.declared.frame.Payload.TheVariants as payload
use Rattle.wire_base.specs.declared.frame.Version.{Version}
use Rattle.wire_base.specs.declared.reason.Reason.{Reason}
use Rattle.wire_base.specs.declared.reason.Reason.TheVariants as reason
use Rattle.wire_base.specs.declared.refusal.Refusal.{Refusal}
use Rattle.channel_credit.specs.declared.take_fault.TakeFault.{TakeFault}
use Rattle.channel_credit.specs.declared.take_fault.TakeFault.TheVariants as take_fault
use Rattle.mux_items.specs.declared.channel.ChannelKey.{ChannelKey}
use Rattle.mux_items.specs.Bodies.{FrameBody, Offer, OfferAccepted, Content, ContentWritingCompleted, ChannelTerminated, ContentProcessed, ChannelFrame, body_of, frame_texts}
use Rattle.mux_items.specs.Items.{Got}
use Rattle.mux_items.specs.Applying.{is_offer}
use Rattle.mux_items.specs.Refusals.{unless_ended}
use Rattle.mux_state.specs.State.{ChannelState}
use Rattle.mux_state.specs.Tests.{on_kept}
use Rattle.mux_state.specs.Book.{Book, Entry, Standing, Kept, Gone, change_at, due_found, due_of_book, entry_at, event_found, found, frame_in, frame_on_found, has_offer, kept_in, next_book}
use Rattle.mux_end.specs.declared.channel_call.ChannelCall.{ChannelCall}
use Rattle.mux_end.specs.declared.channel_call.ChannelCall.TheVariants.{Write, Complete, Terminate}
use Rattle.mux_end.specs.ChannelCalls.{called_frames, called_state, item_of, test_of}
use Rattle.mux_end.specs.Known.{IsOf, Leaves, Takes, frames_after, heeds}
use Rattle.mux_end.specs.Keeps.{event_by, item_in, later_book, later_in}

-- a call on the channels is a call on the book
book_leaves : {A : Type 0} (b : Book) (after new : List Entry) (refused : Option Refusal) (result : Result A CallFault) → Leaves refused b.entries after new result → Leaves refused b (record b { entries = after }) (record b { entries = new }) result
book_leaves b after new None (Ok x) h = ap (λ es. record b { entries = es }) h
book_leaves b after new None (Err fault.OutOfMemory) h = tt
book_leaves b after new None (Err (fault.Refused r)) h = absurd h
book_leaves b after new (Some r) (Err (fault.Refused t)) h = (h.0, ap (λ es. record b { entries = es }) h.1)
book_leaves b after new (Some r) (Err fault.OutOfMemory) h = absurd h
book_leaves b after new (Some r) (Ok x) h = absurd h

pub read_leaves : {A : Type 0} (b old : Book) (c : ChannelKey) (n : List Entry) (test : ChannelState → Option Refusal) (change : ChannelState → ChannelState) (result : Result A CallFault) → b ≡ old
    → Leaves (on_kept (kept_in (found c b)) test) b.entries (change_at c change b.entries) n result
    → Leaves (on_kept (kept_in (found c old)) test) old (record old { entries = change_at c change old.entries }) (record b { entries = n }) result
read_leaves b old c n test change result is h =
    subst (λ (o : Book). Leaves (on_kept (kept_in (found c o)) test) o (record o { entries = change_at c change o.entries }) (record b { entries = n }) result) is
    (book_leaves b (change_at c change b.entries) n (on_kept (kept_in (found c b)) test) result h)

call_leaves : {A : Type 0} (b old : Book) (c : ChannelKey) (n : List Entry) (test : ChannelState → Option Refusal) (change : ChannelState → ChannelState) (result : Result A CallFault) → b ≡ old → b.cause ≡ None
    → Leaves (on_kept (kept_in (found c b)) test) b.entries (change_at c change b.entries) n result
    → Leaves (unless_ended old.cause (on_kept (kept_in (found c old)) test)) old (record old { entries = change_at c change old.entries }) (record b { entries = n }) result
call_leaves b old c n test change result is runs h =
    subst (λ cause. Leaves (unless_ended cause (on_kept (kept_in (found c old)) test)) old (record old { entries = change_at c change old.entries }) (record b { entries = n }) result)
    (sym runs ∙ ap (λ (o : Book). o.cause) is) (read_leaves b old c n test change result is h)

-- the item of a call on a channel, by the book
next_called : (c : ChannelKey) (call : ChannelCall) (b : Book) → next_book (item_of c call) b ≡ record b { entries = change_at c (called_state call) b.entries }
next_called c (Write bytes) b = refl
next_called c Complete b = refl
next_called c Terminate b = refl

due_standing : (c : ChannelKey) (call : ChannelCall) (running : Bool) (standing : Option Standing) → due_found c running (item_of c call) standing ≡ called_frames c call standing
due_standing c (Write bytes) running None = refl
due_standing c (Write bytes) running (Some (Kept now)) = refl
due_standing c (Write bytes) running (Some (Gone tally)) = refl
due_standing c Complete running None = refl
due_standing c Complete running (Some (Kept now)) = refl
due_standing c Complete running (Some (Gone tally)) = refl
due_standing c Terminate running None = refl
due_standing c Terminate running (Some (Kept now)) = refl
due_standing c Terminate running (Some (Gone tally)) = refl

due_of_call : (c : ChannelKey) (call : ChannelCall) (b : Book) → due_of_book (item_of c call) b ≡ due_found c (is_none b.cause) (item_of c call) (found c b)
due_of_call c (Write bytes) b = refl
due_of_call c Complete b = refl
due_of_call c Terminate b = refl

pub called_leaves : {A : Type 0} (b old : Book) (c : ChannelKey) (call : ChannelCall) (n : List Entry) (result : Result A CallFault) → b ≡ old → b.cause ≡ None
    → Leaves (on_kept (kept_in (found c b)) (test_of call)) b.entries (change_at c (called_state call) b.entries) n result
    → Leaves (unless_ended old.cause (on_kept (kept_in (found c old)) (test_of call))) old (next_book (item_of c call) old) (record b { entries = n }) result
called_leaves b old c call n result is runs h =
    subst (λ (next : Book). Leaves (unless_ended old.cause (on_kept (kept_in (found c old)) (test_of call))) old next (record b { entries = n }) result) (sym (next_called c call old))
    (call_leaves b old c n (test_of call) (called_state call) result is runs h)

pub call_output_by : {A : Type 0} (b old : Book) (c : ChannelKey) (call : ChannelCall) (out written : List ℕ) (result : Result A CallFault) → b ≡ old
    → OnOk result (written ≡ out ++ frame_texts b.version (called_frames c call (found c b))) → OnOk result (written ≡ out ++ frame_texts old.version (due_of_book (item_of c call) old))
call_output_by b old c call out written result is h =
    subst (λ (frames : List ChannelFrame). OnOk result (written ≡ out ++ frame_texts old.version frames)) (sym (due_of_call c call old ∙ due_standing c call (is_none old.cause) (found c old)))
    (subst (λ (o : Book). OnOk result (written ≡ out ++ frame_texts o.version (called_frames c call (found c o)))) is h)

book_takes : {A : Type 0} (b : Book) (after new : List Entry) (refused : Option Reason) (result : Result A TakeFault) → Takes refused b.entries after new result → Takes refused b (record b { entries = after }) (record b { entries = new }) result
book_takes b after new None (Ok x) h = ap (λ es. record b { entries = es }) h
book_takes b after new None (Err take_fault.OutOfMemory) h = tt
book_takes b after new None (Err (take_fault.Refused r)) h = absurd h
book_takes b after new (Some r) (Err (take_fault.Refused t)) h = (h.0, ap (λ es. record b { entries = es }) h.1)
book_takes b after new (Some r) (Err take_fault.OutOfMemory) h = absurd h
book_takes b after new (Some r) (Ok x) h = absurd h

offered_then : {A : Type 0} (offered : Bool) (x : A) (o : Option A) → offered ≡ true → (if not offered then Some x else o) ≡ o
offered_then true x o e = refl
offered_then false x o e = absurd cc

pub later_takes : {A : Type 0} (b old : Book) (c : ChannelKey) (body : FrameBody) (n : List Entry) (result : Result A TakeFault) → b ≡ old → has_offer c old ≡ true
    → Takes (frame_on_found body (found c b)) b.entries (change_at c (heeds body) b.entries) n result → Takes (later_in c body old) old (later_book c body old) (record b { entries = n }) result
later_takes b old c body n result is offered h =
    subst (λ refused. Takes refused old (later_book c body old) (record b { entries = n }) result) (sym (offered_then (has_offer c old) reason.NoChannel (frame_on_found body (found c old)) offered))
    (subst (λ (o : Book). Takes (frame_on_found body (found c o)) o (later_book c body o) (record b { entries = n }) result) is
    (book_takes b (change_at c (heeds body) b.entries) n (frame_on_found body (found c b)) result h))

-- what a frame that isn't an offer is to a book
pub record IsLater (place : ℕ) (c : ChannelKey) (body : FrameBody) (book : Book) : Type 0 where
  pub refusal : frame_in c body book ≡ later_in c body book
  pub next : next_book (item_in place c body book) book ≡ later_book c body book
  pub event : event_by c body book ≡ event_found c body (found c book)
  pub due : due_of_book (item_in place c body book) book ≡ frames_after c body (found c book)

due_later : (place : ℕ) (c : ChannelKey) (body : FrameBody) (running : Bool) (standing : Option Standing) → is_offer body ≡ false → due_found c running (Got place c body) standing ≡ frames_after c body standing
due_later place c (Offer name size) running standing e = absurd cc
due_later place c body running None e = refl
due_later place c body running (Some (Kept now)) e = refl
due_later place c body running (Some (Gone tally)) e = refl

later_is : (place : ℕ) (c : ChannelKey) (body : FrameBody) (book : Book) → is_offer body ≡ false → IsLater place c body book
later_is place c (Offer name size) book e = absurd cc
later_is place c (OfferAccepted size) book e = record { refusal = refl; next = refl; event = refl; due = due_later place c (OfferAccepted size) (is_none book.cause) (found c book) refl }
later_is place c (Content bytes) book e = record { refusal = refl; next = refl; event = refl; due = due_later place c (Content bytes) (is_none book.cause) (found c book) refl }
later_is place c ContentWritingCompleted book e = record { refusal = refl; next = refl; event = refl; due = due_later place c ContentWritingCompleted (is_none book.cause) (found c book) refl }
later_is place c ChannelTerminated book e = record { refusal = refl; next = refl; event = refl; due = due_later place c ChannelTerminated (is_none book.cause) (found c book) refl }
later_is place c (ContentProcessed count) book e = record { refusal = refl; next = refl; event = refl; due = due_later place c (ContentProcessed count) (is_none book.cause) (found c book) refl }

offer_no : (c : Code) (p : Payload) → ((name : List ℕ) (window : Option ℕ) → p ≡ payload.Offer name window → ⊥) → is_offer (body_of c p) ≡ false
offer_no c (payload.Offer name window) other = absurd (other name window refl)
offer_no c (payload.Accepted window) other = refl
offer_no c (payload.Content bytes) other = refl
offer_no c (payload.Processed count) other = refl
offer_no code.Offer payload.Nothing other = refl
offer_no code.OfferAccepted payload.Nothing other = refl
offer_no code.Content payload.Nothing other = refl
offer_no code.ContentWritingCompleted payload.Nothing other = refl
offer_no code.ChannelTerminated payload.Nothing other = refl
offer_no code.ContentProcessed payload.Nothing other = refl

pub frame_is_later : (place : ℕ) (key : ChannelKey) (c : Code) (p : Payload) (book : Book) → ((name : List ℕ) (window : Option ℕ) → p ≡ payload.Offer name window → ⊥) → IsLater place key (body_of c p) book
frame_is_later place key c p book other = later_is place key (body_of c p) book (offer_no c p other)

-- a channel that was just offered
pub fresh_of : (v now : Version) (c : ChannelKey) (s : ChannelState) (e : Entry) → v ≡ now → fits_id now c.id ≡ true → e ≡ entry_at c s → s.version ≡ v → IsOf v e
fresh_of v now c s e same fit is one = subst (IsOf v) (sym is) (record { fits = ap (λ w. fits_id w c.id) same ∙ fit; one_version = one })
