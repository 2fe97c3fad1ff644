-- Worked values: what an end of version 3 keeps of its channels as items come.
use Rattle.std.specs.Prelude.{List, [], ◌∷◌, true, false, Some, None}
use Rattle.std.proofs.Common.{◌≡◌, refl}
use Rattle.wire_base.specs.declared.frame.Version.TheVariants as version
use Rattle.wire_base.specs.declared.reason.Reason.TheVariants as reason
use Rattle.wire_base.specs.declared.refusal.Refusal.TheVariants as refusal
use Rattle.wire_base.specs.declared.state.Cause.TheVariants as cause
use Rattle.mux_items.specs.declared.channel.ChannelKey.{ChannelKey}
use Rattle.mux_items.specs.declared.channel.MuxEvent.TheVariants as event
use Rattle.mux_items.specs.declared.channel.Phase.TheVariants as phase
use Rattle.mux_items.specs.Bodies.{Offer, OfferAccepted, Content, ContentWritingCompleted, ChannelTerminated, ContentProcessed, frame_on}
use Rattle.mux_items.specs.Items.{Item, DidOffer, DidAccept, DidWrite, DidRead, DidComplete, DidTerminate, Got, Rejected, End}
use Rattle.mux_state.specs.State.{ChannelState}
use Rattle.mux_state.specs.Tests.{on_kept, open_test, write_test}
use Rattle.mux_state.specs.Book.{Kept, Gone, Book, empty_book, event_in, due_of_book, found, frame_in, kept_in, known_in, next_book}

-- a book after items, the newest first
abbrev book : List Item → Book
book [] = empty_book version.Three
book (item ∷ items) = next_book item (book items)

-- an own channel, and channels of the peer
abbrev here : ChannelKey
here = record { id = 1; own = true }

abbrev there : ChannelKey
there = record { id = 1; own = false }

abbrev third : ChannelKey
third = record { id = 3; own = false }

-- five bytes are written where the peer's window is 4
abbrev wrote : List Item
wrote = DidWrite here (104 ∷ 101 ∷ 108 ∷ 108 ∷ 111 ∷ []) ∷ Got 20 here (OfferAccepted (Some 4)) ∷ DidOffer here (97 ∷ []) 8 ∷ []

abbrev five_written : ChannelState
five_written = record { version = version.Three; own = true; window = 8; accepted = true; written = 5; pending = 111 ∷ []; emitted = 4; completing = false; completion_sent = false; granted = 4; acknowledged = 0; taken = 0; unread = []; handed = 0; completed = false; termination_sent = false; peer_terminated = false }

keeps_the_fifth : found here (book wrote) ≡ Some (Kept five_written)
keeps_the_fifth = refl

waits_for_credit : due_of_book (DidComplete here) (book wrote) ≡ []
waits_for_credit = refl

-- the credit of the fifth byte lets the completion go too
credit_sends_both : due_of_book (Got 30 here (ContentProcessed 1)) (book (DidComplete here ∷ wrote)) ≡ frame_on here (Content (111 ∷ [])) ∷ frame_on here ContentWritingCompleted ∷ []
credit_sends_both = refl

-- after both completions the channel is terminated, and waits for the peer's termination
abbrev both_done : List Item
both_done = Got 40 here ContentWritingCompleted ∷ Got 30 here (ContentProcessed 1) ∷ DidComplete here ∷ wrote

last_completion_sends : due_of_book (Got 40 here ContentWritingCompleted) (book (Got 30 here (ContentProcessed 1) ∷ DidComplete here ∷ wrote)) ≡ frame_on here ChannelTerminated ∷ []
last_completion_sends = refl

stands_closing : found here (book both_done) ≡ Some (Kept (record five_written { pending = []; emitted = 5; completing = true; completion_sent = true; granted = 5; acknowledged = 1; completed = true; termination_sent = true }))
stands_closing = refl

is_gone : found here (book (Got 50 here ChannelTerminated ∷ both_done)) ≡ Some (Gone (record { phase = phase.Closed; written = 5; emitted = 5; taken = 0; handed = 0 }))
is_gone = refl

-- terminated here: the fifth byte is dropped, and what comes is ignored but for the peer's termination
abbrev terminated : List Item
terminated = DidTerminate here ∷ wrote

termination_goes : due_of_book (DidTerminate here) (book wrote) ≡ frame_on here ChannelTerminated ∷ []
termination_goes = refl

drops_pending : found here (book terminated) ≡ Some (Kept (record five_written { pending = []; termination_sent = true }))
drops_pending = refl

is_not_open : on_kept (kept_in (found here (book terminated))) (write_test []) ≡ Some refusal.NotOpen
is_not_open = refl

ignores_content : event_in here (Content (1 ∷ [])) (book terminated) ≡ event.Ignored here
ignores_content = refl

stays_closing : found here (book (Got 60 here (Content (1 ∷ [])) ∷ terminated)) ≡ found here (book terminated)
stays_closing = refl

closes : event_in here ChannelTerminated (book terminated) ≡ event.Closed here
closes = refl

abbrev closed : List Item
closed = Got 70 here ChannelTerminated ∷ terminated

tells_what_came : found here (book closed) ≡ Some (Gone (record { phase = phase.Closed; written = 5; emitted = 4; taken = 0; handed = 0 }))
tells_what_came = refl

ignores_a_second : event_in here ChannelTerminated (book closed) ≡ event.Ignored here
ignores_a_second = refl

refuses_nothing : frame_in here (OfferAccepted (Some 1)) (book closed) ≡ None
refuses_nothing = refl

sends_nothing : due_of_book (Got 80 here ChannelTerminated) (book closed) ≡ []
sends_nothing = refl

no_channel : on_kept (kept_in (found here (book closed))) open_test ≡ Some refusal.NoChannel
no_channel = refl

-- the peer terminates a channel with two unread bytes, which stay readable
abbrev left_unread : List Item
left_unread = Got 50 there ChannelTerminated ∷ Got 40 there (Content (1 ∷ 2 ∷ [])) ∷ DidAccept there 4 ∷ Got 10 there (Offer (98 ∷ []) (Some 8)) ∷ []

abbrev two_unread : ChannelState
two_unread = record { version = version.Three; own = false; window = 4; accepted = true; written = 0; pending = []; emitted = 0; completing = false; completion_sent = false; granted = 8; acknowledged = 0; taken = 2; unread = 1 ∷ 2 ∷ []; handed = 0; completed = false; termination_sent = true; peer_terminated = true }

keeps_unread : found there (book left_unread) ≡ Some (Kept two_unread)
keeps_unread = refl

acknowledges_none : due_of_book (DidRead there 1) (book left_unread) ≡ []
acknowledges_none = refl

keeps_the_second : found there (book (DidRead there 1 ∷ left_unread)) ≡ Some (Kept (record two_unread { unread = 2 ∷ []; handed = 1 }))
keeps_the_second = refl

is_gone_when_read : found there (book (DidRead there 9 ∷ DidRead there 1 ∷ left_unread)) ≡ Some (Gone (record { phase = phase.Closed; written = 0; emitted = 0; taken = 2; handed = 2 }))
is_gone_when_read = refl

-- unread bytes are dropped where the channel is terminated here
drops_unread : found there (book (DidTerminate there ∷ Got 40 there (Content (1 ∷ 2 ∷ [])) ∷ DidAccept there 4 ∷ Got 10 there (Offer (98 ∷ []) (Some 8)) ∷ [])) ≡ Some (Kept (record two_unread { unread = []; peer_terminated = false }))
drops_unread = refl

-- what waits for acceptance is dropped where the peer terminates
drops_what_waited : found here (book (Got 20 here ChannelTerminated ∷ DidWrite here (1 ∷ 2 ∷ []) ∷ DidOffer here (97 ∷ []) 8 ∷ [])) ≡ Some (Gone (record { phase = phase.Closed; written = 2; emitted = 0; taken = 0; handed = 0 }))
drops_what_waited = refl

-- the end drops what is pending
end_drops_pending : found here (book (End cause.InputEnded ∷ wrote)) ≡ Some (Kept (record five_written { pending = [] }))
end_drops_pending = refl

-- a rejected offer is answered by a termination, and its channel is offered but not known
abbrev rejects : List Item
rejects = Rejected 10 there (Offer (98 ∷ []) (Some 8)) ∷ wrote

rejection_goes : due_of_book (Rejected 10 there (Offer (98 ∷ []) (Some 8))) (book wrote) ≡ frame_on there ChannelTerminated ∷ []
rejection_goes = refl

knows_no_rejected : known_in (book rejects) ≡ here ∷ []
knows_no_rejected = refl

is_in_use : frame_in there (Offer (98 ∷ []) (Some 8)) (book rejects) ≡ Some reason.IdInUse
is_in_use = refl

ignores_the_rejected : event_in there ChannelTerminated (book rejects) ≡ event.Ignored there
ignores_the_rejected = refl

was_not_offered : frame_in third ChannelTerminated (book rejects) ≡ Some reason.NoChannel
was_not_offered = refl

-- own channels stand before the peer's, and each side's by rising id
stand_in_order : known_in (book (Got 30 there (Offer (98 ∷ []) None) ∷ DidOffer here (97 ∷ []) 8 ∷ Got 10 third (Offer (98 ∷ []) None) ∷ [])) ≡ here ∷ there ∷ third ∷ []
stand_in_order = refl
