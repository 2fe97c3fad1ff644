-- What an end makes of a frame.
use Rattle.std.specs.Prelude.{◌≡◌, ℕ, List, [], ◌∷◌, length, Bool, true, false, ◌&&◌, ◌||◌, nat_le, if◌then◌else◌, Option, Some, None}
use Rattle.wire_base.specs.declared.frame.Version.{Version}
use Rattle.wire_base.specs.declared.place.Place.{Place}
use Rattle.wire_base.specs.declared.reason.Reason.{Reason}
use Rattle.wire_base.specs.declared.state.Cause.TheVariants as cause
use Rattle.mux_items.specs.declared.channel.ChannelKey.{ChannelKey}
use Rattle.mux_items.specs.declared.channel.MuxEvent.{MuxEvent}
use Rattle.mux_items.specs.declared.channel.MuxEvent.TheVariants as event
use Rattle.mux_items.specs.Bodies.{FrameBody, Offer, OfferAccepted, Content, ContentWritingCompleted, ChannelTerminated, ContentProcessed, is_three}
use Rattle.mux_items.specs.Items.{Item, Hello, DidOffer, DidAccept, DidWrite, DidRead, DidComplete, DidTerminate, Got, Rejected, End, is_running, greeting}
use Rattle.mux_items.specs.Lists.{is_rejected, is_terminated_by_peer, termination_emitted}
use Rattle.mux_items.specs.Kept.{kept_keys, next_key}
use Rattle.mux_items.specs.Limits.{most_channels}
use Rattle.mux_items.specs.declared.party.Party.{Party}
use Rattle.mux_items.specs.declared.party.Party.TheVariants.{Odd, Even, Neither}
use Rattle.mux_items.specs.Refusals.{is_ready, offer_refusal, accept_refusal, write_refusal, read_refusal, complete_refusal, terminate_refusal, frame_refusal}

abbrev pub is_offer : FrameBody → Bool
is_offer (Offer name size) = true
is_offer body = false

-- an offer is rejected where no more channels are kept
abbrev pub lacks_room : Version → FrameBody → List Item → Bool
lacks_room v body items = is_offer body && nat_le most_channels (length (kept_keys v items))

-- the item of a frame that no rule refuses
abbrev pub item_of_frame : Version → ℕ → ChannelKey → FrameBody → List Item → Item
item_of_frame v place c body items = if lacks_room v body items then Rejected place c body else Got place c body

abbrev pub place_at : ℕ → Place
place_at n = record { 0 = n }

-- the items after a frame came, by its refusal
abbrev pub after_frame : Version → ℕ → ChannelKey → FrameBody → List Item → Option Reason → List Item
after_frame v place c body items None = item_of_frame v place c body items ∷ items
after_frame v place c body items (Some reason) = End (cause.Refused (place_at place) reason) ∷ items

abbrev pub apply_frame : Version → ℕ → ChannelKey → FrameBody → List Item → List Item
apply_frame v place c body items = after_frame v place c body items (frame_refusal v c body items)

-- the event of a heeded frame
abbrev pub heeded_event : ChannelKey → FrameBody → MuxEvent
heeded_event c (Offer name size) = event.Offered c
heeded_event c (OfferAccepted size) = event.Accepted c
heeded_event c (Content bytes) = event.Content c (length bytes)
heeded_event c ContentWritingCompleted = event.Completed c
heeded_event c ChannelTerminated = event.Closed c
heeded_event c (ContentProcessed count) = event.Credit c count

-- the peer's first termination closes a channel that wasn't rejected; of other frames those that aren't heeded are ignored
abbrev pub frame_event : Version → ChannelKey → FrameBody → List Item → MuxEvent
frame_event v c ChannelTerminated items = if is_rejected c items || is_terminated_by_peer c items then event.Ignored c else event.Closed c
frame_event v c (Offer name size) items = event.Offered c
frame_event v c body items = if termination_emitted v c items then event.Ignored c else heeded_event c body

-- the event of an item that isn't an own call
abbrev pub event_of : Version → Item → List Item → Option MuxEvent
event_of v (Hello party) items = Some event.Ready
event_of v (Got place c body) items = Some (frame_event v c body items)
event_of v (Rejected place c body) items = Some (event.Rejected c)
event_of v item items = None

-- a handshake makes an end of either parity
abbrev pub is_parity : Party → Bool
is_parity Odd = true
is_parity Even = true
is_parity Neither = false

-- the peer's handshake comes once, in versions 1 and 2
pub record IsGreeting (v : Version) (party : Party) (items : List Item) : Type 0 where
  pub needed : is_three v ≡ false
  pub parity : is_parity party ≡ true
  pub once : greeting items ≡ None
  pub running : is_running items ≡ true

-- a frame comes to a running end that is ready for it, where no rule refuses it
pub record IsTaken (v : Version) (c : ChannelKey) (body : FrameBody) (items : List Item) : Type 0 where
  pub ready : is_ready v items ≡ true
  pub running : is_running items ≡ true
  pub unrefused : frame_refusal v c body items ≡ None

-- each call was accepted where it stands, each applied frame is one that no rule refuses there, and only reads follow the end
abbrev pub Allowed : Version → List Item → Type 0
Allowed v [] = Unit {0}
Allowed v (Hello party ∷ items) = IsGreeting v party items × Allowed v items
Allowed v (DidOffer c name size ∷ items) = (offer_refusal v name size items ≡ None) × (c ≡ next_key items) × Allowed v items
Allowed v (DidAccept c size ∷ items) = (accept_refusal v c size items ≡ None) × Allowed v items
Allowed v (DidWrite c bytes ∷ items) = (write_refusal v c bytes items ≡ None) × Allowed v items
Allowed v (DidRead c max ∷ items) = (read_refusal v c items ≡ None) × Allowed v items
Allowed v (DidComplete c ∷ items) = (complete_refusal v c items ≡ None) × Allowed v items
Allowed v (DidTerminate c ∷ items) = (terminate_refusal v c items ≡ None) × Allowed v items
Allowed v (Got place c body ∷ items) = IsTaken v c body items × (lacks_room v body items ≡ false) × Allowed v items
Allowed v (Rejected place c body ∷ items) = IsTaken v c body items × (lacks_room v body items ≡ true) × Allowed v items
Allowed v (End cause ∷ items) = (is_running items ≡ true) × Allowed v items
