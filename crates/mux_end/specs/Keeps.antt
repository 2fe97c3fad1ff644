-- What a frame that comes makes of an end's book.
use Rattle.std.specs.Prelude.{ℕ, ◌+◌, ◌++◌, List, [], ◌∷◌, Bool, not, nat_lt, nat_le, if◌then◌else◌, Option, Some, None}
use Rattle.wire_base.specs.declared.reason.Reason.{Reason}
use Rattle.wire_base.specs.declared.reason.Reason.TheVariants as reason
use Rattle.wire_base.specs.declared.refusal.Refusal.{Refusal}
use Rattle.wire_base.specs.declared.refusal.Refusal.TheVariants as refusal
use Rattle.mux_items.specs.declared.channel.ChannelKey.{ChannelKey}
use Rattle.mux_items.specs.declared.channel.MuxEvent.{MuxEvent}
use Rattle.mux_items.specs.declared.channel.MuxEvent.TheVariants as event
use Rattle.mux_items.specs.Bodies.{FrameBody, ChannelTerminated, ChannelFrame, frame_on}
use Rattle.mux_items.specs.Items.{Item, Got, Rejected}
use Rattle.mux_items.specs.Limits.{most_channels, most_offers, most_windows}
use Rattle.mux_state.specs.Next.{heard_state}
use Rattle.mux_state.specs.Book.{Book, change_at, entry_at, event_in, found, frame_on_found, has_offer, has_room, insert_entry, kept_count, own_count, windows_in}
use Rattle.mux_end.specs.Known.{heeds}

-- the item of a frame that isn't refused, and what it is to the end
abbrev pub item_in : (place : ℕ) → ChannelKey → FrameBody → Book → Item
item_in place c body book = if has_room body book then Got place c body else Rejected place c body

abbrev pub event_by : ChannelKey → FrameBody → Book → MuxEvent
event_by c body book = if has_room body book then event_in c body book else event.Rejected c

-- an offer of the peer
abbrev pub offer_in : ChannelKey → Book → Option Reason
offer_in c book = if c.own then Some reason.WrongSide else if has_offer c book then Some reason.IdInUse else None

abbrev pub is_full : Book → Bool
is_full book = nat_le most_channels (kept_count book)

abbrev pub heard_book : ChannelKey → (peer_window : ℕ) → Book → Book
heard_book c peer_window book =
    if is_full book then record book { rejected = book.rejected ++ c ∷ [] } else record book { entries = insert_entry (entry_at c (heard_state book.version peer_window)) book.entries }

abbrev pub heard_frames : ChannelKey → Book → List ChannelFrame
heard_frames c book = if is_full book then frame_on c ChannelTerminated ∷ [] else []

abbrev pub heard_event : ChannelKey → Book → MuxEvent
heard_event c book = if is_full book then event.Rejected c else event.Offered c

-- a frame that isn't an offer
abbrev pub later_in : ChannelKey → FrameBody → Book → Option Reason
later_in c body book = if not (has_offer c book) then Some reason.NoChannel else frame_on_found body (found c book)

abbrev pub later_book : ChannelKey → FrameBody → Book → Book
later_book c body book = record book { entries = change_at c (heeds body) book.entries }

-- the tests of an offer that ask for the channels that there are
abbrev pub room_test : (size : ℕ) → Book → Option Refusal
room_test size book =
    if nat_le most_channels (kept_count book) then Some refusal.TooManyChannels
    else if nat_lt most_windows (windows_in book + size) then Some refusal.WindowsSpent
    else if nat_le most_offers (own_count book) then Some refusal.TooManyOffers
    else None
