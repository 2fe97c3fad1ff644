-- Which calls and frames are refused, and why.
use Rattle.std.specs.Prelude.{ℕ, ◌+◌, List, length, Bool, true, false, not, ◌&&◌, ◌||◌, nat_lt, nat_le, if◌then◌else◌, Option, Some, None}
use Rattle.wire_base.specs.Options.{or_else}
use Rattle.wire_base.specs.declared.frame.Version.{Version}
use Rattle.wire_base.specs.declared.reason.Reason.{Reason}
use Rattle.wire_base.specs.declared.reason.Reason.TheVariants as reason
use Rattle.wire_base.specs.declared.refusal.Refusal.{Refusal}
use Rattle.wire_base.specs.declared.refusal.Refusal.TheVariants as refusal
use Rattle.wire_base.specs.declared.state.Cause.{Cause}
use Rattle.mux_items.specs.declared.channel.ChannelKey.{ChannelKey}
use Rattle.mux_items.specs.Bodies.{FrameBody, Offer, OfferAccepted, Content, ContentWritingCompleted, ChannelTerminated, ContentProcessed, is_one, is_three}
use Rattle.mux_items.specs.Items.{Item, ended, greeting}
use Rattle.mux_items.specs.Lists.{written, window, is_offered, has_completed, emitted, termination_emitted, is_accepted, is_completed, acknowledged, unread}
use Rattle.mux_items.specs.Kept.{is_kept, kept_keys, own_windows, own_offers}
use Rattle.mux_items.specs.Limits.{longest_name, greatest_window, most_windows, most_channels, most_offers, most_bytes}

-- in version 3 an end is ready from its start, else from the peer's handshake on
abbrev pub is_greeted : {A : Type 0} → Option A → Bool
is_greeted (Some party) = true
is_greeted None = false

abbrev pub is_ready : Version → List Item → Bool
is_ready v items = is_three v || is_greeted (greeting items)

-- a refusal that every call but a read has first
abbrev pub unless_ended : Option Cause → Option Refusal → Option Refusal
unless_ended (Some cause) otherwise = Some (refusal.Ended cause)
unless_ended None otherwise = otherwise

abbrev pub is_bad_window : ℕ → Bool
is_bad_window size = nat_lt size 1 || nat_lt greatest_window size

abbrev pub offer_refusal : Version → List ℕ → ℕ → List Item → Option Refusal
offer_refusal v name size items = unless_ended (ended items)
    (if not (is_ready v items) then Some refusal.NotReady
    else if nat_lt longest_name (length name) then Some refusal.NameTooLong
    else if is_bad_window size then Some refusal.BadWindow
    else if nat_le most_channels (length (kept_keys v items)) then Some refusal.TooManyChannels
    else if nat_lt most_windows (own_windows v items + size) then Some refusal.WindowsSpent
    else if nat_le most_offers (own_offers items) then Some refusal.TooManyOffers
    else None)

abbrev pub accept_refusal : Version → ChannelKey → ℕ → List Item → Option Refusal
accept_refusal v c size items = unless_ended (ended items)
    (if not (is_kept v c items) then Some refusal.NoChannel
    else if c.own then Some refusal.WrongSide
    else if termination_emitted v c items then Some refusal.NotOpen
    else if is_accepted v c items then Some refusal.AlreadyAccepted
    else if is_bad_window size then Some refusal.BadWindow
    else if nat_lt most_windows (own_windows v items + size) then Some refusal.WindowsSpent
    else None)

-- the peer's offer isn't accepted here
abbrev pub is_unaccepted : Version → ChannelKey → List Item → Bool
is_unaccepted v c items = not c.own && not (is_accepted v c items)

-- what writing, completing and terminating have first
abbrev pub open_refusal : Version → ChannelKey → List Item → Option Refusal
open_refusal v c items =
    if not (is_kept v c items) then Some refusal.NoChannel
    else if termination_emitted v c items then Some refusal.NotOpen
    else None

abbrev pub writing_refusal : Version → ChannelKey → List Item → Option Refusal
writing_refusal v c items = or_else (open_refusal v c items)
    (if is_unaccepted v c items then Some refusal.NotAccepted
    else if has_completed c items then Some refusal.WritingDone
    else None)

abbrev pub write_refusal : Version → ChannelKey → List ℕ → List Item → Option Refusal
write_refusal v c bytes items = unless_ended (ended items) (or_else (writing_refusal v c items)
    (if nat_lt most_bytes (length (written c items) + length bytes) then Some refusal.BytesSpent else None))

abbrev pub read_refusal : Version → ChannelKey → List Item → Option Refusal
read_refusal v c items =
    if not (is_kept v c items) then Some refusal.NoChannel
    else if is_unaccepted v c items then Some refusal.NotAccepted
    else None

abbrev pub complete_refusal : Version → ChannelKey → List Item → Option Refusal
complete_refusal v c items = unless_ended (ended items) (writing_refusal v c items)

abbrev pub terminate_refusal : Version → ChannelKey → List Item → Option Refusal
terminate_refusal v c items = unless_ended (ended items) (open_refusal v c items)

-- content and completion want an accepted channel; in version 1 a peer's offer need not be
abbrev pub is_early : Version → ChannelKey → List Item → Bool
is_early v c items = (c.own || not (is_one v)) && not (is_accepted v c items)

-- content above the own window; version 1 has none
abbrev pub is_above_window : Version → ChannelKey → List ℕ → List Item → Bool
is_above_window v c bytes items = not (is_one v) && nat_lt (window c items) (length (unread v c items) + length bytes)

-- what the rules say of a frame that is heeded
abbrev pub heeded_refusal : Version → ChannelKey → FrameBody → List Item → Option Reason
heeded_refusal v c (Offer name size) items = None
heeded_refusal v c (OfferAccepted size) items =
    if not c.own then Some reason.WrongSide else if is_accepted v c items then Some reason.AlreadyAccepted else None
heeded_refusal v c (Content bytes) items =
    if is_early v c items then Some reason.NotAccepted
    else if is_completed v c items then Some reason.ContentAfterCompletion
    else if is_above_window v c bytes items then Some reason.WindowExceeded
    else None
heeded_refusal v c ContentWritingCompleted items =
    if is_early v c items then Some reason.NotAccepted else if is_completed v c items then Some reason.ContentAfterCompletion else None
heeded_refusal v c ChannelTerminated items = None
heeded_refusal v c (ContentProcessed count) items =
    if nat_lt (emitted v c items) (acknowledged v c items + count) then Some reason.OverAcknowledged else None

-- a frame on a channel that was offered is refused only where it is heeded
abbrev pub later_refusal : Version → ChannelKey → FrameBody → List Item → Option Reason
later_refusal v c body items =
    if not (is_offered c items) then Some reason.NoChannel
    else if termination_emitted v c items then None
    else heeded_refusal v c body items

abbrev pub frame_refusal : Version → ChannelKey → FrameBody → List Item → Option Reason
frame_refusal v c (Offer name size) items =
    if c.own then Some reason.WrongSide else if is_offered c items then Some reason.IdInUse else None
frame_refusal v c (OfferAccepted size) items = later_refusal v c (OfferAccepted size) items
frame_refusal v c (Content bytes) items = later_refusal v c (Content bytes) items
frame_refusal v c ContentWritingCompleted items = later_refusal v c ContentWritingCompleted items
frame_refusal v c ChannelTerminated items = later_refusal v c ChannelTerminated items
frame_refusal v c (ContentProcessed count) items = later_refusal v c (ContentProcessed count) items
