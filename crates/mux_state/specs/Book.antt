-- What an end keeps of all its channels.
use Rattle.std.specs.Prelude.{◌≡◌, ℕ, ◌+◌, List, [], ◌∷◌, ◌++◌, length, map, filter, sum_by, Bool, true, false, not, ◌&&◌, ◌||◌, nat_lt, nat_le, if◌then◌else◌, Option, Some, None, is_none}
use Rattle.std.specs.List.{list_any}
use Rattle.wire_base.specs.declared.frame.Version.{Version}
use Rattle.wire_base.specs.declared.state.Cause.{Cause}
use Rattle.wire_base.specs.declared.reason.Reason.{Reason}
use Rattle.wire_base.specs.declared.reason.Reason.TheVariants as reason
use Rattle.wire_base.specs.declared.refusal.Refusal.{Refusal}
use Rattle.wire_base.specs.declared.refusal.Refusal.TheVariants as refusal
use Rattle.mux_items.specs.declared.channel.ChannelKey.{ChannelKey}
use Rattle.mux_items.specs.declared.channel.MuxEvent.{MuxEvent}
use Rattle.mux_items.specs.declared.channel.MuxEvent.TheVariants as event
use Rattle.mux_items.specs.declared.channel.Tally.{Tally}
use Rattle.mux_items.specs.declared.party.Party.{Party}
use Rattle.mux_items.specs.Bodies.{FrameBody, Offer, ChannelTerminated, ChannelFrame, frame_on, same_key, is_three, window_of}
use Rattle.mux_items.specs.Items.{Item, Hello, DidOffer, DidAccept, DidWrite, DidRead, DidComplete, DidTerminate, Got, Rejected, End, ended, greeting, party_or_neither}
use Rattle.mux_items.specs.Limits.{longest_name, most_windows, most_channels, most_offers}
use Rattle.mux_items.specs.Kept.{is_kept, own_id}
use Rattle.mux_items.specs.Refusals.{unless_ended, is_greeted, is_bad_window}
use Rattle.mux_items.specs.Applying.{is_offer}
use Rattle.mux_items.specs.Views.{known_keys, precedes}
use Rattle.mux_state.specs.State.{ChannelState, channel_at}
use Rattle.mux_items.specs.Due.{written_window}
use Rattle.mux_state.specs.Next.{offered_state, heard_state, ended_state, next_state}
use Rattle.mux_state.specs.Tests.{due_in, stays_kept, frame_test, event_on, tally_in}

-- a channel that is kept, in its state, or one that isn't kept any more, with what came of it
pub data Standing : Type 0 where
  Kept : (now : ChannelState) → Standing
  Gone : (tally : Tally) → Standing

-- a channel that was offered and not rejected
pub record Entry : Type 0 where
  pub key : ChannelKey
  pub standing : Standing

-- an end: the party that the peer's handshake made of it, why it ended, its channels in their order, and those that it rejected, oldest first
pub record Book : Type 0 where
  pub version : Version
  pub party : Option Party
  pub cause : Option Cause
  pub entries : List Entry
  pub rejected : List ChannelKey

-- where a known channel stands
abbrev pub standing_of : Version → ChannelKey → List Item → Standing
standing_of v c items = if is_kept v c items then Kept (channel_at v c items) else Gone (tally_in (channel_at v c items))

abbrev pub entry_of : Version → List Item → ChannelKey → Entry
entry_of v items c = record { key = c; standing = standing_of v c items }

-- the channels whose offers were rejected, oldest first
abbrev pub rejected_keys : List Item → List ChannelKey
rejected_keys [] = []
rejected_keys (Rejected place key body ∷ items) = rejected_keys items ++ key ∷ []
rejected_keys (item ∷ items) = rejected_keys items

-- what the items say of all channels
abbrev pub book_of : Version → List Item → Book
book_of v items = record { version = v; party = greeting items; cause = ended items; entries = map (entry_of v items) (known_keys items); rejected = rejected_keys items }

-- an end without channels
abbrev pub empty_book : Version → Book
empty_book v = record { version = v; party = None; cause = None; entries = []; rejected = [] }

-- where a channel stands, if it is among these
abbrev pub find : ChannelKey → List Entry → Option Standing
find c [] = None
find c (entry ∷ entries) = if same_key c entry.key then Some entry.standing else find c entries

-- the state of a channel that is kept
abbrev pub kept_in : Option Standing → Option ChannelState
kept_in None = None
kept_in (Some (Kept now)) = Some now
kept_in (Some (Gone tally)) = None

abbrev pub found : ChannelKey → Book → Option Standing
found c book = find c book.entries

abbrev pub is_found : {A : Type 0} → Option A → Bool
is_found None = false
is_found (Some found) = true

-- whether a channel was offered by either side, a rejected offer included
abbrev pub has_offer : ChannelKey → Book → Bool
has_offer c book = is_found (found c book) || list_any (λ key. same_key key c) book.rejected

abbrev pub is_kept_standing : Standing → Bool
is_kept_standing (Kept now) = true
is_kept_standing (Gone tally) = false

-- the own window of a channel, where it is kept
abbrev pub kept_window : Standing → ℕ
kept_window (Kept now) = now.window
kept_window (Gone tally) = 0

-- how many channels are kept
abbrev pub kept_count : Book → ℕ
kept_count book = length (filter (λ entry. is_kept_standing entry.standing) book.entries)

-- the own windows of kept channels together
abbrev pub windows_in : Book → ℕ
windows_in book = sum_by (λ entry. kept_window entry.standing) book.entries

-- how many offers were made here
abbrev pub own_count : Book → ℕ
own_count book = length (filter (λ entry. entry.key.own) book.entries)

-- the channel that the next own offer draws
abbrev pub drawn_key : Book → ChannelKey
drawn_key book = record { id = own_id (party_or_neither book.party) (own_count book + 1); own = true }

-- whether the end may offer and take frames
abbrev pub is_ready_book : Book → Bool
is_ready_book book = is_three book.version || is_greeted book.party

-- why an offer with this name and window is refused
abbrev pub offer_test : List ℕ → ℕ → Book → Option Refusal
offer_test name size book = unless_ended book.cause
    (if not (is_ready_book book) then Some refusal.NotReady
    else if nat_lt longest_name (length name) then Some refusal.NameTooLong
    else if is_bad_window size then Some refusal.BadWindow
    else if nat_le most_channels (kept_count book) then Some refusal.TooManyChannels
    else if nat_lt most_windows (windows_in book + size) then Some refusal.WindowsSpent
    else if nat_le most_offers (own_count book) then Some refusal.TooManyOffers
    else None)

-- whether an offer of the peer isn't rejected
abbrev pub has_room : FrameBody → Book → Bool
has_room body book = not (is_offer body && nat_le most_channels (kept_count book))

-- why a frame is refused on a channel that was offered: only where it is kept
abbrev pub frame_on_found : FrameBody → Option Standing → Option Reason
frame_on_found body None = None
frame_on_found body (Some (Kept now)) = frame_test body now
frame_on_found body (Some (Gone tally)) = None

-- why a frame is refused
abbrev pub frame_in : ChannelKey → FrameBody → Book → Option Reason
frame_in c (Offer name size) book = if c.own then Some reason.WrongSide else if has_offer c book then Some reason.IdInUse else None
frame_in c body book = if not (has_offer c book) then Some reason.NoChannel else frame_on_found body (found c book)

-- the event of a frame that isn't an offer: it is ignored where the channel isn't kept
abbrev pub event_found : ChannelKey → FrameBody → Option Standing → MuxEvent
event_found c body (Some (Kept now)) = event_on c body now
event_found c body standing = event.Ignored c

-- the event of a frame
abbrev pub event_in : ChannelKey → FrameBody → Book → MuxEvent
event_in c (Offer name size) book = event.Offered c
event_in c body book = event_found c body (found c book)

-- what came of a channel, if it is known
abbrev pub tally_found : Option Standing → Option Tally
tally_found None = None
tally_found (Some (Kept now)) = Some (tally_in now)
tally_found (Some (Gone tally)) = Some tally

-- the channels that were offered and not rejected, in their order
abbrev pub known_in : Book → List ChannelKey
known_in book = map (λ entry. entry.key) book.entries

-- no channel stands twice
abbrev pub AreApart : List ChannelKey → Type 0
AreApart [] = Unit {0}
AreApart (c ∷ cs) = (list_any (same_key c) cs ≡ false) × AreApart cs

-- a kept channel after a change: it is gone once it doesn't stay kept
abbrev pub moved : ChannelState → Standing
moved now = if stays_kept now then Kept now else Gone (tally_in now)

-- a change of a channel that may be gone, which then stays as it was
abbrev pub changed : (ChannelState → ChannelState) → Standing → Standing
changed change (Kept now) = moved (change now)
changed change (Gone tally) = Gone tally

abbrev pub changed_entry : (ChannelState → ChannelState) → Entry → Entry
changed_entry change entry = record { key = entry.key; standing = changed change entry.standing }

-- a change of one channel among others
abbrev pub change_at : ChannelKey → (ChannelState → ChannelState) → List Entry → List Entry
change_at c change [] = []
change_at c change (entry ∷ entries) = if same_key c entry.key then changed_entry change entry ∷ entries else entry ∷ change_at c change entries

-- a channel takes its place among the others
abbrev pub insert_entry : Entry → List Entry → List Entry
insert_entry entry [] = entry ∷ []
insert_entry entry (other ∷ entries) = if precedes other.key entry.key then other ∷ insert_entry entry entries else entry ∷ other ∷ entries

abbrev pub entry_at : ChannelKey → ChannelState → Entry
entry_at c now = record { key = c; standing = Kept now }

-- the channels after an item: an offer adds one, the end changes all, and every other item the one that it names
abbrev pub next_entries : Version → Item → List Entry → List Entry
next_entries v (Hello party) entries = entries
next_entries v (DidOffer key name size) entries = insert_entry (entry_at key (offered_state v size)) entries
next_entries v (DidAccept key size) entries = change_at key (next_state (DidAccept key size)) entries
next_entries v (DidWrite key bytes) entries = change_at key (next_state (DidWrite key bytes)) entries
next_entries v (DidRead key max) entries = change_at key (next_state (DidRead key max)) entries
next_entries v (DidComplete key) entries = change_at key (next_state (DidComplete key)) entries
next_entries v (DidTerminate key) entries = change_at key (next_state (DidTerminate key)) entries
next_entries v (Got place key (Offer name size)) entries = insert_entry (entry_at key (heard_state v (window_of size))) entries
next_entries v (Got place key body) entries = change_at key (next_state (Got place key body)) entries
next_entries v (Rejected place key body) entries = entries
next_entries v (End cause) entries = map (changed_entry ended_state) entries

abbrev pub next_party : Item → Option Party → Option Party
next_party (Hello party) old = Some party
next_party item old = old

abbrev pub next_cause : Item → Option Cause → Option Cause
next_cause (End cause) old = Some cause
next_cause item old = old

abbrev pub next_rejected : Item → List ChannelKey → List ChannelKey
next_rejected (Rejected place key body) old = old ++ key ∷ []
next_rejected item old = old

-- an end after an item
abbrev pub next_book : Item → Book → Book
next_book item book = record {
  version = book.version;
  party = next_party item book.party;
  cause = next_cause item book.cause;
  entries = next_entries book.version item book.entries;
  rejected = next_rejected item book.rejected;
}

-- the frames that an item makes due on a channel that may be kept
abbrev pub due_found : ChannelKey → (running : Bool) → Item → Option Standing → List ChannelFrame
due_found c running item (Some (Kept now)) = due_in c running item now
due_found c running item standing = []

-- the frames that an item makes due
abbrev pub due_of_book : Item → Book → List ChannelFrame
due_of_book (Hello party) book = []
due_of_book (End cause) book = []
due_of_book (Rejected place key body) book = frame_on key ChannelTerminated ∷ []
due_of_book (DidOffer key name size) book = frame_on key (Offer name (written_window book.version size)) ∷ []
due_of_book (Got place key (Offer name size)) book = []
due_of_book (Got place key body) book = due_found key (is_none book.cause) (Got place key body) (found key book)
due_of_book (DidAccept key size) book = due_found key (is_none book.cause) (DidAccept key size) (found key book)
due_of_book (DidWrite key bytes) book = due_found key (is_none book.cause) (DidWrite key bytes) (found key book)
due_of_book (DidRead key max) book = due_found key (is_none book.cause) (DidRead key max) (found key book)
due_of_book (DidComplete key) book = due_found key (is_none book.cause) (DidComplete key) (found key book)
due_of_book (DidTerminate key) book = due_found key (is_none book.cause) (DidTerminate key) (found key book)
