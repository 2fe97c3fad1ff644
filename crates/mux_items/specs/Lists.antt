-- The lists of a channel at one end, from its items.
use Rattle.std.specs.Prelude.{ℕ, ◌+◌, ◌-◌, min, List, [], ◌∷◌, ◌++◌, length, take, drop, Bool, true, false, not, ◌&&◌, ◌||◌, ◌==◌, if◌then◌else◌}
use Rattle.wire_base.specs.declared.frame.Version.{Version}
use Rattle.mux_items.specs.declared.channel.ChannelKey.{ChannelKey}
use Rattle.mux_items.specs.declared.channel.Phase.{Phase}
use Rattle.mux_items.specs.declared.channel.Phase.TheVariants as phase
use Rattle.mux_items.specs.Bodies.{Offer, OfferAccepted, Content, ContentWritingCompleted, ChannelTerminated, ContentProcessed, same_key, is_one, window_of}
use Rattle.mux_items.specs.Items.{Item, DidOffer, DidAccept, DidWrite, DidRead, DidComplete, DidTerminate, Got, Rejected, End}

-- all bytes that were written here, oldest first
abbrev pub written : ChannelKey → List Item → List ℕ
written c [] = []
written c (DidWrite key bytes ∷ items) = if same_key key c then written c items ++ bytes else written c items
written c (item ∷ items) = written c items

-- the own window, 0 before it is given
abbrev pub window : ChannelKey → List Item → ℕ
window c [] = 0
window c (DidOffer key name size ∷ items) = if same_key key c then window c items + size else window c items
window c (DidAccept key size ∷ items) = if same_key key c then window c items + size else window c items
window c (item ∷ items) = window c items

-- whether the channel was offered, by either side, a rejected offer included
abbrev pub is_offered : ChannelKey → List Item → Bool
is_offered c [] = false
is_offered c (DidOffer key name size ∷ items) = if same_key key c then true else is_offered c items
is_offered c (Got place key (Offer name size) ∷ items) = if same_key key c then true else is_offered c items
is_offered c (Rejected place key body ∷ items) = if same_key key c then true else is_offered c items
is_offered c (item ∷ items) = is_offered c items

-- whether the peer's offer was rejected
abbrev pub is_rejected : ChannelKey → List Item → Bool
is_rejected c [] = false
is_rejected c (Rejected place key body ∷ items) = if same_key key c then true else is_rejected c items
is_rejected c (item ∷ items) = is_rejected c items

-- whether writing was completed here
abbrev pub has_completed : ChannelKey → List Item → Bool
has_completed c [] = false
has_completed c (DidComplete key ∷ items) = if same_key key c then true else has_completed c items
has_completed c (item ∷ items) = has_completed c items

-- whether the channel was terminated by a call here
abbrev pub has_terminated : ChannelKey → List Item → Bool
has_terminated c [] = false
has_terminated c (DidTerminate key ∷ items) = if same_key key c then true else has_terminated c items
has_terminated c (item ∷ items) = has_terminated c items

-- whether a termination of the peer came
abbrev pub is_terminated_by_peer : ChannelKey → List Item → Bool
is_terminated_by_peer c [] = false
is_terminated_by_peer c (Got place key ChannelTerminated ∷ items) = if same_key key c then true else is_terminated_by_peer c items
is_terminated_by_peer c (item ∷ items) = is_terminated_by_peer c items

-- a cut of the channel: a termination by either side, or the end
abbrev pub is_cut : ChannelKey → List Item → Bool
is_cut c [] = false
is_cut c (DidTerminate key ∷ items) = if same_key key c then true else is_cut c items
is_cut c (Got place key ChannelTerminated ∷ items) = if same_key key c then true else is_cut c items
is_cut c (End cause ∷ items) = true
is_cut c (item ∷ items) = is_cut c items

-- the longest prefix, in time, of the items without a cut
abbrev pub before_cut : ChannelKey → List Item → List Item
before_cut c [] = []
before_cut c (item ∷ items) = if is_cut c (item ∷ items) then before_cut c items else item ∷ items

-- whether the channel is accepted, among items without a cut
abbrev pub is_accepted_in : ChannelKey → List Item → Bool
is_accepted_in c [] = false
is_accepted_in c (DidAccept key size ∷ items) = if same_key key c then true else is_accepted_in c items
is_accepted_in c (Got place key (OfferAccepted size) ∷ items) = if same_key key c then true else is_accepted_in c items
is_accepted_in c (item ∷ items) = is_accepted_in c items

-- the peer's window and the bytes that it acknowledged, among items without a cut
abbrev pub granted_in : ChannelKey → List Item → ℕ
granted_in c [] = 0
granted_in c (Got place key (Offer name size) ∷ items) = if same_key key c then granted_in c items + window_of size else granted_in c items
granted_in c (Got place key (OfferAccepted size) ∷ items) = if same_key key c then granted_in c items + window_of size else granted_in c items
granted_in c (Got place key (ContentProcessed count) ∷ items) = if same_key key c then granted_in c items + count else granted_in c items
granted_in c (item ∷ items) = granted_in c items

-- whether a completion of the peer came, among items without a cut
abbrev pub is_completed_in : ChannelKey → List Item → Bool
is_completed_in c [] = false
is_completed_in c (Got place key ContentWritingCompleted ∷ items) = if same_key key c then true else is_completed_in c items
is_completed_in c (item ∷ items) = is_completed_in c items

-- so many of the written bytes may go; version 1 has no bound
abbrev pub within_grant : Version → (granted count : ℕ) → ℕ
within_grant v granted count = if is_one v then count else min granted count

-- how many of the written bytes are emitted, among items without a cut
abbrev pub emitted_in : Version → ChannelKey → List Item → ℕ
emitted_in v c items = if is_accepted_in c items then within_grant v (granted_in c items) (length (written c items)) else 0

-- how many of the written bytes were emitted
abbrev pub emitted : Version → ChannelKey → List Item → ℕ
emitted v c items = emitted_in v c (before_cut c items)

-- whether the completion is emitted, among items without a cut
abbrev pub completion_in : Version → ChannelKey → List Item → Bool
completion_in v c items = is_accepted_in c items && has_completed c items && (emitted_in v c items == length (written c items))

-- whether the own completion was emitted
abbrev pub completion_emitted : Version → ChannelKey → List Item → Bool
completion_emitted v c items = completion_in v c (before_cut c items)

-- whether both sides' completions stand before any cut
abbrev pub is_finished : Version → ChannelKey → List Item → Bool
is_finished v c items = completion_emitted v c items && is_completed_in c (before_cut c items)

-- whether the own termination was emitted: by a call, as the peer's came or its offer was rejected, or at the end of both writings
abbrev pub termination_emitted : Version → ChannelKey → List Item → Bool
termination_emitted v c items = has_terminated c items || is_terminated_by_peer c items || is_rejected c items || is_finished v c items

-- a frame on the channel is heeded where the own termination wasn't emitted before it
abbrev pub heeds : Version → (key c : ChannelKey) → List Item → Bool
heeds v key c items = same_key key c && not (termination_emitted v c items)

-- all content that was heeded, oldest first
abbrev pub taken : Version → ChannelKey → List Item → List ℕ
taken v c [] = []
taken v c (Got place key (Content bytes) ∷ items) = if heeds v key c items then taken v c items ++ bytes else taken v c items
taken v c (item ∷ items) = taken v c items

-- whether the channel is accepted: an own offer by the peer, a peer's offer here
abbrev pub is_accepted : Version → ChannelKey → List Item → Bool
is_accepted v c [] = false
is_accepted v c (DidAccept key size ∷ items) = if same_key key c then true else is_accepted v c items
is_accepted v c (Got place key (OfferAccepted size) ∷ items) = if heeds v key c items then true else is_accepted v c items
is_accepted v c (item ∷ items) = is_accepted v c items

-- whether a completion of the peer was heeded
abbrev pub is_completed : Version → ChannelKey → List Item → Bool
is_completed v c [] = false
is_completed v c (Got place key ContentWritingCompleted ∷ items) = if heeds v key c items then true else is_completed v c items
is_completed v c (item ∷ items) = is_completed v c items

-- the bytes that the peer acknowledged
abbrev pub acknowledged : Version → ChannelKey → List Item → ℕ
acknowledged v c [] = 0
acknowledged v c (Got place key (ContentProcessed count) ∷ items) = if heeds v key c items then acknowledged v c items + count else acknowledged v c items
acknowledged v c (item ∷ items) = acknowledged v c items

-- how much the peer lets this end emit, in versions 2 and 3: its window, 0 before it is given, and what it acknowledged
abbrev pub granted : Version → ChannelKey → List Item → ℕ
granted v c [] = 0
granted v c (Got place key (Offer name size) ∷ items) = if heeds v key c items then granted v c items + window_of size else granted v c items
granted v c (Got place key (OfferAccepted size) ∷ items) = if heeds v key c items then granted v c items + window_of size else granted v c items
granted v c (Got place key (ContentProcessed count) ∷ items) = if heeds v key c items then granted v c items + count else granted v c items
granted v c (item ∷ items) = granted v c items

-- unread bytes are dropped by a local termination, and by the peer's termination of a channel that isn't accepted
abbrev pub is_dropped : Version → ChannelKey → List Item → Bool
is_dropped v c items = has_terminated c items || (is_terminated_by_peer c items && not (is_accepted v c items))

-- of so many taken and so many handed over bytes these are unread
abbrev pub unread_count : (dropped : Bool) → (took moved : ℕ) → ℕ
unread_count dropped took moved = if dropped then 0 else took - moved

-- how many bytes the reads moved: each the lesser of its maximum and of what was unread before it
abbrev pub handed : Version → ChannelKey → List Item → ℕ
handed v c [] = 0
handed v c (DidRead key max ∷ items) =
    if same_key key c
    then handed v c items + min max (unread_count (is_dropped v c items) (length (taken v c items)) (handed v c items))
    else handed v c items
handed v c (item ∷ items) = handed v c items

-- what was taken and not handed over
abbrev pub unread : Version → ChannelKey → List Item → List ℕ
unread v c items = if is_dropped v c items then [] else drop (handed v c items) (taken v c items)

-- all bytes that reads answered, oldest first
abbrev pub read_bytes : Version → ChannelKey → List Item → List ℕ
read_bytes v c [] = []
read_bytes v c (DidRead key max ∷ items) = if same_key key c then read_bytes v c items ++ take max (unread v c items) else read_bytes v c items
read_bytes v c (item ∷ items) = read_bytes v c items

-- where the channel stands
abbrev pub phase_of : Version → ChannelKey → List Item → Phase
phase_of v c items =
    if termination_emitted v c items then (if is_terminated_by_peer c items then phase.Closed else phase.Closing)
    else if is_accepted v c items then phase.Live
    else if c.own then phase.Waiting
    else phase.Heard

abbrev pub is_live : Version → ChannelKey → List Item → Bool
is_live v c items = not (termination_emitted v c items) && is_accepted v c items

-- whether both terminations stand
abbrev pub is_closed : Version → ChannelKey → List Item → Bool
is_closed v c items = termination_emitted v c items && is_terminated_by_peer c items
