-- What calls and frames make of a channel.
use Rattle.std.specs.Prelude.{ℕ, ◌+◌, ◌-◌, min, List, [], ◌∷◌, ◌++◌, length, take, drop, Bool, true, false, not, ◌&&◌, ◌||◌, ◌==◌, if◌then◌else◌}
use Rattle.wire_base.specs.declared.frame.Version.{Version}
use Rattle.mux_items.specs.declared.channel.ChannelKey.{ChannelKey}
use Rattle.mux_items.specs.Bodies.{FrameBody, Offer, OfferAccepted, Content, ContentWritingCompleted, ChannelTerminated, ContentProcessed, ChannelFrame, frame_on, is_one, window_of}
use Rattle.mux_items.specs.Items.{Item, Hello, DidOffer, DidAccept, DidWrite, DidRead, DidComplete, DidTerminate, Got, Rejected, End, names}
use Rattle.mux_items.specs.Due.{content_frames}
use Rattle.mux_state.specs.State.{ChannelState, blank}

-- an own offer with this window
abbrev pub offered_state : Version → ℕ → ChannelState
offered_state v size = record (blank v true) { window = size }

-- an offer of the peer with this window
abbrev pub heard_state : Version → ℕ → ChannelState
heard_state v size = record (blank v false) { granted = size }

-- the peer's offer is accepted with this window
abbrev pub accepted_state : ℕ → ChannelState → ChannelState
accepted_state size s = record s { window = s.window + size; accepted = true }

-- bytes are written, and wait
abbrev pub written_state : List ℕ → ChannelState → ChannelState
written_state bytes s = record s { written = s.written + length bytes; pending = s.pending ++ bytes }

-- how many bytes a read of at most so many moves
abbrev pub read_count : ℕ → ChannelState → ℕ
read_count max s = min max (length s.unread)

-- such a read hands the first unread bytes over
abbrev pub read_state : ℕ → ChannelState → ChannelState
read_state max s = record s { unread = drop (read_count max s) s.unread; handed = s.handed + read_count max s }

-- writing is complete
abbrev pub completing_state : ChannelState → ChannelState
completing_state s = record s { completing = true }

-- a termination here drops what is pending and unread, and is sent at once
abbrev pub terminated_state : ChannelState → ChannelState
terminated_state s = record s { pending = []; unread = []; termination_sent = true }

-- the end of the end drops what is pending
abbrev pub ended_state : ChannelState → ChannelState
ended_state s = record s { pending = [] }

-- the peer accepts with this window
abbrev pub answered_state : ℕ → ChannelState → ChannelState
answered_state size s = record s { accepted = true; granted = s.granted + size }

-- content comes
abbrev pub taken_state : List ℕ → ChannelState → ChannelState
taken_state bytes s = record s { taken = s.taken + length bytes; unread = s.unread ++ bytes }

-- the peer's writing is complete
abbrev pub completed_state : ChannelState → ChannelState
completed_state s = record s { completed = true }

-- the peer acknowledges so many bytes
abbrev pub credited_state : ℕ → ChannelState → ChannelState
credited_state count s = record s { granted = s.granted + count; acknowledged = s.acknowledged + count }

-- the peer terminates: what is pending is dropped, and what is unread too where the channel isn't accepted
abbrev pub closed_state : ChannelState → ChannelState
closed_state s = record s { pending = []; unread = if s.accepted then s.unread else []; peer_terminated = true }

-- nothing changes where the own termination was sent
abbrev pub unless_sent : ChannelState → ChannelState → ChannelState
unless_sent s next = if s.termination_sent then s else next

-- what a frame makes of a channel: after the own termination only the peer's is heeded
abbrev pub framed_state : FrameBody → ChannelState → ChannelState
framed_state (Offer name size) s = s
framed_state (OfferAccepted size) s = unless_sent s (answered_state (window_of size) s)
framed_state (Content bytes) s = unless_sent s (taken_state bytes s)
framed_state ContentWritingCompleted s = unless_sent s (completed_state s)
framed_state ChannelTerminated s = closed_state s
framed_state (ContentProcessed count) s = unless_sent s (credited_state count s)

-- how many of the pending bytes may go
abbrev pub sendable : ChannelState → ℕ
sendable s = if s.accepted then (if is_one s.version then length s.pending else min (s.granted - s.emitted) (length s.pending)) else 0

-- whether writing is complete and all that is pending may go
abbrev pub goes_whole : ChannelState → Bool
goes_whole s = s.accepted && s.completing && (length s.pending == sendable s)

-- whether the completion was sent or is due
abbrev pub is_done : ChannelState → Bool
is_done s = s.completion_sent || goes_whole s

-- a channel that neither side terminated, once all that is due is sent: content, then the completion, then the termination
abbrev pub settled_open : ChannelState → ChannelState
settled_open s = record s {
  emitted = s.emitted + sendable s;
  pending = drop (sendable s) s.pending;
  completion_sent = is_done s;
  termination_sent = is_done s && s.completed;
}

-- a channel once all that is due is sent; after the peer's termination that is the own one alone
abbrev pub settled : ChannelState → ChannelState
settled s =
    if s.termination_sent then s
    else if s.peer_terminated then record s { termination_sent = true }
    else settled_open s

-- the frames of all that is due, in their order
abbrev pub frames_due : ChannelKey → ChannelState → List ChannelFrame
frames_due c s =
    if s.termination_sent then []
    else if s.peer_terminated then frame_on c ChannelTerminated ∷ []
    else content_frames c (take (sendable s) s.pending)
    ++ (if is_done s && not s.completion_sent then frame_on c ContentWritingCompleted ∷ [] else [])
    ++ (if is_done s && s.completed then frame_on c ChannelTerminated ∷ [] else [])

-- what an item on the channel makes of it before what is due is sent
abbrev pub absorbed : Item → ChannelState → ChannelState
absorbed (Hello party) s = s
absorbed (DidOffer key name size) s = offered_state s.version size
absorbed (DidAccept key size) s = accepted_state size s
absorbed (DidWrite key bytes) s = written_state bytes s
absorbed (DidRead key max) s = read_state max s
absorbed (DidComplete key) s = completing_state s
absorbed (DidTerminate key) s = terminated_state s
absorbed (Got place key (Offer name size)) s = heard_state s.version (window_of size)
absorbed (Got place key body) s = framed_state body s
absorbed (Rejected place key body) s = s
absorbed (End cause) s = ended_state s

-- what an item on the channel makes of it; reads and the end make nothing due
abbrev pub next_state : Item → ChannelState → ChannelState
next_state (Hello party) s = s
next_state (DidRead key max) s = read_state max s
next_state (End cause) s = ended_state s
next_state item s = settled (absorbed item s)

-- what an item makes of a channel: one on another channel nothing
abbrev pub next_on : ChannelKey → Item → ChannelState → ChannelState
next_on c item s = if names c item then next_state item s else s
