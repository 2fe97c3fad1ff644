-- What is due, one frame at a time.
use Rattle.std.specs.Prelude.{ℕ, ◌+◌, min, List, [], ◌∷◌, length, take, drop, true, not, ◌&&◌, nat_lt, if◌then◌else◌}
use Rattle.mux_items.specs.declared.channel.ChannelKey.{ChannelKey}
use Rattle.mux_items.specs.Bodies.{Content, ContentWritingCompleted, ChannelTerminated, ChannelFrame, frame_on}
use Rattle.mux_items.specs.Limits.{piece_size}
use Rattle.mux_state.specs.declared.due.Due.{Due}
use Rattle.mux_state.specs.declared.due.Due.TheVariants as kind
use Rattle.mux_state.specs.State.{ChannelState}
use Rattle.mux_state.specs.Next.{sendable, is_done}

-- the next frame that is due
abbrev pub due_of : ChannelState → Due
due_of s =
    if s.termination_sent then kind.Nothing
    else if s.peer_terminated then kind.Terminated
    else if nat_lt 0 (sendable s) then kind.Content (min piece_size (sendable s))
    else if is_done s && not s.completion_sent then kind.Completed
    else if is_done s && s.completed then kind.Terminated
    else kind.Nothing

-- the first pending bytes, so many, are sent
abbrev pub piece_sent : ℕ → ChannelState → ChannelState
piece_sent size s = record s { emitted = s.emitted + size; pending = drop size s.pending }

-- a channel once the frame is sent
abbrev pub sent_state : Due → ChannelState → ChannelState
sent_state (kind.Content size) s = piece_sent size s
sent_state kind.Completed s = record s { completion_sent = true }
sent_state kind.Terminated s = record s { termination_sent = true }
sent_state kind.Nothing s = s

-- the frame as it is sent
abbrev pub sent_frames : ChannelKey → Due → ChannelState → List ChannelFrame
sent_frames c (kind.Content size) s = frame_on c (Content (take size s.pending)) ∷ []
sent_frames c kind.Completed s = frame_on c ContentWritingCompleted ∷ []
sent_frames c kind.Terminated s = frame_on c ChannelTerminated ∷ []
sent_frames c kind.Nothing s = []

-- the content of the frame
abbrev pub sent_bytes : Due → ChannelState → List ℕ
sent_bytes (kind.Content size) s = take size s.pending
sent_bytes kind.Completed s = []
sent_bytes kind.Terminated s = []
sent_bytes kind.Nothing s = []

-- how many pending bytes and ends of the channel aren't sent
abbrev pub left_to_send : ChannelState → ℕ
left_to_send s = length s.pending + (if s.completion_sent then 0 else 1) + (if s.termination_sent then 0 else 1)
