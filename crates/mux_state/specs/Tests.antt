-- What the rules say of a channel at a moment.
use Rattle.std.specs.Prelude.{ℕ, ◌+◌, List, [], ◌∷◌, ◌++◌, length, Bool, not, ◌&&◌, ◌||◌, ◌==◌, nat_lt, if◌then◌else◌, Option, Some, None}
use Rattle.wire_base.specs.declared.frame.Version.{Version}
use Rattle.wire_base.specs.declared.reason.Reason.{Reason}
use Rattle.wire_base.specs.declared.reason.Reason.TheVariants as reason
use Rattle.wire_base.specs.declared.refusal.Refusal.{Refusal}
use Rattle.wire_base.specs.declared.refusal.Refusal.TheVariants as refusal
use Rattle.wire_base.specs.Options.{or_else}
use Rattle.mux_items.specs.declared.channel.ChannelKey.{ChannelKey}
use Rattle.mux_items.specs.declared.channel.ChannelView.{ChannelView}
use Rattle.mux_items.specs.declared.channel.MuxEvent.{MuxEvent}
use Rattle.mux_items.specs.declared.channel.MuxEvent.TheVariants as event
use Rattle.mux_items.specs.declared.channel.Phase.{Phase}
use Rattle.mux_items.specs.declared.channel.Phase.TheVariants as phase
use Rattle.mux_items.specs.declared.channel.Tally.{Tally}
use Rattle.mux_items.specs.Bodies.{FrameBody, Offer, OfferAccepted, Content, ContentWritingCompleted, ChannelTerminated, ContentProcessed, ChannelFrame, frame_on, is_one}
use Rattle.mux_items.specs.Items.{Item, Hello, DidOffer, DidAccept, DidRead, DidTerminate, Rejected, End}
use Rattle.mux_items.specs.Limits.{most_bytes, most_windows}
use Rattle.mux_items.specs.Refusals.{is_bad_window}
use Rattle.mux_items.specs.Applying.{heeded_event}
use Rattle.mux_items.specs.Kept.{has_bytes}
use Rattle.mux_items.specs.Due.{written_window}
use Rattle.mux_state.specs.State.{ChannelState}
use Rattle.mux_state.specs.Next.{absorbed, frames_due, read_count}

-- the peer's offer isn't accepted here
abbrev pub waits_here : ChannelState → Bool
waits_here s = not s.own && not s.accepted

-- why terminating is refused: a channel is open until either side terminates it
abbrev pub open_test : ChannelState → Option Refusal
open_test s = if s.termination_sent || s.peer_terminated then Some refusal.NotOpen else None

-- why completing is refused, and writing first of all
abbrev pub writing_test : ChannelState → Option Refusal
writing_test s = or_else (open_test s)
    (if waits_here s then Some refusal.NotAccepted
    else if s.completing then Some refusal.WritingDone
    else None)

-- why writing these bytes is refused
abbrev pub write_test : List ℕ → ChannelState → Option Refusal
write_test bytes s = or_else (writing_test s) (if nat_lt most_bytes (s.written + length bytes) then Some refusal.BytesSpent else None)

-- why reading is refused
abbrev pub read_test : ChannelState → Option Refusal
read_test s = if waits_here s then Some refusal.NotAccepted else None

-- why accepting is refused, but for the side and the windows
abbrev pub accepting_test : ChannelState → Option Refusal
accepting_test s = or_else (open_test s) (if s.accepted then Some refusal.AlreadyAccepted else None)

-- why accepting with this window is refused, where the own windows of kept channels are so many bytes together
abbrev pub accept_test : (windows size : ℕ) → ChannelState → Option Refusal
accept_test windows size s =
    if s.own then Some refusal.WrongSide
    else or_else (accepting_test s)
    (if is_bad_window size then Some refusal.BadWindow
    else if nat_lt most_windows (windows + size) then Some refusal.WindowsSpent
    else None)

-- why a call on a channel is refused, by the test of one that is kept
abbrev pub on_kept : Option ChannelState → (ChannelState → Option Refusal) → Option Refusal
on_kept None test = Some refusal.NoChannel
on_kept (Some s) test = test s

-- content or a completion of the peer comes before acceptance; in version 1 it may, where the peer made the offer
abbrev pub comes_early : ChannelState → Bool
comes_early s = (s.own || not (is_one s.version)) && not s.accepted

-- why a frame that is heeded is refused
abbrev pub heeded_test : FrameBody → ChannelState → Option Reason
heeded_test (Offer name size) s = None
heeded_test (OfferAccepted size) s = if not s.own then Some reason.WrongSide else if s.accepted then Some reason.AlreadyAccepted else None
heeded_test (Content bytes) s =
    if comes_early s then Some reason.NotAccepted
    else if s.completed then Some reason.ContentAfterCompletion
    else if not (is_one s.version) && nat_lt s.window (length s.unread + length bytes) then Some reason.WindowExceeded
    else None
heeded_test ContentWritingCompleted s = if comes_early s then Some reason.NotAccepted else if s.completed then Some reason.ContentAfterCompletion else None
heeded_test ChannelTerminated s = None
heeded_test (ContentProcessed count) s = if nat_lt s.emitted (s.acknowledged + count) then Some reason.OverAcknowledged else None

-- why a frame that isn't an offer is refused: after the own termination none is
abbrev pub frame_test : FrameBody → ChannelState → Option Reason
frame_test body s = if s.termination_sent then None else heeded_test body s

-- the event of a frame that isn't refused
abbrev pub event_on : ChannelKey → FrameBody → ChannelState → MuxEvent
event_on c ChannelTerminated s = if s.peer_terminated then event.Ignored c else event.Closed c
event_on c (Offer name size) s = event.Offered c
event_on c body s = if s.termination_sent then event.Ignored c else heeded_event c body

-- where the channel stands
abbrev pub phase_in : ChannelState → Phase
phase_in s =
    if s.termination_sent then (if s.peer_terminated then phase.Closed else phase.Closing)
    else if s.accepted then phase.Live
    else if s.own then phase.Waiting
    else phase.Heard

-- a channel is kept until it is closed and has no unread bytes
abbrev pub stays_kept : ChannelState → Bool
stays_kept s = not (s.termination_sent && s.peer_terminated) || has_bytes s.unread

-- a kept channel as it is shown
abbrev pub view_in : ChannelState → ChannelView
view_in s = record {
  phase = phase_in s;
  unread = length s.unread;
  pending = length s.pending;
  emitted = s.emitted;
  granted = if is_one s.version then None else Some s.granted;
  completed = s.completed;
}

-- what came of a channel so far
abbrev pub tally_in : ChannelState → Tally
tally_in s = record { phase = phase_in s; written = s.written; emitted = s.emitted; taken = s.taken; handed = s.handed }

-- what is shown of a channel that may be kept
abbrev pub view_on : Option ChannelState → Option ChannelView
view_on None = None
view_on (Some s) = Some (view_in s)

-- what came of a channel that may be known
abbrev pub tally_on : Option ChannelState → Option Tally
tally_on None = None
tally_on (Some s) = Some (tally_in s)

-- the frame that an item itself makes
abbrev pub first_frame : Version → ChannelKey → Item → List ChannelFrame
first_frame v c (DidOffer key name size) = frame_on c (Offer name (written_window v size)) ∷ []
first_frame v c (DidAccept key size) = frame_on c (OfferAccepted (written_window v size)) ∷ []
first_frame v c (DidTerminate key) = frame_on c ChannelTerminated ∷ []
first_frame v c item = []

-- the acknowledgement of a read of at most so many bytes
abbrev pub acknowledgement_in : ChannelKey → (running : Bool) → (max : ℕ) → ChannelState → List ChannelFrame
acknowledgement_in c running max s =
    if is_one s.version then []
    else if read_count max s == 0 then []
    else if running && (not s.termination_sent && s.accepted) then frame_on c (ContentProcessed (read_count max s)) ∷ []
    else []

-- all frames that an item on the channel makes due
abbrev pub due_in : ChannelKey → (running : Bool) → Item → ChannelState → List ChannelFrame
due_in c running (Hello party) s = []
due_in c running (DidRead key max) s = acknowledgement_in c running max s
due_in c running (Rejected place key body) s = frame_on c ChannelTerminated ∷ []
due_in c running (End cause) s = []
due_in c running item s = first_frame s.version c item ++ frames_due c (absorbed item s)
