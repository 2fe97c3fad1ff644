-- What the bytes that aren't applied are to an end.
use Rattle.std.specs.Prelude.{ℕ, ◌+◌, List, if◌then◌else◌, Option, Some, None}
use Rattle.wire_base.specs.declared.frame.Version.{Version}
use Rattle.wire_base.specs.declared.reason.Reason.{Reason}
use Rattle.wire_base.specs.declared.state.Cause.{Cause}
use Rattle.wire_base.specs.declared.state.Cause.TheVariants as cause
use Rattle.frame_text.specs.Front.{Front, Whole, Short, Broken}
use Rattle.frame_text.specs.Reading.{front}
use Rattle.mux_items.specs.declared.channel.ChannelKey.{ChannelKey}
use Rattle.mux_items.specs.declared.party.Party.{Party}
use Rattle.mux_items.specs.Bodies.{FrameBody, ChannelFrame, taken_frame}
use Rattle.mux_items.specs.Items.{Item, party_of}
use Rattle.mux_items.specs.Refusals.{frame_refusal, is_ready}
use Rattle.mux_items.specs.Applying.{place_at}
use Rattle.mux_handshake.specs.Handshake.{Handshake, handshake}
use Rattle.mux_handshake.specs.Handshake as handshakes

-- the handshake of a peer, a frame that no rule refuses, each of so many bytes, too few bytes to tell, or a refusal
pub data Arrival : Type 0 where
  Greets : (party : Party) → (size : ℕ) → Arrival
  Applies : (key : ChannelKey) → (body : FrameBody) → (size : ℕ) → Arrival
  Waits : Arrival
  Refuses : (place : ℕ) → (reason : Reason) → Arrival

abbrev pub frame_arrival : ChannelFrame → (at size : ℕ) → Option Reason → Arrival
frame_arrival f at size None = Applies f.key f.body size
frame_arrival f at size (Some r) = Refuses at r

abbrev pub taken_arrival : Version → List Item → ChannelFrame → (at size : ℕ) → Arrival
taken_arrival v items f at size = frame_arrival f at size (frame_refusal v f.key f.body items)

abbrev pub arrival_of_frame : Version → List Item → (at : ℕ) → Front → Arrival
arrival_of_frame v items at (Whole frame size) = taken_arrival v items (taken_frame (party_of items) frame) at size
arrival_of_frame v items at Short = Waits
arrival_of_frame v items at (Broken offset r) = Refuses (at + offset) r

abbrev pub arrival_of_handshake : (at : ℕ) → Handshake → Arrival
arrival_of_handshake at (handshakes.Whole party size) = Greets party size
arrival_of_handshake at handshakes.Short = Waits
arrival_of_handshake at (handshakes.Broken offset r) = Refuses (at + offset) r

-- the peer's handshake comes first, then one frame after the other
abbrev pub arrival : Version → (own : List ℕ) → List Item → (at : ℕ) → (rest : List ℕ) → Arrival
arrival v own items at rest = if is_ready v items then arrival_of_frame v items at (front v rest) else arrival_of_handshake at (handshake v own rest)

abbrev pub refused_at : ℕ → Reason → Cause
refused_at place r = cause.Refused (place_at place) r
