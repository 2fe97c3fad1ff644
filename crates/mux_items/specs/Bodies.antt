-- Frames as their channels see them.
use Rattle.std.specs.Prelude.{ℕ, ◌%◌, List, map, Bool, true, false, not, ◌&&◌, ◌==◌, if◌then◌else◌, Option, unwrap_or}
use Rattle.wire_base.specs.declared.frame.Version.{Version}
use Rattle.wire_base.specs.declared.frame.Version.TheVariants as version
use Rattle.wire_base.specs.declared.frame.Code.{Code}
use Rattle.wire_base.specs.declared.frame.Code.TheVariants as code
use Rattle.wire_base.specs.declared.frame.Origin.{Origin}
use Rattle.wire_base.specs.declared.frame.Origin.TheVariants as origin
use Rattle.wire_base.specs.declared.frame.Payload.{Payload}
use Rattle.wire_base.specs.declared.frame.Payload.TheVariants as payload
use Rattle.wire_base.specs.declared.frame.Frame.{Frame}
use Rattle.frame_text.specs.Frames.{text, texts}
use Rattle.mux_items.specs.declared.channel.ChannelKey.{ChannelKey}
use Rattle.mux_items.specs.declared.party.Party.{Party}
use Rattle.mux_items.specs.declared.party.Party.TheVariants.{Odd, Even, Neither}
use Rattle.mux_items.specs.Limits.{absent_window}

-- what a frame says to its channel; an absent window is None
pub data FrameBody : Type 0 where
  Offer : (name : List ℕ) → (window : Option ℕ) → FrameBody
  OfferAccepted : (window : Option ℕ) → FrameBody
  Content : (bytes : List ℕ) → FrameBody
  ContentWritingCompleted : FrameBody
  ChannelTerminated : FrameBody
  ContentProcessed : (count : ℕ) → FrameBody

-- a frame by its channel, as the end that sends or takes it names that channel
pub record ChannelFrame : Type 0 where
  pub key : ChannelKey
  pub body : FrameBody

abbrev pub frame_on : ChannelKey → FrameBody → ChannelFrame
frame_on key body = record { key = key; body = body }

-- the same channel as the other end names it
abbrev pub other_key : ChannelKey → ChannelKey
other_key key = record { id = key.id; own = not key.own }

-- the same frame at the other end
abbrev pub flip : ChannelFrame → ChannelFrame
flip f = record { key = other_key f.key; body = f.body }

abbrev pub same_bool : Bool → Bool → Bool
same_bool true b = b
same_bool false b = not b

abbrev pub same_key : ChannelKey → ChannelKey → Bool
same_key a b = (a.id == b.id) && same_bool a.own b.own

abbrev pub is_one : Version → Bool
is_one version.One = true
is_one version.Two = false
is_one version.Three = false

abbrev pub is_three : Version → Bool
is_three version.One = false
is_three version.Two = false
is_three version.Three = true

abbrev pub window_of : Option ℕ → ℕ
window_of window = unwrap_or window absent_window

abbrev pub code_of : FrameBody → Code
code_of (Offer name window) = code.Offer
code_of (OfferAccepted window) = code.OfferAccepted
code_of (Content bytes) = code.Content
code_of ContentWritingCompleted = code.ContentWritingCompleted
code_of ChannelTerminated = code.ChannelTerminated
code_of (ContentProcessed count) = code.ContentProcessed

abbrev pub payload_of : FrameBody → Payload
payload_of (Offer name window) = payload.Offer name window
payload_of (OfferAccepted window) = payload.Accepted window
payload_of (Content bytes) = payload.Content bytes
payload_of ContentWritingCompleted = payload.Nothing
payload_of ChannelTerminated = payload.Nothing
payload_of (ContentProcessed count) = payload.Processed count

-- who offered the channel, as the sender of a frame writes it
abbrev pub origin_of : Version → ChannelKey → Origin
origin_of version.One key = origin.ByParity
origin_of version.Two key = origin.ByParity
origin_of version.Three key = if key.own then origin.Sender else origin.Receiver

-- the frame that is written
abbrev pub frame_of : Version → ChannelFrame → Frame
frame_of v f = record { code = code_of f.body; id = f.key.id; origin = origin_of v f.key; payload = payload_of f.body }

-- the bytes of frames that an end sends
abbrev pub frame_text : Version → ChannelFrame → List ℕ
frame_text v f = text v (frame_of v f)

abbrev pub frame_texts : Version → List ChannelFrame → List ℕ
frame_texts v frames = texts v (map (frame_of v) frames)

-- whether an id is one of this party's own
abbrev pub has_parity : Party → ℕ → Bool
has_parity Odd id = (id % 2) == 1
has_parity Even id = (id % 2) == 0
has_parity Neither id = false

-- whether the end that takes the frame made the offer of its channel
abbrev pub is_own : Party → Origin → ℕ → Bool
is_own party origin.Sender id = false
is_own party origin.Receiver id = true
is_own party origin.ByParity id = has_parity party id

abbrev pub key_of : Party → Frame → ChannelKey
key_of party f = record { id = f.id; own = is_own party f.origin f.id }

abbrev pub body_without_payload : Code → FrameBody
body_without_payload code.Offer = ChannelTerminated
body_without_payload code.OfferAccepted = ChannelTerminated
body_without_payload code.Content = ChannelTerminated
body_without_payload code.ContentWritingCompleted = ContentWritingCompleted
body_without_payload code.ChannelTerminated = ChannelTerminated
body_without_payload code.ContentProcessed = ChannelTerminated

abbrev pub body_of : Code → Payload → FrameBody
body_of c (payload.Offer name window) = Offer name window
body_of c (payload.Accepted window) = OfferAccepted window
body_of c (payload.Content bytes) = Content bytes
body_of c payload.Nothing = body_without_payload c
body_of c (payload.Processed count) = ContentProcessed count

-- a frame as the end that takes it sees it
abbrev pub taken_frame : Party → Frame → ChannelFrame
taken_frame party f = record { key = key_of party f; body = body_of f.code f.payload }
