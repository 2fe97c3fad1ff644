-- The view of one direction's bytes of a multiplexing stream.
use Rattle.std.specs.Prelude.{ℕ, zero, suc, ◌+◌, List, [], ◌∷◌, ◌++◌, length, take, drop, Option, Some, None, codes}
use Rattle.std.specs.List.{flat_map}
use Rattle.wire_base.specs.Front as fronts
use Rattle.wire_base.specs.Front.{Whole, Short, Broken}
use Rattle.wire_base.specs.declared.reason.Reason.{Reason}
use Rattle.wire_base.specs.declared.frame.Version.{Version}
use Rattle.wire_base.specs.declared.frame.Frame.{Frame}
use Rattle.frame_text.specs.Front.{Front}
use Rattle.frame_text.specs.Reading.{front}
use Rattle.mux_handshake.specs.Handshake.{Handshake, handshake}
use Rattle.stream_view.specs.Lines.{frame_line, hello_line, rest_line, refused_line}

-- the frames of a stream, each with the place of its first byte, and the place and the bytes of what is left behind them
pub record Stream : Type 0 where
  pub frames : List (ℕ × Frame)
  pub at : ℕ
  pub rest : List ℕ

-- no frame, and these bytes are left
abbrev pub no_frame : (at : ℕ) → List ℕ → Stream
no_frame at bytes = record { frames = []; at = at; rest = bytes }

-- a frame, and what is behind it
abbrev pub onto : ℕ × Frame → Stream → Stream
onto x s = record { frames = x ∷ s.frames; at = s.at; rest = s.rest }

-- the frame at the front of the bytes, and what is behind it
abbrev pub stream_by : (behind : (at : ℕ) → List ℕ → Stream) → (at : ℕ) → List ℕ → Front → Stream
stream_by behind at bytes (Whole f size) = onto (at, f) (behind (at + size) (drop size bytes))
stream_by behind at bytes Short = no_frame at bytes
stream_by behind at bytes (Broken offset reason) = no_frame at bytes

-- the frames of bytes whose first stands at this place, but no more than so many
abbrev pub stream_of : Version → (most at : ℕ) → List ℕ → Stream
stream_of v zero at bytes = no_frame at bytes
stream_of v (suc most) at bytes = stream_by (stream_of v most) at bytes (front v bytes)

-- what is left behind all frames: bytes that are less than one, or a token that breaks a rule
abbrev pub left_line : {A : Type 0} → (at count : ℕ) → fronts.Front A → List ℕ
left_line at count (Whole x size) = []
left_line at count Short = rest_line at count
left_line at count (Broken offset reason) = refused_line (at + offset) reason

-- a token that breaks a rule, by its place
abbrev pub left_refusal : {A : Type 0} → (at : ℕ) → fronts.Front A → Option (ℕ × Reason)
left_refusal at (Whole x size) = None
left_refusal at Short = None
left_refusal at (Broken offset reason) = Some (at + offset, reason)

-- the lines of a stream
abbrev pub stream_lines : Version → Stream → List ℕ
stream_lines v s = flat_map (λ x. frame_line x.0 x.1) s.frames ++ left_line s.at (length s.rest) (front v s.rest)

-- where a stream is refused
abbrev pub stream_refusal : Version → Stream → Option (ℕ × Reason)
stream_refusal v s = left_refusal s.at (front v s.rest)

-- the handshake at the front, at an end without a nonce, to which no peer's is equal
abbrev pub greeting : Version → List ℕ → Handshake
greeting v bytes = handshake v [] bytes

-- the stream behind a handshake of so many bytes; a frame has a byte at least
abbrev pub stream_behind : Version → (size : ℕ) → List ℕ → Stream
stream_behind v size bytes = stream_of v (length bytes) size (drop size bytes)

-- the lines of bytes at whose front this stands
abbrev pub lines_by : Version → List ℕ → Handshake → List ℕ
lines_by v bytes (Whole party size) = hello_line v (take size bytes) ++ stream_lines v (stream_behind v size bytes)
lines_by v bytes front = left_line 0 (length bytes) front

-- where bytes at whose front this stands are refused
abbrev pub refusal_by : Version → List ℕ → Handshake → Option (ℕ × Reason)
refusal_by v bytes (Whole party size) = stream_refusal v (stream_behind v size bytes)
refusal_by v bytes front = left_refusal 0 front

-- the view of the bytes: the handshake, the frames from left to right, and what is left
abbrev pub view_text : Version → List ℕ → List ℕ
view_text v bytes = codes "view 1\n" ++ lines_by v bytes (greeting v bytes) ++ codes "end\n"

-- the first token of the bytes that breaks a rule, by its place
abbrev pub view_refusal : Version → List ℕ → Option (ℕ × Reason)
view_refusal v bytes = refusal_by v bytes (greeting v bytes)
