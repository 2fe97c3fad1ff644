-- Readings of whole streams. A stream is all bytes that were fed, and a frame stands with the place of its first byte, the oldest first.
use Rattle.std.specs.Prelude.{◌≡◌, ℕ, ◌+◌, List, [], ◌∷◌, ◌++◌, length}
use Rattle.wire_base.specs.declared.frame.Frame.{Frame}
use Rattle.wire_base.specs.declared.frame.Version.{Version}
use Rattle.wire_base.specs.declared.reason.Reason.{Reason}
use Rattle.frame_text.specs.Front.{Short, Broken}
use Rattle.wire_base.specs.Given.{Way}
use Rattle.wire_base.specs.Given as given
use Rattle.frame_text.specs.Reading.{front}
use Rattle.frame_reader.specs.Unread.{Unread}
use Rattle.frame_reader.specs.declared.next_frame.NextFrame.{NextFrame}
use Rattle.frame_reader.specs.declared.next_frame.NextFrame.TheVariants as next

-- a frame is given with the place of its first byte
abbrev pub frames : Version → Way Frame (ℕ × Frame)
frames v = record { front = front v; give = λ at frame. (at, frame) }

-- a stream whose first byte stands at a place begins with these frames, and then comes a rest
abbrev pub Begins : Version → (at : ℕ) → (stream : List ℕ) → List (ℕ × Frame) → (rest : List ℕ) → Type 0
Begins v = given.Begins (frames v)

-- of all bytes fed, which are this stream, these frames were given, and the rest is unread
pub record Reads (reader : Unread) (start : ℕ) (stream : List ℕ) (given : List (ℕ × Frame)) : Type 0 where
  pub begins : Begins reader.version start stream given reader.rest
  pub place_is : reader.at + length reader.rest ≡ start + length stream
  pub fed_is : reader.fed ≡ length stream

-- the frames that are given after an answer
abbrev pub given_with : NextFrame → List (ℕ × Frame) → List (ℕ × Frame)
given_with (next.Frame place frame) given = given ++ (place.0, frame) ∷ []
given_with next.Short given = given
given_with (next.Refused place reason) given = given
given_with next.OutOfMemory given = given

-- no whole frame stands at the front
abbrev pub HasNone : Version → List ℕ → Type 0
HasNone v = given.HasNone (frames v)

-- the stream breaks a rule after these frames, by the token at this place
pub record BreaksAfter (v : Version) (start : ℕ) (stream : List ℕ) (given : List (ℕ × Frame)) (place : ℕ) (reason : Reason) : Type 0 where
  pub rest : List ℕ
  pub offset : ℕ
  pub begins : Begins v start stream given rest
  pub broken : front v rest ≡ Broken offset reason
  pub place_is : place + length rest ≡ start + length stream + offset

-- what the stream alone says that is answered after these frames; want of memory is free
abbrev pub Follows : Version → (start : ℕ) → (stream : List ℕ) → (given : List (ℕ × Frame)) → NextFrame → Type 0
Follows v start stream given (next.Frame place frame) = (rest : List ℕ) × Begins v start stream (given ++ (place.0, frame) ∷ []) rest
Follows v start stream given next.Short = (rest : List ℕ) × Begins v start stream given rest × (front v rest ≡ Short)
Follows v start stream given (next.Refused place reason) = BreaksAfter v start stream given place.0 reason
Follows v start stream given next.OutOfMemory = Unit {0}
