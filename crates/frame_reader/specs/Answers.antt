-- What a reader answers.
use Rattle.std.specs.Prelude.{◌≡◌, ℕ, ◌+◌}
use Rattle.wire_base.specs.declared.frame.Frame.{Frame}
use Rattle.wire_base.specs.declared.place.Place.{Place}
use Rattle.wire_base.specs.declared.reason.Reason.{Reason}
use Rattle.frame_text.specs.Front.{Whole, Short, Broken}
use Rattle.frame_text.specs.Reading.{front}
use Rattle.frame_reader.specs.Unread.{Unread, without_front, with_refusal}
use Rattle.frame_reader.specs.declared.next_frame.NextFrame.{NextFrame}
use Rattle.frame_reader.specs.declared.next_frame.NextFrame.TheVariants as next

-- what is unread breaks a rule, first by the token at this place
pub record RefusesAt (reader : Unread) (place : Place) (reason : Reason) : Type 0 where
  pub offset : ℕ
  pub broken : front reader.version reader.rest ≡ Broken offset reason
  pub place_is : place.0 ≡ reader.at + offset

-- the answer is what stands at the front of the unread bytes. A frame is taken from them, and nothing else changes them; a refusal is kept in mind. Want of memory is free
abbrev pub AnswersFrame : NextFrame → (old new : Unread) → Type 0
AnswersFrame (next.Frame place frame) old new = (size : ℕ) × (front old.version old.rest ≡ Whole frame size) × (place.0 ≡ old.at) × (new ≡ without_front size old)
AnswersFrame next.Short old new = (front old.version old.rest ≡ Short) × (new ≡ old)
AnswersFrame (next.Refused place reason) old new = RefusesAt old place reason × (new ≡ with_refusal old)
AnswersFrame next.OutOfMemory old new = new ≡ old

-- a frame of so many bytes stands whole at the front
abbrev pub HasFrame : (size : ℕ) → Unread → Type 0
HasFrame size reader = (frame : Frame) × (front reader.version reader.rest ≡ Whole frame size)
