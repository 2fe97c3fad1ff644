-- What a reader answers.
use Rattle.std.specs.Prelude.{◌≡◌, ℕ, ◌+◌, List, take, drop}
use Rattle.wire_base.specs.declared.place.Place.{Place}
use Rattle.wire_base.specs.declared.reason.Reason.{Reason}
use Rattle.message_framing.specs.declared.front.Front.TheVariants.{Whole, Short, Broken}
use Rattle.message_framing.specs.Front.{front}
use Rattle.message_framing.specs.Unread.{Unread, without_front}
use Rattle.message_framing.specs.declared.next_body.NextBody.{NextBody}
use Rattle.message_framing.specs.declared.next_body.NextBody.TheVariants as next

-- what is unread breaks a rule, first at this place
pub record RefusesAt (reader : Unread) (place : Place) (reason : Reason) : Type 0 where
  pub offset : ℕ
  pub broken : front reader.framing reader.rest ≡ Broken offset reason
  pub place_is : place.0 ≡ reader.at + offset

-- a body of so many bytes stands whole in what is unread, behind so many bytes of its head
pub record GivesBody (old new : Unread) (place : Place) (body : List ℕ) : Type 0 where
  pub start : ℕ
  pub size : ℕ
  pub whole : front old.framing old.rest ≡ Whole start size
  pub place_is : place.0 ≡ old.at + start
  pub body_is : body ≡ take size (drop start old.rest)
  pub then : new ≡ without_front (start + size) old

-- the answer is what stands at the front of the unread bytes. A message is taken from them, and nothing else changes them. Want of memory is free
abbrev pub AnswersBody : NextBody → (old new : Unread) → Type 0
AnswersBody (next.Body place body) old new = GivesBody old new place body
AnswersBody next.Short old new = (front old.framing old.rest ≡ Short) × (new ≡ old)
AnswersBody (next.Refused place reason) old new = RefusesAt old place reason × (new ≡ old)
AnswersBody next.OutOfMemory old new = new ≡ old

-- a message stands whole at the front, its body of so many bytes behind so many of its head
abbrev pub HasMessage : (start size : ℕ) → Unread → Type 0
HasMessage start size reader = front reader.framing reader.rest ≡ Whole start size

-- the body of that message, with the place of its first byte
abbrev pub front_body : (start size : ℕ) → Unread → ℕ × List ℕ
front_body start size reader = (reader.at + start, take size (drop start reader.rest))
