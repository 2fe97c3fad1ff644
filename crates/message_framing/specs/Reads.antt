-- Readings of whole streams. A stream is all bytes that were fed, and a body stands with the place of its first byte, the oldest first.
use Rattle.std.specs.Prelude.{◌≡◌, ℕ, ◌+◌, List, [], ◌∷◌, ◌++◌, length, take, drop}
use Rattle.wire_base.specs.declared.reason.Reason.{Reason}
use Rattle.message_framing.specs.declared.framing.Framing.{Framing}
use Rattle.message_framing.specs.declared.front.Front.{Front}
use Rattle.message_framing.specs.declared.front.Front.TheVariants.{Whole, Short, Broken}
use Rattle.wire_base.specs.Front as fronts
use Rattle.wire_base.specs.Given.{Way}
use Rattle.wire_base.specs.Given as given
use Rattle.message_framing.specs.Front.{front}
use Rattle.message_framing.specs.Unread.{Unread}
use Rattle.message_framing.specs.declared.next_body.NextBody.{NextBody}
use Rattle.message_framing.specs.declared.next_body.NextBody.TheVariants as next

-- what stands at the front of these bytes: a body with the number of bytes before it, and the size of its message
abbrev pub message_of : List ℕ → Front → fronts.Front (ℕ × List ℕ)
message_of bytes (Whole start size) = fronts.Whole (start, take size (drop start bytes)) (start + size)
message_of bytes Short = fronts.Short
message_of bytes (Broken offset reason) = fronts.Broken offset reason

-- a body is given with the place of its first byte
abbrev pub messages : Framing → Way (ℕ × List ℕ) (ℕ × List ℕ)
messages f = record { front = λ bytes. message_of bytes (front f bytes); give = λ at body. (at + body.0, body.1) }

-- a stream whose first byte stands at a place begins with messages of these bodies, and then comes a rest
abbrev pub Begins : Framing → (at : ℕ) → (stream : List ℕ) → List (ℕ × List ℕ) → (rest : List ℕ) → Type 0
Begins f = given.Begins (messages f)

-- of all bytes fed, which are this stream, these bodies were given, and the rest is unread
pub record Reads (reader : Unread) (stream : List ℕ) (given : List (ℕ × List ℕ)) : Type 0 where
  pub begins : Begins reader.framing 0 stream given reader.rest
  pub place_is : reader.at + length reader.rest ≡ length stream
  pub fed_is : reader.fed ≡ length stream

-- the bodies that are given after an answer
abbrev pub given_with : NextBody → List (ℕ × List ℕ) → List (ℕ × List ℕ)
given_with (next.Body place body) given = given ++ (place.0, body) ∷ []
given_with next.Short given = given
given_with (next.Refused place reason) given = given
given_with next.OutOfMemory given = given

-- no whole message stands at the front
abbrev pub HasNone : Framing → List ℕ → Type 0
HasNone f = given.HasNone (messages f)

-- the stream breaks a rule after messages of these bodies, at this place
pub record BreaksAfter (f : Framing) (stream : List ℕ) (given : List (ℕ × List ℕ)) (place : ℕ) (reason : Reason) : Type 0 where
  pub rest : List ℕ
  pub offset : ℕ
  pub begins : Begins f 0 stream given rest
  pub broken : front f rest ≡ Broken offset reason
  pub place_is : place + length rest ≡ length stream + offset

-- what the stream alone says that is answered after these bodies; want of memory is free
abbrev pub Follows : Framing → (stream : List ℕ) → (given : List (ℕ × List ℕ)) → NextBody → Type 0
Follows f stream given (next.Body place body) = (rest : List ℕ) × Begins f 0 stream (given ++ (place.0, body) ∷ []) rest
Follows f stream given next.Short = (rest : List ℕ) × Begins f 0 stream given rest × (front f rest ≡ Short)
Follows f stream given (next.Refused place reason) = BreaksAfter f stream given place.0 reason
Follows f stream given next.OutOfMemory = Unit {0}
