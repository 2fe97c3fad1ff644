-- What the bytes that aren't applied are to an end.
use Rattle.std.specs.Prelude.{ℕ, ◌+◌, List, take, drop, Bool, false, is_ok, Option, Some, None, Result, Ok, Err}
use Rattle.message_body.specs.declared.encoding.Encoding.{Encoding}
use Rattle.message_body.specs.Found.{body_in}
use Rattle.message_framing.specs.declared.front.Front.{Front}
use Rattle.message_framing.specs.declared.front.Front.TheVariants as fronts
use Rattle.message_framing.specs.Front.{front}
use Rattle.rpc_items.specs.declared.messages.Message.{Message}
use Rattle.rpc_items.specs.Items.{RpcItem}
use Rattle.rpc_items.specs.Refusals.{message_refusal}
use Rattle.wire_base.specs.declared.reason.Reason.{Reason}
use Rattle.rpc_end.specs.declared.terms.Terms.{Terms}

-- a message that no rule refuses, by the place of its body and its size with its head, too few bytes to tell, or a refusal
pub data Arrival : Type 0 where
  Applies : (place : ℕ) → (message : Message) → (size : ℕ) → Arrival
  Waits : Arrival
  Refuses : (place : ℕ) → (reason : Reason) → Arrival

abbrev pub allowed_arrival : (place : ℕ) → Message → (size : ℕ) → Option Reason → Arrival
allowed_arrival place message size None = Applies place message size
allowed_arrival place message size (Some r) = Refuses place r

-- a body whose first byte stands at this place, in so many bytes with its head
abbrev pub body_arrival : List RpcItem → (place size : ℕ) → Result Message (ℕ × Reason) → Arrival
body_arrival items place size (Ok message) = allowed_arrival place message size (message_refusal message items)
body_arrival items place size (Err broken) = Refuses (place + broken.0) broken.1

abbrev pub front_arrival : Terms → List RpcItem → (at : ℕ) → (rest : List ℕ) → Front → Arrival
front_arrival terms items at rest (fronts.Whole start size) = body_arrival items (at + start) (start + size) (body_in terms.encoding (take size (drop start rest)))
front_arrival terms items at rest fronts.Short = Waits
front_arrival terms items at rest (fronts.Broken offset r) = Refuses (at + offset) r

-- the next message of the rest, whose first byte stands at this place
abbrev pub arrival : Terms → List RpcItem → (at : ℕ) → (rest : List ℕ) → Arrival
arrival terms items at rest = front_arrival terms items at rest (front terms.framing rest)

-- whether what stands in front is a whole body that says a message
abbrev pub is_whole_message : Encoding → (rest : List ℕ) → Front → Bool
is_whole_message encoding rest (fronts.Whole start size) = is_ok (body_in encoding (take size (drop start rest)))
is_whole_message encoding rest front = false

-- whether the rest begins with a whole message
abbrev pub begins_message : Terms → (rest : List ℕ) → Bool
begins_message terms rest = is_whole_message terms.encoding rest (front terms.framing rest)
