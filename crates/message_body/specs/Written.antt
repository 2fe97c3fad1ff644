-- A message as the bytes of a body.
use Rattle.std.specs.Prelude.{ℕ, List, length, Bool, true, false, nat_lt, if◌then◌else◌, Option, Some, None}
use Rattle.wire_base.specs.Tree.{Tree}
use Rattle.json_value.specs.Json.{json_text}
use Rattle.pack_value.specs.Shortest.{shortest}
use Rattle.rpc_items.specs.declared.messages.Message.{Message}
use Rattle.rpc_items.specs.Writing.{message_value}
use Rattle.wire_base.specs.declared.refusal.Refusal.{Refusal}
use Rattle.wire_base.specs.declared.refusal.Refusal.TheVariants.{BodyTooLong}
use Rattle.rpc_items.specs.Bodies.{Encoder, most_body}
use Rattle.message_body.specs.declared.encoding.Encoding.{Encoding}
use Rattle.message_body.specs.declared.encoding.Encoding.TheVariants.{Json, Pack}

-- whether an encoding is JSON
abbrev pub is_json : Encoding → Bool
is_json Json = true
is_json Pack = false

-- a value as bytes: its compact JSON text, or its shortest spelling in MessagePack
abbrev pub value_text : Encoding → Tree → List ℕ
value_text Json t = json_text t
value_text Pack t = shortest t

-- how an encoding writes values
abbrev pub encoder : Encoding → Encoder
encoder encoding = record { json = is_json encoding; size = λ t. length (value_text encoding t) }

-- a message as the bytes of a body
abbrev pub body_text : Encoding → Message → List ℕ
body_text encoding m = value_text encoding (message_value m)

-- why a value that breaks no other rule can't be the body of a message
abbrev pub size_refusal : Encoding → Tree → Option Refusal
size_refusal encoding t = if nat_lt most_body (length (value_text encoding t)) then Some BodyTooLong else None
