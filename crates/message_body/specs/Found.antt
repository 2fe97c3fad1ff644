-- The message that a body says, or where in it a rule is broken and which.
use Rattle.std.specs.Prelude.{ℕ, List, length, ◌==◌, if◌then◌else◌, Option, Some, None, Result, Ok, Err}
use Rattle.std.specs.Str.{is_utf8}
use Rattle.serde_json.specs.Data as json
use Rattle.serde_json.specs.Read.{read}
use Rattle.wire_base.specs.Tree.{Tree}
use Rattle.wire_base.specs.declared.reason.Reason.{Reason}
use Rattle.wire_base.specs.declared.reason.Reason.TheVariants.{NotJson, Float, NotOneValue}
use Rattle.json_value.specs.Reading.{tree_of}
use Rattle.wire_base.specs.Front.{Front, Whole, Short, Broken}
use Rattle.pack_value.specs.Answer.{front}
use Rattle.rpc_items.specs.declared.messages.Message.{Message}
use Rattle.rpc_items.specs.Reading.{message_in}
use Rattle.message_body.specs.declared.encoding.Encoding.{Encoding}
use Rattle.message_body.specs.declared.encoding.Encoding.TheVariants.{Json, Pack}

-- a value whose numbers are all whole ones, or the reason why it is none
abbrev pub unless_float : Option Tree → Result Tree Reason
unless_float (Some t) = Ok t
unless_float None = Err Float

-- the value of a reading by the crate `serde_json`, where there is one
abbrev pub value_read : Option json.Data → Result Tree Reason
value_read (Some d) = unless_float (tree_of d)
value_read None = Err NotJson

-- the value that bytes are as JSON, or the reason why they are none
abbrev pub json_in : List ℕ → Result Tree Reason
json_in b = if is_utf8 b then value_read (read b) else Err NotJson

-- a value that takes all of so many bytes; too few bytes end at their end, and too many go on where the value ends
abbrev pub one_value : (total : ℕ) → Front Tree → Result Tree (ℕ × Reason)
one_value total (Whole t n) = if n == total then Ok t else Err (n, NotOneValue)
one_value total Short = Err (total, NotOneValue)
one_value total (Broken k r) = Err (k, r)

-- the value that bytes are as MessagePack, all of them, or where and why they are none
abbrev pub pack_in : List ℕ → Result Tree (ℕ × Reason)
pack_in b = one_value (length b) (front b)

-- a rule that is broken by the whole of a body is broken at its start
abbrev pub at_start : {A : Type 0} → Result A Reason → Result A (ℕ × Reason)
at_start (Ok x) = Ok x
at_start (Err r) = Err (0, r)

-- the value that a body is, or where in it a rule is broken and which
abbrev pub value_in : Encoding → List ℕ → Result Tree (ℕ × Reason)
value_in Json b = at_start (json_in b)
value_in Pack b = pack_in b

-- the message that a value is, where there is a value
abbrev pub message_found : Result Tree (ℕ × Reason) → Result Message (ℕ × Reason)
message_found (Ok t) = at_start (message_in t)
message_found (Err e) = Err e

-- the message that a body says, or where in it a rule is broken and which
abbrev pub body_in : Encoding → List ℕ → Result Message (ℕ × Reason)
body_in encoding b = message_found (value_in encoding b)
