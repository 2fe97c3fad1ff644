-- The message that a value is, or the first rule that it breaks. From JSON-RPC 2.0, "Request object", "Notification", "Response object" and "Error object".
use Rattle.std.specs.Prelude.{ℕ, List, Bool, false, not, codes, bytes_eq, if◌then◌else◌, Option, Some, None, Result, Ok, Err}
use Rattle.wire_base.specs.Tree.{Tree, list_of, pair_list_of}
use Rattle.wire_base.specs.declared.reason.Reason.{Reason}
use Rattle.wire_base.specs.declared.text.Id.{Id}
use Rattle.wire_base.specs.Tree as tree
use Rattle.wire_base.specs.declared.reason.Reason.TheVariants as reason
use Rattle.rpc_items.specs.declared.messages.Params.{Params}
use Rattle.rpc_items.specs.declared.messages.Params.TheVariants.{Absent, Named}
use Rattle.rpc_items.specs.declared.messages.Message.{Message}
use Rattle.rpc_items.specs.declared.messages.Message.TheVariants.{Request, Notification}
use Rattle.rpc_items.specs.declared.messages.Params.TheVariants as params
use Rattle.rpc_items.specs.declared.messages.Message.TheVariants as message
use Rattle.rpc_items.specs.Ids.{is_id_number, id_in, id_if}
use Rattle.rpc_items.specs.Values.{member}

-- whether a member is the version 2.0
abbrev pub is_version : Option Tree → Bool
is_version (Some (tree.words s)) = bytes_eq s (codes "2.0")
is_version value = false

-- a member, where one that is nil counts as absent
abbrev pub unless_nil : Option Tree → Option Tree
unless_nil (Some tree.nil) = None
unless_nil value = value

-- an id that is there has to be one
abbrev pub id_or_bad : Option Id → Result (Option Id) Reason
id_or_bad (Some id) = Ok (Some id)
id_or_bad None = Err reason.BadId62

-- an id that may be absent
abbrev pub optional_id : Option Tree → Result (Option Id) Reason
optional_id (Some value) = id_or_bad (id_in value)
optional_id None = Ok None

-- parameters: an array, a map, or absent, where nil ones count as absent
abbrev pub params_in : Option Tree → Result Params Reason
params_in None = Ok Absent
params_in (Some tree.nil) = Ok Absent
params_in (Some (tree.items ts)) = Ok (params.List (list_of ts))
params_in (Some (tree.pairs ps)) = Ok (Named (pair_list_of ps))
params_in (Some value) = Err reason.BadParams

-- a request with an id, a notification without one
abbrev pub call_with : List ℕ → Result (Option Id) Reason → Result Params Reason → Result Message Reason
call_with method (Err r) given = Err r
call_with method (Ok id) (Err r) = Err r
call_with method (Ok (Some id)) (Ok given) = Ok (Request id method given)
call_with method (Ok None) (Ok given) = Ok (Notification method given)

-- a call: first its method is a text, then the id and the parameters are looked at
abbrev pub call_in : (method : Tree) → (id given : Option Tree) → Result Message Reason
call_in (tree.words method) id given = call_with method (optional_id id) (params_in given)
call_in method id given = Err reason.BadMethod

-- a result, which has to have an id
abbrev pub result_with : Option Id → Tree → Result Message Reason
result_with (Some id) value = Ok (message.Result id value)
result_with None value = Err reason.BadId62

-- an error: first its id, then a code that is a whole number of 64 bits and a message that is a text
abbrev pub error_with : Result (Option Id) Reason → (code text more : Option Tree) → Result Message Reason
error_with (Err r) code text more = Err r
error_with (Ok id) (Some (tree.whole z)) (Some (tree.words text)) more = if is_id_number z then Ok (message.Error id z text more) else Err reason.BadError
error_with (Ok id) code text more = Err reason.BadError

-- a response has a result or an error and not both; an error's id may also be nil or absent
abbrev pub response_with : (id result error : Option Tree) → Result Message Reason
response_with id (Some value) None = result_with (id_if id) value
response_with id None (Some error) = error_with (optional_id (unless_nil id)) (member (codes "code") error) (member (codes "message") error) (member (codes "data") error)
response_with id result error = Err reason.BothOrNeither

-- a call where there is a method, a response where there is none
abbrev pub by_method : (method id given result error : Option Tree) → Result Message Reason
by_method (Some method) id given result error = call_in method id given
by_method None id given result error = response_with id result error

-- the message that a value is, or the first rule that it breaks; unknown members are ignored
abbrev pub message_in : Tree → Result Message Reason
message_in (tree.items ts) = Err reason.Batch
message_in (tree.pairs ps) =
    if not (is_version (member (codes "jsonrpc") (tree.pairs ps))) then Err reason.NotVersion2
    else by_method (member (codes "method") (tree.pairs ps)) (member (codes "id") (tree.pairs ps)) (member (codes "params") (tree.pairs ps)) (member (codes "result") (tree.pairs ps)) (unless_nil (member (codes "error") (tree.pairs ps)))
message_in value = Err reason.NotObject
