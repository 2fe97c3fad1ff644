-- A message as a value. From JSON-RPC 2.0, "Request object", "Notification", "Response object" and "Error object".
use Rattle.std.specs.Prelude.{ℕ, List, [], ◌∷◌, codes, Option, Some, None}
use Rattle.wire_base.specs.Tree.{Tree, trees_of}
use Rattle.wire_base.specs.declared.text.Id.{Id}
use Rattle.wire_base.specs.Tree as tree
use Rattle.rpc_items.specs.declared.messages.Params.{Params}
use Rattle.rpc_items.specs.declared.messages.Params.TheVariants.{Absent, Named}
use Rattle.rpc_items.specs.declared.messages.Message.{Message}
use Rattle.rpc_items.specs.declared.messages.Message.TheVariants.{Request, Notification}
use Rattle.rpc_items.specs.declared.messages.Params.TheVariants as params
use Rattle.rpc_items.specs.declared.messages.Message.TheVariants as message
use Rattle.rpc_items.specs.Ids.{id_value}
use Rattle.rpc_items.specs.Values.{map_of}

-- a member, where there is a value for it
abbrev pub with_member : List ℕ → Option Tree → List (List ℕ × Tree)
with_member key (Some value) = (key, value) ∷ []
with_member key None = []

-- parameters as a value; absent ones have none
abbrev pub params_value : Params → Option Tree
params_value Absent = None
params_value (params.List values) = Some (tree.items (trees_of values))
params_value (Named ps) = Some (map_of ps)

-- the id of an error as a value; nil where it has none
abbrev pub error_id : Option Id → Tree
error_id (Some id) = id_value id
error_id None = tree.nil

-- the member that tells the version
abbrev pub version_member : List ℕ × Tree
version_member = (codes "jsonrpc", tree.words (codes "2.0"))

-- a message as a value, with its members in this order
abbrev pub message_value : Message → Tree
message_value (Request id method params) = map_of (version_member ∷ (codes "id", id_value id) ∷ (codes "method", tree.words method) ∷ with_member (codes "params") (params_value params))
message_value (Notification method params) = map_of (version_member ∷ (codes "method", tree.words method) ∷ with_member (codes "params") (params_value params))
message_value (message.Result id value) = map_of (version_member ∷ (codes "id", id_value id) ∷ (codes "result", value) ∷ [])
message_value (message.Error id code text more) = map_of (version_member ∷ (codes "id", error_id id) ∷ (codes "error", map_of ((codes "code", tree.whole code) ∷ (codes "message", tree.words text) ∷ with_member (codes "data") more)) ∷ [])
