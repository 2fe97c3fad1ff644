-- Requests of the peer that wait for their response.
use Rattle.std.specs.Prelude.{List, [], ◌∷◌, Bool, true, false, if◌then◌else◌}
use Rattle.wire_base.specs.declared.text.Id.{Id}
use Rattle.rpc_items.specs.declared.messages.Message.TheVariants.{Request}
use Rattle.rpc_items.specs.Ids.{same_id}
use Rattle.rpc_items.specs.declared.methods.Meaning.{Meaning}
use Rattle.rpc_items.specs.declared.methods.Meaning.TheVariants.{Serves, Calls}
use Rattle.rpc_items.specs.Meanings.{meaning}
use Rattle.rpc_items.specs.Items.{Respond, RpcItem, Did, Got}
use Rattle.rpc_items.specs.OwnHandles.{own_live}

-- whether a request is one that the service has to answer: for itself, or for the object of a live own handle
abbrev pub asks : Meaning → List RpcItem → Bool
asks Serves items = true
asks (Calls handle method) items = own_live handle items
asks meaning items = false

-- whether the peer's request of this id waits for its response
abbrev pub is_waiting : Id → List RpcItem → Bool
is_waiting id [] = false
is_waiting id (Got place (Request got method params) ∷ items) = if same_id got id then asks (meaning method params) items else is_waiting id items
is_waiting id (Did (Respond answered response) ∷ items) = if same_id answered id then false else is_waiting id items
is_waiting id (item ∷ items) = is_waiting id items
