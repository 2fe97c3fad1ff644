-- Lives of handles that the peer made.
use Rattle.std.specs.Prelude.{ℕ, List, [], ◌∷◌, Bool, true, false, ◌||◌, ◌==◌, is_some, if◌then◌else◌, Option, Some, None}
use Rattle.wire_base.specs.Tree.{Tree}
use Rattle.wire_base.specs.declared.text.Id.{Id}
use Rattle.wire_base.specs.Options.{or_else}
use Rattle.rpc_items.specs.declared.calls.Lifetime.{Lifetime}
use Rattle.rpc_items.specs.declared.calls.Lifetime.TheVariants.{Call, Explicit}
use Rattle.rpc_items.specs.declared.messages.Message.{Message}
use Rattle.rpc_items.specs.declared.messages.Message.TheVariants.{Request, Notification}
use Rattle.rpc_items.specs.declared.messages.Message.TheVariants as message
use Rattle.rpc_items.specs.Ids.{same_id}
use Rattle.rpc_items.specs.Keys.{same_key, peer_key}
use Rattle.rpc_items.specs.Objects.{Offered, offered_in, whole_arguments}
use Rattle.rpc_items.specs.declared.methods.Meaning.{Meaning}
use Rattle.rpc_items.specs.declared.methods.Meaning.TheVariants.{Serves}
use Rattle.rpc_items.specs.Meanings.{meaning}
use Rattle.rpc_items.specs.Items.{Respond, Release, RpcItem, Did, Got, End}
use Rattle.rpc_items.specs.Outcomes.{request_named}
use Rattle.rpc_items.specs.OwnHandles.{releases}
use Rattle.rpc_items.specs.Waiting.{asks}

-- a handle that was adopted, and the peer's request with whose response it ends
pub record Adopted : Type 0 where
  pub until : Option Id

-- an object of call lifetime is adopted from a request alone
abbrev pub adopted_until : Option Id → Lifetime → Option Adopted
adopted_until request Explicit = Some (record { until = None })
adopted_until (Some id) Call = Some (record { until = Some id })
adopted_until None Call = None

-- the handle as one value offers it
abbrev pub adopted_by : ℕ → (request : Option Id) → Option Offered → Option Adopted
adopted_by number request (Some offered) = if offered.handle == number then adopted_until request offered.lifetime else None
adopted_by number request None = None

-- the handle as whole values offer it, left to right: the first that does counts
abbrev pub adopted_in : ℕ → (request : Option Id) → List Tree → Option Adopted
adopted_in number request [] = None
adopted_in number request (value ∷ values) = or_else (adopted_by number request (offered_in value)) (adopted_in number request values)

-- whether this meaning is a method of the service
abbrev pub is_service : Meaning → Bool
is_service Serves = true
is_service meaning = false

-- the handle as a message offers it: in a request that is asked, in a notification to the service, or as the first result of an own request
abbrev pub adoption : ℕ → Message → List RpcItem → Option Adopted
adoption number (Request id method params) items = if asks (meaning method params) items then adopted_in number (Some id) (whole_arguments params) else None
adoption number (Notification method params) items = if is_service (meaning method params) then adopted_in number None (whole_arguments params) else None
adoption number (message.Result id value) items = if is_some (request_named id items) then adopted_by number None (offered_in value) else None
adoption number message items = None

-- the first adoption of peer handle n
abbrev pub adopted : ℕ → List RpcItem → Option Adopted
adopted number [] = None
adopted number (Got place message ∷ items) = or_else (adopted number items) (adoption number message items)
adopted number (item ∷ items) = adopted number items

-- whether this id is that of the request with whose response a handle ends
abbrev pub is_until : Option Id → Id → Bool
is_until (Some id) answered = same_id id answered
is_until None answered = false

-- whether an item ends peer handle n: a release by either side, the response to its request, or the end
abbrev pub ends_peer : ℕ → (until : Option Id) → RpcItem → Bool
ends_peer number until (Did (Release key)) = same_key key (peer_key number)
ends_peer number until (Did (Respond id response)) = is_until until id
ends_peer number until (Got place message) = releases (peer_key number) message
ends_peer number until (End cause) = true
ends_peer number until item = false

-- whether an item ends peer handle n, where it was adopted
abbrev pub ends_adopted : ℕ → Option Adopted → RpcItem → Bool
ends_adopted number (Some adopted) item = ends_peer number adopted.until item
ends_adopted number None item = false

-- whether peer handle n has ended: some item after its adoption ends it
abbrev pub peer_ended : ℕ → List RpcItem → Bool
peer_ended number [] = false
peer_ended number (item ∷ items) = peer_ended number items || ends_adopted number (adopted number items) item
