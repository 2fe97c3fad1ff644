-- What became of own requests.
use Rattle.std.specs.Prelude.{ℕ, pos, List, [], ◌∷◌, Bool, true, false, not, ◌&&◌, is_none, if◌then◌else◌, Option, Some, None}
use Rattle.wire_base.specs.Options.{or_else}
use Rattle.wire_base.specs.declared.text.Id.{Id}
use Rattle.wire_base.specs.declared.text.Id.TheVariants.{Number}
use Rattle.rpc_items.specs.declared.calls.Outcome.{Outcome}
use Rattle.rpc_items.specs.declared.calls.Outcome.TheVariants.{Replied, Failed, Lost, Starved}
use Rattle.rpc_items.specs.declared.messages.Message.{Message}
use Rattle.rpc_items.specs.declared.messages.Message.TheVariants as message
use Rattle.rpc_items.specs.Ids.{same_id, numbered_id}
use Rattle.rpc_items.specs.Items.{RpcItem, Got, is_running}
use Rattle.rpc_items.specs.Drawn.{is_drawn, is_forgotten}

-- the response to request n that a message is: a result or an error
abbrev pub response_in : ℕ → Message → Option Outcome
response_in n (message.Result id value) = if same_id id (numbered_id n) then Some (Replied value) else None
response_in n (message.Error (Some id) code text more) = if same_id id (numbered_id n) then Some (Failed code text more) else None
response_in n message = None

-- the response to request n that an item is
abbrev pub response_to : ℕ → RpcItem → Option Outcome
response_to n (Got place message) = response_in n message
response_to n item = None

-- the first response to request n that stands after its drawing and before any end
abbrev pub answer_to : ℕ → List RpcItem → Option Outcome
answer_to n [] = None
answer_to n (item ∷ items) = if is_running items && is_drawn n items then or_else (answer_to n items) (response_to n item) else answer_to n items

-- whether request n was drawn and waits for its response
abbrev pub is_unanswered : ℕ → List RpcItem → Bool
is_unanswered n items = is_running items && is_drawn n items && is_none (answer_to n items)

-- what can be told of a request
pub data Look : Type 0 where
  Known : (outcome : Outcome) → Look
  NotYet : Look
  NoRequest : Look

-- with no response a request is lost at the end, and starved where the connection stopped
abbrev pub look_at : Option Outcome → (running stopped : Bool) → Look
look_at (Some outcome) running stopped = Known outcome
look_at None running stopped = if not running then Known Lost else if stopped then Known Starved else NotYet

-- what can be told of request n, on a connection that stopped or not
abbrev pub outcome : (stopped : Bool) → ℕ → List RpcItem → Look
outcome stopped n items = if is_drawn n items && not (is_forgotten n items) then look_at (answer_to n items) (is_running items) stopped else NoRequest

-- whether an outcome is known
abbrev pub is_known : Look → Bool
is_known (Known outcome) = true
is_known look = false

-- the unanswered own request that an id names
abbrev pub request_named : Id → List RpcItem → Option ℕ
request_named (Number (pos n)) items = if is_unanswered n items then Some n else None
request_named id items = None
