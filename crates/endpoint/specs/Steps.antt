-- What the parts of a step make of an end with connections.
use Rattle.std.specs.Prelude.{◌≡◌, ◌≤◌, ℕ, ◌+◌, List, ◌∷◌, length, map, Bool, false, Option, Some, None}
use Rattle.wire_base.specs.declared.state.Cause.{Cause}
use Rattle.wire_base.specs.declared.state.EndState.TheVariants as state
use Rattle.wire_base.specs.States.{is_running_state}
use Rattle.mux_items.specs.declared.channel.ChannelKey.{ChannelKey}
use Rattle.mux_items.specs.declared.channel.MuxEvent.{MuxEvent}
use Rattle.mux_items.specs.declared.call.Call.TheVariants as call
use Rattle.mux_items.specs.Calls.{called}
use Rattle.mux_items.specs.Items.{Item}
use Rattle.mux_items.specs.Limits.{most_bytes}
use Rattle.mux_items.specs.Lists.{taken}
use Rattle.mux_items.specs.Views.{in_order}
use Rattle.mux_end.specs.Replies.{KeepsTerms}
use Rattle.mux_end.specs.Stands.{MuxStands}
use Rattle.rpc_items.specs.declared.calls.RpcEvent.{RpcEvent}
use Rattle.rpc_end.specs.Stands.{RpcValue}
use Rattle.endpoint_items.specs.Items.{EndItem, Mux, terms_of, attached_keys}
use Rattle.endpoint_items.specs.Layers.{mux_of, rpc_of}
use Rattle.endpoint_items.specs.Bytes.{consumed, rest_of}
use Rattle.endpoint_items.specs.Allowed.{AreAllowed}
use Rattle.endpoint_items.specs.declared.event.EndEvent.TheVariants as event
use Rattle.endpoint.specs.declared.step.EndStep.{EndStep}
use Rattle.endpoint.specs.declared.step.EndStep.TheVariants as step
use Rattle.endpoint.specs.Replies.{Sends, MessageAnswers}
use Rattle.endpoint.specs.Changes.{Moves}
use Rattle.endpoint.specs.Sending.{SendsAt}
use Rattle.endpoint.specs.Stands.{Stands, ConnectionStands}
use Rattle.endpoint.specs.Value.{EndpointValue, connection_at}

-- whether a connection is there and runs
abbrev pub runs_on : Option RpcValue → Bool
runs_on (Some end) = is_running_state end.state
runs_on None = false

-- connections make of an end what the next message asks for; without one nothing happens. Want of memory may come before
-- it is known whether a message is whole
abbrev pub FromConnections : EndpointValue → EndpointValue → List EndItem → ℕ → List ℕ → (next : Option EndItem) → Option EndStep → Type 0
FromConnections old new items at rest (Some item) (Some reply) = MessageAnswers old new items at rest item reply
FromConnections old new items at rest None (Some step.OutOfMemory) = new.state ≡ state.Stopped
FromConnections old new items at rest None None = new ≡ old
FromConnections old new items at rest next reply = ⊥

-- the multiplexing end has applied an item, and nothing was done for connections yet
pub record HasApplied (end : EndpointValue) (items : List EndItem) (item : Item) (at : ℕ) (rest : List ℕ) : Type 0 where
  pub mux : MuxStands end.mux (item ∷ mux_of end.mux.version items) at rest
  pub state : end.state ≡ end.mux.state
  pub connections : (c : ChannelKey) → ConnectionStands (connection_at c end.connections) (rpc_of end.mux.version c items) (terms_of c items) (consumed c items) (rest_of end.mux.version c items)
  pub keys : map (λ attached. attached.key) end.connections ≡ in_order (attached_keys items)
  pub allowed : AreAllowed end.mux.version items
  pub taken_within : (c : ChannelKey) → length (taken end.mux.version c (item ∷ mux_of end.mux.version items)) ≤ at
  pub fed_within : at + length rest ≤ most_bytes

-- all is done that follows the item
pub record Follows (old new : EndpointValue) (items : List EndItem) (item : Item) (at : ℕ) (rest : List ℕ) : Type 0 where
  pub stands : Stands new (Mux item ∷ items) at rest
  pub sends : Sends old.mux.version (item ∷ mux_of old.mux.version items) (mux_of old.mux.version (Mux item ∷ items)) old.mux.output new.mux.output
  pub terms : KeepsTerms old.mux new.mux

-- what a step answers whose event asks for that
abbrev pub FollowAnswers : EndpointValue → EndpointValue → List EndItem → Item → ℕ → List ℕ → MuxEvent → EndStep → Type 0
FollowAnswers old new items item at rest happened (step.Event (event.Mux e)) = (e ≡ happened) × Follows old new items item at rest
FollowAnswers old new items item at rest happened step.OutOfMemory = new.state ≡ state.Stopped
FollowAnswers old new items item at rest happened reply = ⊥

-- what a connection said that applied a message is written
abbrev pub SaidAnswers : EndpointValue → EndpointValue → (place : ℕ) → ChannelKey → RpcEvent → EndStep → Type 0
SaidAnswers old new place key happened (step.Event (event.Rpc k e)) = (k ≡ key) × (e ≡ happened) × SendsAt old new place
SaidAnswers old new place key happened step.OutOfMemory = new.state ≡ state.Stopped
SaidAnswers old new place key happened reply = ⊥

-- the multiplexing end alone goes from old, which stood for the items before, to new, which stands for those after
pub record MovesAlone (old new : EndpointValue) (before after : List Item) (at : ℕ) (rest : List ℕ) : Type 0 where
  pub moves : Moves old.mux new.mux before after at rest
  pub connections : new.connections ≡ old.connections
  pub state : new.state ≡ new.mux.state

-- the channel of a connection that refused a message is terminated
abbrev pub ClosesAt : EndpointValue → EndpointValue → ChannelKey → Cause → List Item → ℕ → List ℕ → EndStep → Type 0
ClosesAt old new key why items at rest (step.Event (event.RpcEnded k c)) = (k ≡ key) × (c ≡ why) × MovesAlone old new items (called old.mux.version (call.Terminate key) items) at rest
ClosesAt old new key why items at rest step.OutOfMemory = new.state ≡ state.Stopped
ClosesAt old new key why items at rest reply = ⊥
