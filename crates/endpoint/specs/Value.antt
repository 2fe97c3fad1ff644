-- The value of an end with connections.
use Rattle.std.specs.Prelude.{◌≡◌, List, [], ◌∷◌, Bool, if◌then◌else◌, Option, Some, None}
use Rattle.wire_base.specs.declared.state.EndState.{EndState}
use Rattle.wire_base.specs.declared.state.EndState.TheVariants as state
use Rattle.mux_items.specs.declared.channel.ChannelKey.{ChannelKey}
use Rattle.mux_items.specs.Bodies.{same_key}
use Rattle.mux_end.specs.Stands.{EndValue}
use Rattle.rpc_end.specs.Stands.{RpcValue}
use Rattle.endpoint.specs.declared.attached.Attached.{Attached}

-- its multiplexing end, and its connections, those of own channels before those of the peer's, each side's by rising id
pub record EndpointValue : Type 0 where
  pub mux : EndValue
  pub connections : List Attached
  pub state : EndState

-- want of memory anywhere stops the whole end
abbrev pub value_in : EndValue → List Attached → (stopped : Bool) → EndpointValue
value_in mux connections stopped = record { mux = mux; connections = connections; state = if stopped then state.Stopped else mux.state }

-- the connection of a channel, if it has one
abbrev pub connection_at : ChannelKey → List Attached → Option RpcValue
connection_at c [] = None
connection_at c (x ∷ xs) = if same_key c x.key then Some x.end else connection_at c xs

-- no channel has two connections
abbrev pub AreOfOne : List Attached → Type 0
AreOfOne [] = Unit {0}
AreOfOne (x ∷ xs) = (connection_at x.key xs ≡ None) × AreOfOne xs
