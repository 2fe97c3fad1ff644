-- When an end with connections stands for a list of items.
use Rattle.std.specs.Prelude.{◌≡◌, ◌≤◌, ℕ, ◌+◌, List, [], length, map, Option, Some, None}
use Rattle.mux_items.specs.declared.channel.ChannelKey.{ChannelKey}
use Rattle.mux_items.specs.Limits.{most_bytes}
use Rattle.mux_items.specs.Lists.{taken}
use Rattle.mux_items.specs.Views.{in_order}
use Rattle.mux_end.specs.Stands.{MuxStands}
use Rattle.rpc_items.specs.Items.{RpcItem}
use Rattle.rpc_end.specs.declared.terms.Terms.{Terms}
use Rattle.rpc_end.specs.Stands.{RpcValue, RpcStands}
use Rattle.endpoint_items.specs.Items.{EndItem, terms_of, attached_keys}
use Rattle.endpoint_items.specs.Connections.{Connection}
use Rattle.endpoint_items.specs.Layers.{mux_of, rpc_of}
use Rattle.endpoint_items.specs.Bytes.{consumed, rest_of}
use Rattle.endpoint_items.specs.Allowed.{AreAllowed}
use Rattle.endpoint.specs.Value.{EndpointValue, connection_at}

-- a connection is as its items leave it, with these bytes of its channel not applied; all that it said is written
pub record IsConnection (terms : Terms) (items : List RpcItem) (at : ℕ) (rest : List ℕ) (end : RpcValue) : Type 0 where
  pub stands : RpcStands end items at rest
  pub terms_are : end.terms ≡ terms
  pub written : end.output ≡ []

-- a channel has a connection where one was attached
abbrev pub ConnectionStands : Option RpcValue → Connection → Terms → (at : ℕ) → (rest : List ℕ) → Type 0
ConnectionStands (Some end) (Some items) terms at rest = IsConnection terms items at rest end
ConnectionStands None None terms at rest = Unit {0}
ConnectionStands end connection terms at rest = ⊥

-- the end is as the items leave it, with these bytes not applied, the first of them at this place
pub record Stands (end : EndpointValue) (items : List EndItem) (at : ℕ) (rest : List ℕ) : Type 0 where
  pub mux : MuxStands end.mux (mux_of end.mux.version items) at rest
  pub state : end.state ≡ end.mux.state
  pub connections : (c : ChannelKey) → ConnectionStands (connection_at c end.connections) (rpc_of end.mux.version c items) (terms_of c items) (consumed c items) (rest_of end.mux.version c items)
  pub keys : map (λ attached. attached.key) end.connections ≡ in_order (attached_keys items)
  pub allowed : AreAllowed end.mux.version items
  pub taken_within : (c : ChannelKey) → length (taken end.mux.version c (mux_of end.mux.version items)) ≤ at
  pub fed_within : at + length rest ≤ most_bytes
