-- What laws say of an end's connections.
use Rattle.std.specs.Prelude.{◌≡◌, ℕ, List, ◌++◌, Bool, Some, None}
use Rattle.wire_base.specs.declared.frame.Version.{Version}
use Rattle.mux_items.specs.declared.channel.ChannelKey.{ChannelKey}
use Rattle.rpc_items.specs.Items.{RpcItem}
use Rattle.rpc_items.specs.Outcomes.{Look, outcome}
use Rattle.endpoint_items.specs.Items.{EndItem}
use Rattle.endpoint_items.specs.Connections.{Connection, items_of}
use Rattle.endpoint_items.specs.Layers.{rpc_of}

-- a connection that was attached stays, with newer items before its own
abbrev pub HasGrown : (before now : Connection) → Type 0
HasGrown (Some items) now = (newer : List RpcItem) × (now ≡ Some (newer ++ items))
HasGrown None now = Unit {0}

-- what can be told of request n of the connection of c, also where the channel is no longer kept
abbrev pub outcome_on : (stopped : Bool) → Version → ChannelKey → ℕ → List EndItem → Look
outcome_on stopped v c n items = outcome stopped n (items_of (rpc_of v c items))
