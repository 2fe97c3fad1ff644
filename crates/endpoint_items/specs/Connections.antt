-- The connection of a channel, and what ends it.
use Rattle.std.specs.Prelude.{List, [], ◌∷◌, Bool, true, false, if◌then◌else◌, Option, Some, None}
use Rattle.wire_base.specs.declared.frame.Version.{Version}
use Rattle.wire_base.specs.declared.state.Cause.{Cause}
use Rattle.wire_base.specs.declared.state.Cause.TheVariants as cause
use Rattle.mux_items.specs.declared.channel.ChannelKey.{ChannelKey}
use Rattle.mux_items.specs.Bodies.{FrameBody, ContentWritingCompleted, same_key}
use Rattle.mux_items.specs.Items.{Item, DidTerminate, Got, End}
use Rattle.mux_items.specs.Lists.{termination_emitted}
use Rattle.rpc_items.specs.Items as rpc

-- the items of a channel's connection; None where none was attached
abbrev pub Connection : Type 0
Connection = Option (List rpc.RpcItem)

-- whether a connection was attached and hasn't ended
abbrev pub is_attached : Connection → Bool
is_attached (Some items) = rpc.is_running items
is_attached None = false

-- whether a connection was ever attached
abbrev pub was_attached : Connection → Bool
was_attached (Some items) = true
was_attached None = false

-- the items of a connection, none before it was attached
abbrev pub items_of : Connection → List rpc.RpcItem
items_of (Some items) = items
items_of None = []

-- an item comes to a connection, where there is one
abbrev pub with_item : rpc.RpcItem → Connection → Connection
with_item item (Some items) = Some (item ∷ items)
with_item item None = None

-- a connection that hasn't ended does so, where there is a cause
abbrev pub end_for : Option Cause → Connection → Connection
end_for (Some cause) connection = if is_attached connection then with_item (rpc.End cause) connection else connection
end_for None connection = connection

-- a connection as it begins, which ends at once where the peer has completed; a channel has one at most
abbrev pub attached_to : (completed : Bool) → Connection → Connection
attached_to completed (Some items) = Some items
attached_to completed None = Some (if completed then rpc.End cause.PeerCompleted ∷ [] else [])

-- why a frame on c ends its connection: the peer completed, or the channel is closing or closed after these items, which have the frame
abbrev pub end_by_frame : Version → ChannelKey → FrameBody → List Item → Option Cause
end_by_frame v c ContentWritingCompleted m = Some cause.PeerCompleted
end_by_frame v c body m = if termination_emitted v c m then Some cause.ChannelClosed else None

-- why an item of the multiplexing end ends the connection of c, if it does; the items are those with it
abbrev pub end_by : Version → ChannelKey → Item → List Item → Option Cause
end_by v c (DidTerminate key) m = if same_key key c then Some cause.ChannelClosed else None
end_by v c (Got place key body) m = if same_key key c then end_by_frame v c body m else None
end_by v c (End cause) m = Some cause
end_by v c item m = None
