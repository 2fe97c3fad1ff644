-- The next message that an end applies or refuses.
use Rattle.std.specs.Prelude.{List, [], ◌∷◌, Bool, not, ◌&&◌, if◌then◌else◌, Option, Some, None}
use Rattle.wire_base.specs.declared.frame.Version.{Version}
use Rattle.wire_base.specs.declared.state.Cause.TheVariants as cause
use Rattle.mux_items.specs.declared.channel.ChannelKey.{ChannelKey}
use Rattle.mux_items.specs.Items as mux
use Rattle.mux_items.specs.Views.{in_order}
use Rattle.rpc_end.specs.Arrivals.{Arrival, Applies, Waits, Refuses, arrival, begins_message}
use Rattle.endpoint_items.specs.Items.{EndItem, Mux, GotMessage, RefusedMessage, terms_of, attached_keys}
use Rattle.endpoint_items.specs.Connections.{is_attached, items_of}
use Rattle.endpoint_items.specs.Layers.{mux_of, rpc_of}
use Rattle.endpoint_items.specs.Bytes.{consumed, rest_of}
use Rattle.endpoint_items.specs.Calls.{is_spent_on}

-- whether a message stands whole in the bytes of c that weren't applied
abbrev pub has_message : Version → ChannelKey → List EndItem → Bool
has_message v c items = begins_message (terms_of c items) (rest_of v c items)

-- whether one does, with no room for an answer
abbrev pub lacks_room : Version → ChannelKey → List EndItem → Bool
lacks_room v c items = is_spent_on c (mux_of v items) && has_message v c items

-- what the bytes of c that weren't applied are to its connection
abbrev pub arrival_on : Version → ChannelKey → List EndItem → Arrival
arrival_on v c items = arrival (terms_of c items) (items_of (rpc_of v c items)) (consumed c items) (rest_of v c items)

-- the item that they make
abbrev pub item_of_arrival : ChannelKey → Arrival → Option EndItem
item_of_arrival c (Applies place message size) = Some (GotMessage c place size message)
item_of_arrival c Waits = None
item_of_arrival c (Refuses place reason) = Some (RefusedMessage c place reason)

-- the item that a channel makes whose connection hasn't ended: where there is no room for an answer, the end
abbrev pub message_on : Version → ChannelKey → List EndItem → Option EndItem
message_on v c items =
    if not (is_attached (rpc_of v c items)) then None
    else if lacks_room v c items then Some (Mux (mux.End cause.Spent))
    else item_of_arrival c (arrival_on v c items)

-- the first item that is there
abbrev pub either : Option EndItem → Option EndItem → Option EndItem
either (Some item) otherwise = Some item
either None otherwise = otherwise

-- the item of the first channel that makes one
abbrev pub first_message : Version → List EndItem → List ChannelKey → Option EndItem
first_message v items [] = None
first_message v items (c ∷ cs) = either (message_on v c items) (first_message v items cs)

-- the next whole or refused message, by the channels in their order
abbrev pub next_message : Version → List EndItem → Option EndItem
next_message v items = first_message v items (in_order (attached_keys items))
