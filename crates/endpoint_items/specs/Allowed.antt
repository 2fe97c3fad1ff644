-- Lists of items in which every item was allowed where it stands.
use Rattle.std.specs.Prelude.{◌≡◌, List, [], ◌∷◌, true, false, Option, Some, None}
use Rattle.wire_base.specs.declared.frame.Version.{Version}
use Rattle.mux_items.specs.declared.channel.ChannelKey.{ChannelKey}
use Rattle.mux_items.specs.Applying as mux
use Rattle.mux_items.specs.Items.{Item, DidWrite, DidRead, DidComplete}
use Rattle.rpc_end.specs.Arrivals.{Arrival, Applies, Refuses}
use Rattle.endpoint_items.specs.Items.{EndItem, Mux, Attach, DidCall, GotMessage, RefusedMessage}
use Rattle.endpoint_items.specs.Connections.{is_attached}
use Rattle.endpoint_items.specs.Layers.{mux_of, rpc_of}
use Rattle.endpoint_items.specs.Calls.{is_in_use, attach_refusal, connection_refusal}
use Rattle.endpoint_items.specs.Arriving.{lacks_room, arrival_on}

-- a channel whose connection hasn't ended has this at the front of its bytes, and where it is a whole message, room for the answer
pub record Arrives (v : Version) (c : ChannelKey) (arrival : Arrival) (items : List EndItem) : Type 0 where
  pub attached : is_attached (rpc_of v c items) ≡ true
  pub room : lacks_room v c items ≡ false
  pub stands : arrival_on v c items ≡ arrival

-- the channel that an item wrote, read or completed
abbrev pub used_in : Item → Option ChannelKey
used_in (DidWrite c bytes) = Some c
used_in (DidRead c max) = Some c
used_in (DidComplete c) = Some c
used_in item = None

-- an item came where it stands by the rules of the multiplexing end and of connections
abbrev pub IsAllowed : Version → EndItem → List EndItem → Type 0
IsAllowed v (Mux item) items = mux.Allowed v (item ∷ mux_of v items) × (is_in_use v (used_in item) items ≡ false)
IsAllowed v (Attach c terms) items = attach_refusal v c items ≡ None
IsAllowed v (DidCall c call) items = connection_refusal v c call items ≡ None
IsAllowed v (GotMessage c place size message) items = Arrives v c (Applies place message size) items
IsAllowed v (RefusedMessage c place reason) items = Arrives v c (Refuses place reason) items

-- every item was allowed where it stands
abbrev pub AreAllowed : Version → List EndItem → Type 0
AreAllowed v [] = Unit {0}
AreAllowed v (item ∷ items) = IsAllowed v item items × AreAllowed v items
