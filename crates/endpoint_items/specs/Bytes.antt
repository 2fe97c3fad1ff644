-- The bytes of a connection, and how many of them were applied.
use Rattle.std.specs.Prelude.{ℕ, ◌+◌, List, [], ◌∷◌, ◌++◌, drop, Bool, false, ◌&&◌, if◌then◌else◌}
use Rattle.wire_base.specs.declared.frame.Version.{Version}
use Rattle.mux_items.specs.declared.channel.ChannelKey.{ChannelKey}
use Rattle.mux_items.specs.Bodies.{Content, same_key}
use Rattle.mux_items.specs.Items.{Item, Got}
use Rattle.mux_items.specs.Lists.{unread}
use Rattle.endpoint_items.specs.Items.{EndItem, Mux, Attach, GotMessage}
use Rattle.endpoint_items.specs.Connections.{is_attached}
use Rattle.endpoint_items.specs.Layers.{mux_of, rpc_of}

-- whether an item of the multiplexing end is content on c that its connection reads
abbrev pub is_read_on : ChannelKey → (attached : Bool) → Item → Bool
is_read_on c attached (Got place key (Content bytes)) = same_key key c && attached
is_read_on c attached item = false

-- all bytes that the connection of c read, oldest first
abbrev pub joined : Version → ChannelKey → List EndItem → List ℕ
joined v c [] = []
joined v c (Mux item ∷ items) = if is_read_on c (is_attached (rpc_of v c items)) item then joined v c items ++ unread v c (item ∷ mux_of v items) else joined v c items
joined v c (Attach key terms ∷ items) = if same_key key c then joined v c items ++ unread v c (mux_of v items) else joined v c items
joined v c (item ∷ items) = joined v c items

-- how many of them were applied as messages
abbrev pub consumed : ChannelKey → List EndItem → ℕ
consumed c [] = 0
consumed c (GotMessage key place size message ∷ items) = if same_key key c then consumed c items + size else consumed c items
consumed c (item ∷ items) = consumed c items

-- those that weren't applied; the place of the first is the number of those that were
abbrev pub rest_of : Version → ChannelKey → List EndItem → List ℕ
rest_of v c items = drop (consumed c items) (joined v c items)
