-- What a connection reads, and what the reads of its channel answer.
use Rattle.std.specs.Prelude.{◌≡◌, ℕ, List, [], ◌∷◌, ◌++◌, if◌then◌else◌}
use Rattle.wire_base.specs.declared.frame.Version.{Version}
use Rattle.mux_items.specs.declared.channel.ChannelKey.{ChannelKey}
use Rattle.mux_items.specs.Bodies.{same_key}
use Rattle.mux_items.specs.Lists.{read_bytes}
use Rattle.endpoint_items.specs.Items.{EndItem, Attach}
use Rattle.endpoint_items.specs.Layers.{mux_of}
use Rattle.endpoint_items.specs.Bytes.{joined}

-- what the reads of c answered before its connection was attached
abbrev pub read_first : Version → ChannelKey → List EndItem → List ℕ
read_first v c [] = []
read_first v c (Attach key terms ∷ items) = if same_key key c then read_bytes v c (mux_of v items) else read_first v c items
read_first v c (item ∷ items) = read_first v c items

-- all reads of c since then are those of its connection
abbrev pub Reads : Version → ChannelKey → List EndItem → Type 0
Reads v c items = read_bytes v c (mux_of v items) ≡ read_first v c items ++ joined v c items
