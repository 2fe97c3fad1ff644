-- The messages of a connection.
use Rattle.std.specs.Prelude.{◌≡◌, ℕ, List, length, map, take}
use Rattle.wire_base.specs.declared.frame.Version.{Version}
use Rattle.message_body.specs.AsRead.{as_read}
use Rattle.mux_items.specs.declared.channel.ChannelKey.{ChannelKey}
use Rattle.rpc_items.specs.declared.messages.Message.{Message}
use Rattle.rpc_items.specs.Saying.{all_said, all_got}
use Rattle.rpc_end.specs.declared.terms.Terms.{Terms}
use Rattle.rpc_end.specs.Texts.{message_texts}
use Rattle.endpoint_items.specs.Items.{EndItem, terms_of}
use Rattle.endpoint_items.specs.Connections.{items_of}
use Rattle.endpoint_items.specs.Layers.{rpc_of}
use Rattle.endpoint_items.specs.Bytes.{consumed}

-- what was said on c, oldest first
abbrev pub said_on : Version → ChannelKey → List EndItem → List Message
said_on v c items = all_said (items_of (rpc_of v c items))

-- the messages that were applied on c, oldest first
abbrev pub got_on : Version → ChannelKey → List EndItem → List Message
got_on v c items = all_got (items_of (rpc_of v c items))

-- applied messages are the first of these, each as it is read, and their texts are as many bytes as were applied
pub record AreFirst (terms : Terms) (messages got : List Message) (applied : ℕ) : Type 0 where
  pub count : ℕ
  pub are : got ≡ map (as_read terms.encoding) (take count messages)
  pub bytes : applied ≡ length (message_texts terms (take count messages))

-- so are those of the connection of c
abbrev pub TakesFirst : Version → ChannelKey → List Message → List EndItem → Type 0
TakesFirst v c messages items = AreFirst (terms_of c items) messages (got_on v c items) (consumed c items)
