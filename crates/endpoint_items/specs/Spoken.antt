-- What a connection says, and what is written on its channel.
use Rattle.std.specs.Prelude.{◌≡◌, ℕ, List, [], ◌∷◌, ◌++◌, false, if◌then◌else◌}
use Rattle.wire_base.specs.declared.frame.Version.{Version}
use Rattle.mux_items.specs.declared.channel.ChannelKey.{ChannelKey}
use Rattle.mux_items.specs.Bodies.{same_key}
use Rattle.mux_items.specs.Items.{Item}
use Rattle.mux_items.specs.Lists.{written, has_completed}
use Rattle.rpc_items.specs.declared.messages.Message.{Message}
use Rattle.rpc_items.specs.Saying.{all_said}
use Rattle.rpc_end.specs.declared.terms.Terms.{Terms}
use Rattle.rpc_end.specs.Texts.{message_texts}
use Rattle.endpoint_items.specs.Items.{EndItem, Attach, terms_of}
use Rattle.endpoint_items.specs.Connections.{items_of}
use Rattle.endpoint_items.specs.Layers.{mux_of, rpc_of}

-- what was written on c before its connection was attached
abbrev pub written_first : Version → ChannelKey → List EndItem → List ℕ
written_first v c [] = []
written_first v c (Attach key terms ∷ items) = if same_key key c then written c (mux_of v items) else written_first v c items
written_first v c (item ∷ items) = written_first v c items

-- what was written on c are these bytes and then a front of the text of these messages, all of it while writing wasn't completed
pub record IsSpoken (terms : Terms) (c : ChannelKey) (first : List ℕ) (m : List Item) (messages : List Message) : Type 0 where
  pub dropped : List ℕ
  pub is : written c m ++ dropped ≡ first ++ message_texts terms messages
  pub all : has_completed c m ≡ false → dropped ≡ []

-- so it is of all that the connection of c said
abbrev pub Speaks : Version → ChannelKey → List EndItem → Type 0
Speaks v c items = IsSpoken (terms_of c items) c (written_first v c items) (mux_of v items) (all_said (items_of (rpc_of v c items)))
