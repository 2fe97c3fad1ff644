-- What happened at one end that has connections for remote calls on some of its channels. Lists of items have the newest first.
use Rattle.std.specs.Prelude.{ℕ, List, [], ◌∷◌, if◌then◌else◌}
use Rattle.wire_base.specs.declared.reason.Reason.{Reason}
use Rattle.mux_items.specs.declared.channel.ChannelKey.{ChannelKey}
use Rattle.mux_items.specs.Bodies.{same_key}
use Rattle.mux_items.specs.Items.{Item}
use Rattle.message_framing.specs.declared.framing.Framing.TheVariants as framing
use Rattle.message_body.specs.declared.encoding.Encoding.TheVariants as encoding
use Rattle.rpc_items.specs.declared.messages.Message.{Message}
use Rattle.rpc_items.specs.Items.{RpcCall}
use Rattle.rpc_end.specs.declared.terms.Terms.{Terms}

-- an item of the multiplexing end by itself (an accepted call, the peer's handshake, a frame, or the end), an attached
-- connection, an accepted call of a connection, an applied message by the place of its body and its size with its head,
-- or a refused message by the place where it breaks a rule; places are those in the bytes of the channel
pub data EndItem : Type 0 where
  Mux : (item : Item) → EndItem
  Attach : (key : ChannelKey) → (terms : Terms) → EndItem
  DidCall : (key : ChannelKey) → (call : RpcCall) → EndItem
  GotMessage : (key : ChannelKey) → (place size : ℕ) → (message : Message) → EndItem
  RefusedMessage : (key : ChannelKey) → (place : ℕ) → (reason : Reason) → EndItem

-- how the connection of c writes and reads its messages: as it was attached
abbrev pub terms_of : ChannelKey → List EndItem → Terms
terms_of c [] = record { framing = framing.Header; encoding = encoding.Json }
terms_of c (Attach key terms ∷ items) = if same_key key c then terms else terms_of c items
terms_of c (item ∷ items) = terms_of c items

-- the channels on which a connection was attached, newest first
abbrev pub attached_keys : List EndItem → List ChannelKey
attached_keys [] = []
attached_keys (Attach key terms ∷ items) = key ∷ attached_keys items
attached_keys (item ∷ items) = attached_keys items
