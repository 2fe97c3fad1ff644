-- What an item makes of the multiplexing end's items, where nothing that follows it is refused.
use Rattle.std.specs.Prelude.{◌≡◌, List, [], ◌∷◌, length, Bool, if◌then◌else◌}
use Rattle.wire_base.specs.declared.frame.Version.{Version}
use Rattle.mux_items.specs.declared.channel.ChannelKey.{ChannelKey}
use Rattle.mux_items.specs.Bodies.{Content, ContentWritingCompleted}
use Rattle.mux_items.specs.Items.{Item, DidWrite, DidRead, DidComplete, DidTerminate, Got}
use Rattle.mux_items.specs.Lists.{has_completed, is_completed, unread}
use Rattle.rpc_items.specs.declared.messages.Message.{Message}
use Rattle.rpc_items.specs.Items as rpc
use Rattle.rpc_items.specs.Saying.{said}
use Rattle.rpc_end.specs.declared.terms.Terms.{Terms}
use Rattle.rpc_end.specs.Texts.{message_texts}
use Rattle.endpoint_items.specs.Items.{EndItem, Mux, Attach, DidCall, GotMessage, RefusedMessage, terms_of}
use Rattle.endpoint_items.specs.Connections.{is_attached, items_of}
use Rattle.endpoint_items.specs.Layers.{mux_of, rpc_of}

-- all that is unread was read
abbrev pub then_read : Version → ChannelKey → List Item → List Item
then_read v c m = DidRead c (length (unread v c m)) ∷ m

-- writing was completed, unless it was before
abbrev pub then_complete : ChannelKey → List Item → List Item
then_complete c m = if has_completed c m then m else DidComplete c ∷ m

-- the text of what was said was written, unless writing was completed
abbrev pub then_write : ChannelKey → Terms → List Message → List Item → List Item
then_write c terms [] m = m
then_write c terms (message ∷ messages) m = if has_completed c m then m else DidWrite c (message_texts terms (message ∷ messages)) ∷ m

-- where a connection is attached, content was read whole, and the peer's completion answered
abbrev pub then_follow : Version → (attached : ChannelKey → Bool) → Item → List Item → List Item
then_follow v attached (Got place c (Content bytes)) m = if attached c then then_read v c m else m
then_follow v attached (Got place c ContentWritingCompleted) m = if attached c then then_complete c m else m
then_follow v attached item m = m

-- the items of the multiplexing end with those that an item makes
abbrev pub row : Version → EndItem → List EndItem → List Item
row v (Mux item) items = then_follow v (λ c. is_attached (rpc_of v c items)) item (item ∷ mux_of v items)
row v (Attach c terms) items = if is_completed v c (mux_of v items) then then_complete c (then_read v c (mux_of v items)) else then_read v c (mux_of v items)
row v (DidCall c call) items = then_write c (terms_of c items) (said (rpc.Did call) (items_of (rpc_of v c items))) (mux_of v items)
row v (GotMessage c place size message) items = then_write c (terms_of c items) (said (rpc.Got place message) (items_of (rpc_of v c items))) (mux_of v items)
row v (RefusedMessage c place reason) items = DidTerminate c ∷ mux_of v items

-- nothing that follows an item is refused
abbrev pub Follows : Version → EndItem → List EndItem → Type 0
Follows v item items = mux_of v (item ∷ items) ≡ row v item items
