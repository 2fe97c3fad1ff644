-- Calls that an item makes the multiplexing end make.
use Rattle.std.specs.Prelude.{List, [], ◌∷◌, length, Bool, if◌then◌else◌}
use Rattle.wire_base.specs.declared.frame.Version.{Version}
use Rattle.mux_items.specs.declared.call.Call.{Call}
use Rattle.mux_items.specs.declared.call.Call.TheVariants as call
use Rattle.mux_items.specs.declared.channel.ChannelKey.{ChannelKey}
use Rattle.mux_items.specs.Bodies.{Content, ContentWritingCompleted}
use Rattle.mux_items.specs.Calls.{called}
use Rattle.mux_items.specs.Items.{Item, Got}
use Rattle.mux_items.specs.Lists.{has_completed, is_completed, unread}
use Rattle.rpc_items.specs.declared.messages.Message.{Message}
use Rattle.rpc_end.specs.declared.terms.Terms.{Terms}
use Rattle.rpc_end.specs.Texts.{message_texts}

-- calls are made, one after the other
abbrev pub followed : Version → List Call → List Item → List Item
followed v [] m = m
followed v (c ∷ calls) m = followed v calls (called v c m)

-- all that is unread is read
abbrev pub read_all : Version → ChannelKey → List Item → Call
read_all v c m = call.Read c (length (unread v c m))

-- writing is completed, unless it was before
abbrev pub complete_once : ChannelKey → List Item → List Call
complete_once c m = if has_completed c m then [] else call.Complete c ∷ []

-- the text of what is said is written, unless writing was completed here
abbrev pub write_said : ChannelKey → Terms → List Message → List Item → List Call
write_said c terms [] m = []
write_said c terms (message ∷ messages) m = if has_completed c m then [] else call.Write c (message_texts terms (message ∷ messages)) ∷ []

-- where a connection is attached, content is read whole, and the peer's completion is answered
abbrev pub follow_ups : Version → (attached : ChannelKey → Bool) → Item → List Item → List Call
follow_ups v attached (Got place c (Content bytes)) m = if attached c then read_all v c m ∷ [] else []
follow_ups v attached (Got place c ContentWritingCompleted) m = if attached c then complete_once c m else []
follow_ups v attached item m = []

-- a connection that is attached reads all that came before, and answers the completion that did
abbrev pub attach_calls : Version → ChannelKey → List Item → List Call
attach_calls v c m = read_all v c m ∷ (if is_completed v c m then complete_once c m else [])
