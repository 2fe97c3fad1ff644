-- What the items of an end are to its multiplexing end and to its connections.
use Rattle.std.specs.Prelude.{List, [], ◌∷◌, if◌then◌else◌, Some, None}
use Rattle.wire_base.specs.declared.frame.Version.{Version}
use Rattle.wire_base.specs.declared.state.Cause.TheVariants as cause
use Rattle.mux_items.specs.declared.call.Call.TheVariants as call
use Rattle.mux_items.specs.declared.channel.ChannelKey.{ChannelKey}
use Rattle.mux_items.specs.Applying.{place_at}
use Rattle.mux_items.specs.Bodies.{same_key}
use Rattle.mux_items.specs.Items.{Item}
use Rattle.mux_items.specs.Lists.{is_completed}
use Rattle.rpc_items.specs.Items as rpc
use Rattle.rpc_items.specs.Saying.{said}
use Rattle.endpoint_items.specs.Items.{EndItem, Mux, Attach, DidCall, GotMessage, RefusedMessage, terms_of}
use Rattle.endpoint_items.specs.Connections.{Connection, is_attached, items_of, with_item, end_for, attached_to, end_by}
use Rattle.endpoint_items.specs.Following.{followed, follow_ups, attach_calls, write_said}

abbrev mutual
  -- the items of the multiplexing end
  pub mux_of : Version → List EndItem → List Item
  mux_of v [] = []
  mux_of v (Mux item ∷ items) = followed v (follow_ups v (λ c. is_attached (rpc_of v c items)) item (item ∷ mux_of v items)) (item ∷ mux_of v items)
  mux_of v (Attach c terms ∷ items) = followed v (attach_calls v c (mux_of v items)) (mux_of v items)
  mux_of v (DidCall c call ∷ items) = followed v (write_said c (terms_of c items) (said (rpc.Did call) (items_of (rpc_of v c items))) (mux_of v items)) (mux_of v items)
  mux_of v (GotMessage c place size message ∷ items) = followed v (write_said c (terms_of c items) (said (rpc.Got place message) (items_of (rpc_of v c items))) (mux_of v items)) (mux_of v items)
  mux_of v (RefusedMessage c place reason ∷ items) = followed v (call.Terminate c ∷ []) (mux_of v items)

  -- the connection of channel c
  pub rpc_of : Version → ChannelKey → List EndItem → Connection
  rpc_of v c [] = None
  rpc_of v c (Mux item ∷ items) = end_for (end_by v c item (item ∷ mux_of v items)) (rpc_of v c items)
  rpc_of v c (Attach key terms ∷ items) = if same_key key c then attached_to (is_completed v c (mux_of v items)) (rpc_of v c items) else rpc_of v c items
  rpc_of v c (DidCall key call ∷ items) = if same_key key c then with_item (rpc.Did call) (rpc_of v c items) else rpc_of v c items
  rpc_of v c (GotMessage key place size message ∷ items) = if same_key key c then with_item (rpc.Got place message) (rpc_of v c items) else rpc_of v c items
  rpc_of v c (RefusedMessage key place reason ∷ items) = if same_key key c then end_for (Some (cause.Refused (place_at place) reason)) (rpc_of v c items) else rpc_of v c items
