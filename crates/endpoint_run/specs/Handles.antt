-- Handles in a run.
use Rattle.std.specs.Prelude.{◌≤◌, List}
use Rattle.wire_base.specs.declared.frame.Version.{Version}
use Rattle.mux_items.specs.declared.channel.ChannelKey.{ChannelKey}
use Rattle.mux_run.specs.Run.{Terms}
use Rattle.rpc_items.specs.declared.calls.HandleKey.{HandleKey}
use Rattle.rpc_items.specs.Resting.{RestsAfterEnd, releases_of}
use Rattle.endpoint_items.specs.Items.{EndItem}
use Rattle.endpoint_items.specs.Connections.{items_of}
use Rattle.endpoint_items.specs.Layers.{rpc_of}
use Rattle.endpoint_run.specs.Run.{EndWorld, EndStep}
use Rattle.endpoint_run.specs.Moments.{Moment, at_moment}

-- on the connection of c a handle was released once at most, by a call or a message, and once it had ended neither released
-- nor called
pub record HandleRests (v : Version) (c : ChannelKey) (key : HandleKey) (items : List EndItem) : Type 0 where
  pub once : releases_of key (items_of (rpc_of v c items)) ≤ 1
  pub rests : RestsAfterEnd key (items_of (rpc_of v c items))

-- so it is with each handle of either side, on each channel
abbrev pub HandlesRest : Version → List EndItem → Type 0
HandlesRest v items = (c : ChannelKey) (key : HandleKey) → HandleRests v c key items

-- and at both ends
pub record HandlesRestIn (terms : Terms) (w : EndWorld) : Type 0 where
  pub a : HandlesRest terms.version w.a.items
  pub b : HandlesRest terms.version w.b.items

-- at each moment after these steps
abbrev pub HandlesRestRun : Terms → List EndStep → Type 0
HandlesRestRun terms steps = (moment : Moment) → HandlesRestIn terms (at_moment terms steps moment)
