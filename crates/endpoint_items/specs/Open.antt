-- Channels on which a connection goes on.
use Rattle.std.specs.Prelude.{◌≡◌, List, true, false}
use Rattle.wire_base.specs.declared.frame.Version.{Version}
use Rattle.mux_items.specs.declared.channel.ChannelKey.{ChannelKey}
use Rattle.mux_items.specs.Items.{Item, is_running}
use Rattle.mux_items.specs.Kept.{is_kept}
use Rattle.mux_items.specs.Lists.{termination_emitted, is_completed}
use Rattle.mux_items.specs.Refusals.{is_unaccepted}

-- the end runs, and the channel is kept, neither terminated nor completed by the peer, and accepted here where the peer offered it
pub record IsOpen (v : Version) (c : ChannelKey) (m : List Item) : Type 0 where
  pub runs : is_running m ≡ true
  pub kept : is_kept v c m ≡ true
  pub heard : termination_emitted v c m ≡ false
  pub uncompleted : is_completed v c m ≡ false
  pub accepted : is_unaccepted v c m ≡ false
