-- Two lists of items and the frames between them.
use Rattle.std.specs.Prelude.{◌≡◌, List, ◌++◌, length, drop, map}
use Rattle.wire_base.specs.declared.frame.Version.{Version}
use Rattle.mux_items.specs.Bodies.{ChannelFrame, flip}
use Rattle.mux_items.specs.Items.{Item}
use Rattle.mux_items.specs.Due.{sent, got}
use Rattle.mux_items.specs.Applying.{Allowed}

-- the frames that were due at y and aren't applied at x, as y names their channels
abbrev pub ahead : Version → (x y : List Item) → List ChannelFrame
ahead v x y = drop (length (got x)) (sent v y)

-- what x applied are the first frames that were due at y, and the other way round
pub record Between (v : Version) (x y : List Item) : Type 0 where
  pub into : sent v y ≡ map flip (got x) ++ ahead v x y
  pub back : sent v x ≡ map flip (got y) ++ ahead v y x
  pub allowed : Allowed v x
  pub allowed_peer : Allowed v y
