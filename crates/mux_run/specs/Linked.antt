-- How the two sides of a run hang together.
use Rattle.std.specs.Prelude.{◌≡◌, ◌≤◌, ◌++◌, length, map}
use Rattle.mux_items.specs.Bodies.{flip}
use Rattle.mux_items.specs.Due.{sent, got}
use Rattle.mux_items.specs.Applying.{Allowed}
use Rattle.mux_run.specs.Between.{ahead}
use Rattle.mux_run.specs.Run.{RunSide, SideTerms, turned, out}

-- what x applied are the first frames that y sent, they lie in what was delivered, and that in what y emitted
pub record Linked (w : SideTerms) (x y : RunSide) : Type 0 where
  pub applied : sent w.version y.items ≡ map flip (got x.items) ++ ahead w.version x.items y.items
  pub bound : x.delivered ≤ length (out w.version w.peer y.items)
  pub allowed : Allowed w.version x.items

-- both ways between two sides
pub record Joined (w : SideTerms) (x y : RunSide) : Type 0 where
  pub into : Linked w x y
  pub back : Linked (turned w) y x
