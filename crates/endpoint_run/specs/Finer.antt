-- When a run of multiplexing ends, in finer steps, has what the multiplexing ends of a run have.
use Rattle.std.specs.Prelude.{◌≡◌, List}
use Rattle.mux_items.specs.Items.{Item}
use Rattle.mux_run.specs.Run.{Terms}
use Rattle.mux_run.specs.Spending.{RunStep, run_through}
use Rattle.endpoint_items.specs.Layers.{mux_of}
use Rattle.endpoint_run.specs.Run.{EndWorld, EndStep}
use Rattle.endpoint_run.specs.Moments.{Moment, at_moment}

-- the items of the multiplexing end of A, and of that of B
abbrev pub mux_a : Terms → EndWorld → List Item
mux_a terms w = mux_of terms.version w.a.items

abbrev pub mux_b : Terms → EndWorld → List Item
mux_b terms w = mux_of terms.version w.b.items

-- the items of both sides in the run of these finer steps are those of the multiplexing ends
pub record Refines (terms : Terms) (fine : List RunStep) (w : EndWorld) : Type 0 where
  pub a : (run_through terms fine).a.items ≡ mux_a terms w
  pub b : (run_through terms fine).b.items ≡ mux_b terms w

-- at each moment after these steps there is such a run
abbrev pub IsFinerRun : Terms → List EndStep → Type 0
IsFinerRun terms steps = (moment : Moment) → (fine : List RunStep) × Refines terms fine (at_moment terms steps moment)
