-- Runs in which an end may also be spent: it was dropped, for want of memory or by its user.
use Rattle.std.specs.Prelude.{List, [], ◌∷◌, take, Bool, true, false}
use Rattle.wire_base.specs.declared.state.Cause.TheVariants as cause
use Rattle.mux_items.specs.declared.call.Call.TheVariants as call
use Rattle.mux_items.specs.Items.{Item}
use Rattle.mux_run.specs.Run.{World, Terms, stopped, happens, start}
use Rattle.mux_run.specs.Moments.{IsMomentIn}
use Rattle.mux_run.specs.Safe.{IsSafe}
use Rattle.mux_run.specs.declared.steps.Side.{Side}
use Rattle.mux_run.specs.declared.steps.Side.TheVariants.{A, B}
use Rattle.mux_run.specs.declared.steps.Step.{Step}
use Rattle.mux_run.specs.declared.steps.Step.TheVariants as step

-- a step that is made at a side, or a side that is spent
pub data RunStep : Type 0 where
  Makes : (s : Step) → RunStep
  Spends : (side : Side) → RunStep

-- the end of the spent side has ended from then on; the other side stays
abbrev pub spent_at : Side → World → World
spent_at A w = record { a = stopped cause.Spent w.a; b = w.b }
spent_at B w = record { a = w.a; b = stopped cause.Spent w.b }

-- what such a step makes of both sides
abbrev pub comes : Terms → RunStep → World → World
comes terms (Makes s) w = happens terms s w
comes terms (Spends side) w = spent_at side w

-- and these steps, one after the other
abbrev pub come_from : Terms → World → List RunStep → World
come_from terms w [] = w
come_from terms w (s ∷ steps) = come_from terms (comes terms s w) steps

-- both sides after these steps
abbrev pub run_through : Terms → List RunStep → World
run_through terms steps = come_from terms start steps

-- at a moment of such a run
abbrev pub IsMomentThrough : Terms → List RunStep → (a b : List Item) → Type 0
IsMomentThrough terms steps a b = IsMomentIn (λ made. run_through terms (take made steps)) a b

-- it is safe at every moment
abbrev pub IsSafeThrough : Terms → List RunStep → Type 0
IsSafeThrough terms steps = (a b : List Item) → IsMomentThrough terms steps a b → IsSafe terms.version a b

-- a read, which an end answers also when it has ended
abbrev pub is_read : Step → Bool
is_read (step.Call side (call.Read c max)) = true
is_read s = false
