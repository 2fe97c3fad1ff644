-- The moments of a run, also those within a step.
use Rattle.std.specs.Prelude.{◌≡◌, ℕ, List, [], ◌∷◌, ◌++◌}
use Rattle.mux_run.specs.Run.{Terms}
use Rattle.endpoint_items.specs.Items.{EndItem}
use Rattle.endpoint_run.specs.Run.{EndWorld, EndStep, in_step, end_run}

-- after some steps, or within the next one, whose side took so many turns
pub data Moment : Type 0 where
  After : Moment
  Within : (s : EndStep) → (turns : ℕ) → Moment

-- both sides at a moment after these steps
abbrev pub at_moment : Terms → List EndStep → Moment → EndWorld
at_moment terms steps After = end_run terms steps
at_moment terms steps (Within s turns) = in_step terms turns s (end_run terms steps)

-- the step that is under way at a moment
abbrev pub under_way : Moment → List EndStep
under_way After = []
under_way (Within s turns) = s ∷ []

-- the moments of the run of these steps: the first of them were made, and the next one may be under way
pub record IsInRun (steps first : List EndStep) (moment : Moment) : Type 0 where
  pub later : List EndStep
  pub is : first ++ (under_way moment ++ later) ≡ steps

-- the older items, with newer ones before them
abbrev pub IsNewer : (before after : List EndItem) → Type 0
IsNewer before after = (newer : List EndItem) × (after ≡ newer ++ before)

-- so it is at both sides
pub record HasGrown (before after : EndWorld) : Type 0 where
  pub a : IsNewer before.a.items after.a.items
  pub b : IsNewer before.b.items after.b.items
