-- The moments of a run, also those within a step.
use Rattle.std.specs.Prelude.{◌≡◌, ℕ, ◌+◌, List, ◌++◌, take}
use Rattle.mux_items.specs.Items.{Item}
use Rattle.mux_run.specs.Run.{World, Terms, run}
use Rattle.mux_run.specs.declared.steps.Step.{Step}

-- the older items and some of the newer ones, as they came
pub record IsMoment (older newer items : List Item) : Type 0 where
  pub since : List Item
  pub later : List Item
  pub is : items ≡ since ++ older
  pub more : newer ≡ later ++ items

-- two lists of items that stand at a moment: so many steps are made, and of the next one some items came; each number of steps has its world
pub record IsMomentIn (worlds : ℕ → World) (a b : List Item) : Type 0 where
  pub made : ℕ
  pub at_a : IsMoment (worlds made).a.items (worlds (made + 1)).a.items a
  pub at_b : IsMoment (worlds made).b.items (worlds (made + 1)).b.items b

-- at a moment of the run of these steps
abbrev pub IsMomentOf : Terms → List Step → (a b : List Item) → Type 0
IsMomentOf terms steps a b = IsMomentIn (λ made. run terms (take made steps)) a b
