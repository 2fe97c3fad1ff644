-- What a world has run.
use Rattle.std.specs.Prelude.{◌≡◌, List, false}
use Rattle.mux_run.specs.Run.{Terms}
use Rattle.endpoint_run.specs.declared.steps.Step.{Step}
use Rattle.duo_world.specs.Holding.{DuoState, StandsForRun}
use Rattle.duo_world.specs.Stepping.{RunHolds}

-- a world of these terms has made these steps; what holds of the run of a world holds of theirs
pub record HasRun (terms : Terms) (steps : List Step) (d : DuoState) : Type 0 where
  pub terms_are : d.terms ≡ terms
  pub stored : d.steps ≡ steps
  pub works : d.failed ≡ false
  pub stands : StandsForRun d
  pub holds : RunHolds terms steps
