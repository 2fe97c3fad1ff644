use Rattle.std.proofs.Common.{◌≡◌, ◌++◌, false}
use Rattle.mux_run.specs.Run.{terms_of}
use Rattle.duo_world.specs.Holding.{StandsForRun}
use Rattle.duo_world.proofs.duo.Duo.run.Given as goal

abbrev pub invariant-loop-step : goal.invariant-loop-step
invariant-loop-step l = record {
  steps : l.duo.steps ≡ l.yielded;
  whole : l.yielded ++ l.step-iterator.rest.items ≡ l.fn.steps;
  works : l.duo.failed ≡ false;
  terms : l.duo.terms ≡ terms_of l.fn.version l.fn.nonces;
  stands : StandsForRun l.duo;
}
