use Rattle.std.proofs.Common.{◌≡◌, ◌+◌, ◌++◌, length, false}
use Rattle.std.specs.Vec.Iter.{into_iter_items}
use Rattle.endpoint_run.specs.Answers.{run}
use Rattle.endpoint_run.specs.Run.{start}
use Rattle.duo_world.specs.Holding.{StandsForRun}
use Rattle.transcript.specs.Report.{steps_lines}
use Rattle.transcript.proofs.running.push_steps.Given as goal

abbrev pub invariant-loop-step : goal.invariant-loop-step
invariant-loop-step l = record {
  terms : l.duo.terms ≡ l.fn.duo.terms;
  stored : l.duo.steps ++ into_iter_items l.step-iterator ≡ l.fn.steps.items;
  number : l.number ≡ length l.duo.steps;
  works : l.duo.failed ≡ false;
  stands : StandsForRun l.duo;
  text : l.out.items ++ steps_lines l.fn.duo.terms (l.number + 1) (run l.fn.duo.terms l.duo.steps) (into_iter_items l.step-iterator) ≡ l.fn.out.items ++ steps_lines l.fn.duo.terms 1 start l.fn.steps.items;
}
