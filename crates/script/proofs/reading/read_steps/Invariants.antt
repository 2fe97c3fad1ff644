use Rattle.std.proofs.Common.{◌≡◌, ◌≤◌, ◌+◌, length, []}
use Rattle.mux_run.specs.Run.{terms_of}
use Rattle.script.specs.Found.{steps_from}
use Rattle.script.specs.Limits.{most_steps, most_filled}
use Rattle.script.specs.Lines.{lines_of}
use Rattle.script.proofs.reading.read_steps.Given as goal

-- what is left has behind the steps so far what all lines have
abbrev pub invariant-loop-line : goal.invariant-loop-line
invariant-loop-line l = record {
  same : steps_from (terms_of l.version l.nonces) l.steps l.filled l.number (lines_of l.rest) ≡ steps_from (terms_of l.version l.nonces) [] 0 l.first (lines_of l.fn.bytes);
  count : l.number ≡ length l.steps + l.first;
  few : length l.steps ≤ most_steps;
  within : l.filled ≤ most_filled;
}

abbrev pub decreases-loop-line : goal.decreases-loop-line
decreases-loop-line l = length l.rest
