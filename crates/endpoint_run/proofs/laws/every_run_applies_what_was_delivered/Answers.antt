use Rattle.endpoint_run.proofs.Settled.{run_within}
use Rattle.endpoint_run.proofs.laws.every_run_applies_what_was_delivered.Goals as goal

pub returns : goal.returns
returns c = run_within
