use Rattle.endpoint_run.proofs.Resting.{run_rests}
use Rattle.endpoint_run.proofs.laws.every_run_lets_handles_rest.Goals as goal

pub returns : goal.returns
returns c = run_rests
