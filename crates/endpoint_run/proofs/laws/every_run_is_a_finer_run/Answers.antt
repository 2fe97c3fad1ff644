use Rattle.endpoint_run.proofs.Refining.{run_finer}
use Rattle.endpoint_run.proofs.laws.every_run_is_a_finer_run.Goals as goal

pub returns : goal.returns
returns c = run_finer
