use Rattle.endpoint_run.proofs.Settled.{run_settled, run_enough}
use Rattle.endpoint_run.proofs.laws.every_step_applies_all_that_is_whole.Goals as goal

pub returns : goal.returns
returns c = record { settled = run_settled; enough = run_enough }
