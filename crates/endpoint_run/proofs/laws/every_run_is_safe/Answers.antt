use Rattle.endpoint_run.proofs.Safety.{run_safe}
use Rattle.endpoint_run.proofs.laws.every_run_is_safe.Goals as goal

pub returns : goal.returns
returns c = run_safe
