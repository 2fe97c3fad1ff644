use Rattle.endpoint_run.proofs.Quiet.{quiet_delivers}
use Rattle.endpoint_run.proofs.laws.quiet_runs_deliver_all.Goals as goal

pub returns : goal.returns
returns c = quiet_delivers
