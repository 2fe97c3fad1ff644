use Rattle.endpoint_run.proofs.Allowing.{run_keeps}
use Rattle.endpoint_run.proofs.laws.every_run_keeps_the_rules.Goals as goal

pub returns : goal.returns
returns c = run_keeps
