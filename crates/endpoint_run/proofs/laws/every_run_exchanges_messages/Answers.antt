use Rattle.endpoint_run.proofs.Exchanging.{moment_exchanges, run_exchanges}
use Rattle.endpoint_run.proofs.laws.every_run_exchanges_messages.Goals as goal

pub returns : goal.returns
returns c = record { moment = moment_exchanges; run = run_exchanges }
