use Rattle.mux_credit.proofs.Runs.{run_keeps_credit, through_keeps_credit}
use Rattle.mux_credit.proofs.laws.every_run_keeps_credit.Goals as goal

pub returns : goal.returns
returns c = record { run = run_keeps_credit; through = through_keeps_credit }
