use Rattle.mux_run.proofs.Safety.{run_safe, through_safe}
use Rattle.mux_run.proofs.laws.every_run_is_safe.Goals as goal

pub returns : goal.returns
returns c = record { run = run_safe; through = through_safe }
