use Rattle.endpoint_run.proofs.Growing.{step_grown, turns_grown, run_grown}
use Rattle.endpoint_run.proofs.laws.items_are_only_added.Goals as goal

pub returns : goal.returns
returns c = record { step = step_grown; turns = turns_grown; run = run_grown }
