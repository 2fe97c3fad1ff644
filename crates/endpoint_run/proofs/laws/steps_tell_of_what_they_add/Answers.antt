use Rattle.endpoint_run.proofs.Telling.{question_same, run_goes_on, tells_of_new}
use Rattle.endpoint_run.proofs.laws.steps_tell_of_what_they_add.Goals as goal

pub returns : goal.returns
returns c = record { question = question_same; goes_on = run_goes_on; events = tells_of_new }
