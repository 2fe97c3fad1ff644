use Rattle.script.proofs.ScriptLaws.{bad_json}
use Rattle.script.proofs.laws.bad_rests_are_of_no_step.Goals as goal

pub returns : goal.returns
returns c = bad_json
