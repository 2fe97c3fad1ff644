use Rattle.script.proofs.ScriptLaws.{is_read, written, goes_on}
use Rattle.script.proofs.laws.scripts_are_their_texts.Goals as goal

pub returns-clause-read : goal.returns-clause-read
returns-clause-read c = is_read

pub returns-clause-written : goal.returns-clause-written
returns-clause-written c = written

pub returns-clause-goes_on : goal.returns-clause-goes_on
returns-clause-goes_on c = goes_on
