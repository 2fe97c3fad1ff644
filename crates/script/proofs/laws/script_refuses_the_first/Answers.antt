use Rattle.script.proofs.ScriptLaws.{is_refused, refuses, headless}
use Rattle.script.proofs.laws.script_refuses_the_first.Goals as goal

pub returns-clause-refused : goal.returns-clause-refused
returns-clause-refused c = is_refused

pub returns-clause-refuses : goal.returns-clause-refuses
returns-clause-refuses c = refuses

pub returns-clause-headless : goal.returns-clause-headless
returns-clause-headless c = headless
