use Rattle.script.proofs.ScriptLaws.{bad_word}
use Rattle.script.proofs.laws.bad_words_are_of_no_step.Goals as goal

pub returns : goal.returns
returns c = bad_word
