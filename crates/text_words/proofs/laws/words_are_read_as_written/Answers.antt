use Rattle.text_words.proofs.FormLaws.{read_form-written, read_form-some, write_form-text}
use Rattle.text_words.proofs.laws.words_are_read_as_written.Goals as goal

pub returns-clause-read : goal.returns-clause-read
returns-clause-read c = read_form-written

pub returns-clause-written : goal.returns-clause-written
returns-clause-written c = read_form-some

pub returns-clause-text : goal.returns-clause-text
returns-clause-text c = write_form-text
