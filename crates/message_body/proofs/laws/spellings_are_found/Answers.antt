use Rattle.message_body.proofs.Spellings.{spelling_found, broken_found, shorter_found, longer_found, found_spelling}
use Rattle.message_body.proofs.laws.spellings_are_found.Goals as goal

pub returns-clause-value : goal.returns-clause-value
returns-clause-value c = λ b t. (found_spelling b t, spelling_found b t)

pub returns-clause-broken : goal.returns-clause-broken
returns-clause-broken c = broken_found

pub returns-clause-shorter : goal.returns-clause-shorter
returns-clause-shorter c = shorter_found

pub returns-clause-longer : goal.returns-clause-longer
returns-clause-longer c = longer_found
