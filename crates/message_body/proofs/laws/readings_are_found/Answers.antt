use Rattle.message_body.proofs.Readings.{reading_found, float_found, no_reading_found, found_reading, found_float, found_no_reading}
use Rattle.message_body.proofs.laws.readings_are_found.Goals as goal

pub returns-clause-value : goal.returns-clause-value
returns-clause-value c = λ b t. (found_reading b t, reading_found b t)

pub returns-clause-none : goal.returns-clause-none
returns-clause-none c = λ b. (found_no_reading b, no_reading_found b)

pub returns-clause-float : goal.returns-clause-float
returns-clause-float c = λ b. (found_float b, float_found b)
