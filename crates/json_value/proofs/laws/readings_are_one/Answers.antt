use Rattle.json_value.proofs.Readings.{one_reading, reading_is_json, reading_is_whole}
use Rattle.json_value.proofs.laws.readings_are_one.Goals as goal

pub returns-clause-one : goal.returns-clause-one
returns-clause-one c = one_reading

pub returns-clause-json : goal.returns-clause-json
returns-clause-json c = reading_is_json

pub returns-clause-whole : goal.returns-clause-whole
returns-clause-whole c = reading_is_whole
