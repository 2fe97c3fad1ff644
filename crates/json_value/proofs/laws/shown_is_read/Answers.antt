use Rattle.json_value.proofs.Shown.{shown-with_hex, holds_bytes-with_hex, IsReading-shown, shown_is_one}
use Rattle.json_value.proofs.laws.shown_is_read.Goals as goal

pub returns-clause-text : goal.returns-clause-text
returns-clause-text c = shown-with_hex

pub returns-clause-no_bytes : goal.returns-clause-no_bytes
returns-clause-no_bytes c = holds_bytes-with_hex

pub returns-clause-read : goal.returns-clause-read
returns-clause-read c = IsReading-shown

pub returns-clause-one : goal.returns-clause-one
returns-clause-one c = shown_is_one
