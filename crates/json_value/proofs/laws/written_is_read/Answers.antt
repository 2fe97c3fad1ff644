use Rattle.json_value.proofs.TextLemmas.{IsReading-json_text}
use Rattle.json_value.proofs.laws.written_is_read.Goals as goal

pub returns : goal.returns
returns c = IsReading-json_text
