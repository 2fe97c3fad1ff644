use Rattle.std.proofs.Common.{ap}
use Rattle.message_body.specs.Found.{at_start}
use Rattle.message_body.proofs.Readings.{reading_found}
use Rattle.message_body.proofs.reader.read_json.Goals as goal

pub returns-in-Ok : goal.returns-in-Ok
returns-in-Ok c = ap at_start (reading_found c.args.body.now c.in-Ok.value c.in-Ok.ensures.value)
