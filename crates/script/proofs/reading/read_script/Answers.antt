use Rattle.script.proofs.AnswersOfRead.{text, only}
use Rattle.script.proofs.reading.read_script.Goals as goal

pub returns-clause-text : goal.returns-clause-text
returns-clause-text c = text c.args.bytes.now c.read_lines.result c.read_lines.ensures

pub returns-clause-only : goal.returns-clause-only
returns-clause-only c = only c.args.bytes.now c.read_lines.result c.read_lines.ensures
