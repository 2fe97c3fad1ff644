-- What stands after an answer.
use Rattle.std.proofs.Common.{rules}
use Rattle.call_table.proofs.After.{answered_after}
use Rattle.call_table.proofs.table.CallTable.answer.Goals as goal

pub returns-clause-stands : goal.returns-clause-stands
returns-clause-stands c = λ items answer s. answered_after c.args.id.now answer c.args.self.now _ items (search rules) s
