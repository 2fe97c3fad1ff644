-- What stands once a report is taken.
use Rattle.std.proofs.Common.{rules}
use Rattle.call_table.proofs.After.{taken_after}
use Rattle.call_table.proofs.table.CallTable.take_report.Goals as goal

pub returns-clause-stands : goal.returns-clause-stands
returns-clause-stands c = λ items s. taken_after c.args.n c.args.self.now c.next_report.new.self items c.next_report.ensures.value (search rules) s
