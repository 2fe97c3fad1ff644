-- What stands with one more request.
use Rattle.call_table.proofs.After.{begun_after}
use Rattle.call_table.proofs.table.CallTable.begin.Goals as goal

pub returns-in-Ok-clause-stands : goal.returns-in-Ok-clause-stands
returns-in-Ok-clause-stands c = λ items s call page_of by. begun_after c.args.expect c.args.progress page_of call c.args.self.now c.add.new.self items c.in-Ok.ensures.ok s by
