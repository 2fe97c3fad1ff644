-- What stands once a request is cancelled.
use Rattle.std.proofs.Common.{rules}
use Rattle.call_table.proofs.After.{cancelled_after}
use Rattle.call_table.proofs.table.CallTable.cancel.Goals as goal

pub returns-clause-stands : goal.returns-clause-stands
returns-clause-stands c = λ items s. cancelled_after c.args.n c.args.self.now c.mark_cancelled.new.self items c.mark_cancelled.ensures (search rules) s
