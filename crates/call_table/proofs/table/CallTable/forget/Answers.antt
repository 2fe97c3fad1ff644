-- What stands once a request is forgotten.
use Rattle.std.proofs.Common.{rules}
use Rattle.call_table.proofs.After.{forgotten_after}
use Rattle.call_table.proofs.table.CallTable.forget.Goals as goal

pub returns-in-Known-clause-stands : goal.returns-in-Known-clause-stands
returns-in-Known-clause-stands c = λ items s. forgotten_after c.args.n c.args.self.now c.clear.new.self items c.clear.ensures (search rules) s
