-- What stands after a response.
use Rattle.std.proofs.Common.{rules}
use Rattle.call_table.proofs.After.{settled_after}
use Rattle.call_table.proofs.table.CallTable.settle.Goals as goal

pub returns-in-First-clause-stands : goal.returns-in-First-clause-stands
returns-in-First-clause-stands c = λ items place message s is. settled_after c.args.id.now c.args.outcome c.args.self.now _ place message items (search rules) s is

pub returns-in_default-clause-stands : goal.returns-in_default-clause-stands
returns-in_default-clause-stands c = λ items place message s is. settled_after c.args.id.now c.args.outcome c.args.self.now _ place message items (search rules) s is
