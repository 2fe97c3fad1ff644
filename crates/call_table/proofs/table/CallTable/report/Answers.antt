-- What stands after a report.
use Rattle.std.proofs.Common.{rules, Some, None}
use Rattle.call_table.proofs.After.{reported_after}
use Rattle.call_table.proofs.table.CallTable.report.Goals as goal

pub returns-in_ok-push_report-in-Some-clause-stands : goal.returns-in_ok-push_report-in-Some-clause-stands
returns-in_ok-push_report-in-Some-clause-stands c = λ items place message s is. reported_after c.args.token.now c.args.value (Some c.in-Some.n) c.args.self.now c.push_report.new.self place message items (search rules) (search rules) is s

pub returns-in-None-clause-stands : goal.returns-in-None-clause-stands
returns-in-None-clause-stands c = λ items place message s is. reported_after c.args.token.now c.args.value None c.args.self.now _ place message items (search rules) (search rules) is s
