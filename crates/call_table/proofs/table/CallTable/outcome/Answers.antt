-- What the table tells is what the items tell.
use Rattle.std.proofs.Common.{rules, ◌≡◌, ◌∙◌}
use Rattle.rpc_items.specs.Outcomes.{Known, NotYet, NoRequest}
use Rattle.call_table.specs.Table.{look_in}
use Rattle.call_table.proofs.Reading.{looks}
use Rattle.call_table.proofs.table.CallTable.outcome.Goals as goal

pub returns-in-Some-rest-clause-stands : goal.returns-in-Some-rest-clause-stands
returns-in-Some-rest-clause-stands c =
    let told : Known c.in-Some-rest.outcome ≡ look_in c.args.n c.args.self.now = search rules in
    λ stopped items s. told ∙ looks stopped c.args.self.now items c.args.n s

pub returns-in-None-rest-clause-stands : goal.returns-in-None-rest-clause-stands
returns-in-None-rest-clause-stands c =
    let told : NotYet ≡ look_in c.args.n c.args.self.now = search rules in
    λ stopped items s. told ∙ looks stopped c.args.self.now items c.args.n s

pub returns-in-Answered-clause-stands : goal.returns-in-Answered-clause-stands
returns-in-Answered-clause-stands c =
    let told : Known c.in-Answered.outcome ≡ look_in c.args.n c.args.self.now = search rules in
    λ stopped items s. told ∙ looks stopped c.args.self.now items c.args.n s

pub returns-in-None-clause-stands : goal.returns-in-None-clause-stands
returns-in-None-clause-stands c =
    let told : NoRequest ≡ look_in c.args.n c.args.self.now = search rules in
    λ stopped items s. told ∙ looks stopped c.args.self.now items c.args.n s
