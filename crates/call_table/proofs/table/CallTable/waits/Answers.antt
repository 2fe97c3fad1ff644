-- What waits in the table waits after the items.
use Rattle.std.proofs.Common.{rules, ◌≡◌, ◌∙◌}
use Rattle.call_table.specs.Table.{waits_in}
use Rattle.call_table.proofs.table.CallTable.waits.Goals as goal

pub returns-clause-stands : goal.returns-clause-stands
returns-clause-stands c =
    let told : c.is_among.result ≡ waits_in c.args.id.now c.args.self.now = search rules in
    λ stopped items s. told ∙ s.waiting c.args.id.now
