-- The report is the oldest.
use Rattle.std.specs.Prelude.{slice_get}
use Rattle.std.proofs.Common.{◌∙◌, ap, arith, List}
use Rattle.wire_base.specs.Tree.{Tree}
use Rattle.call_table.proofs.Keeping.{first_taken}
use Rattle.call_table.proofs.reports.Reports.take.Goals as goal

pub returns-clause-oldest : goal.returns-clause-oldest
returns-clause-oldest c =
    let values = c.self.inside.values in
    first_taken c.pop_front.result values.items c.pop_front.new.self.items c.pop_front.ensures.items (λ l. c.pop_front.ensures.variant.1 (omega (arith, l, values.ok.0)))
    ∙ ap (λ (ts : List Tree). slice_get ts 0) c.self.view_is
