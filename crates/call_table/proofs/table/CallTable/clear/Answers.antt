-- The writes are those of the request.
use Rattle.std.specs.Prelude.{set}
use Rattle.std.proofs.Common.{◌∙◌, ap, List, arith, length, ◌<◌, ◌-◌}
use Rattle.wire_base.specs.Tree.{Tree}
use Rattle.wire_base.proofs.Places.{changed_is_set}
use Rattle.call_table.specs.declared.entry.Entry.{Entry}
use Rattle.call_table.specs.declared.entry.Kept.TheVariants.{Forgotten}
use Rattle.call_table.specs.Table.{TableValue, forgetting, with_forgotten}
use Rattle.call_table.proofs.table.CallTable.clear.Goals as goal

pub returns : goal.returns
returns c =
    let t = c.self.inside in
    let entry = c.index_mut-entry.result.now in
    let within : c.args.n - 1 < length t.requests.items = omega (arith, c.requires.above, c.requires.drawn, ap (λ (v : TableValue). length v.requests) c.self.view_is) in
    ap (λ (es : List Entry). record { requests = es; rest = t.rest; waiting = t.waiting.items })
    (ap (λ (ts : List Tree). set t.requests.items (c.args.n - 1) (record entry { kept = Forgotten; reports = ts })) c.new-reports.ensures ∙ changed_is_set t.requests.items (c.args.n - 1) forgetting entry c.index_mut-entry.ensures.value within)
    ∙ ap (with_forgotten c.args.n) c.self.view_is
