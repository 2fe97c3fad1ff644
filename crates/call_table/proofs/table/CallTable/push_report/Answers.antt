-- The write is that of the request.
use Rattle.std.specs.Prelude.{set}
use Rattle.std.proofs.Common.{◌∙◌, ap, List, arith, length, ◌<◌, ◌-◌}
use Rattle.wire_base.specs.Tree.{Tree}
use Rattle.wire_base.proofs.Places.{changed_is_set}
use Rattle.call_table.specs.declared.entry.Entry.{Entry}
use Rattle.call_table.specs.Table.{TableValue, reporting, with_report}
use Rattle.call_table.proofs.table.CallTable.push_report.Goals as goal

pub returns-clause-ok : goal.returns-clause-ok
returns-clause-ok c =
    let t = c.self.inside in
    let entry = c.index_mut.result.now in
    let within : c.args.n - 1 < length t.requests.items = omega (arith, c.requires.above, c.requires.drawn, ap (λ (v : TableValue). length v.requests) c.self.view_is) in
    ap (λ (es : List Entry). record { requests = es; rest = t.rest; waiting = t.waiting.items })
    (ap (λ (ts : List Tree). set t.requests.items (c.args.n - 1) (record entry { reports = ts })) c.in_ok-push.ensures.ok ∙ changed_is_set t.requests.items (c.args.n - 1) (reporting c.args.value) entry c.index_mut.ensures.value within)
    ∙ ap (with_report c.args.n c.args.value) c.self.view_is
