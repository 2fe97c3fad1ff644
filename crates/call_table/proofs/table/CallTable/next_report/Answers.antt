-- The report is the oldest of the request, and the write is that of the request.
use Rattle.std.specs.Prelude.{set, slice_get}
use Rattle.std.proofs.Common.{◌≡◌, ◌∙◌, sym, ap, List, arith, length, ◌<◌, ◌-◌}
use Rattle.wire_base.specs.Tree.{Tree}
use Rattle.wire_base.proofs.Places.{changed_is_set}
use Rattle.rpc_items.specs.Drawn.{with_number}
use Rattle.rpc_items.proofs.Numbered.{numbered_at}
use Rattle.call_table.specs.declared.entry.Entry.{Entry}
use Rattle.call_table.specs.Table.{TableValue, left_at_entry, left_in, taking, with_taken}
use Rattle.call_table.proofs.Keeping.{got_is_some}
use Rattle.call_table.proofs.table.CallTable.next_report.Goals as goal

pub returns-clause-answer : goal.returns-clause-answer
returns-clause-answer c =
    let t = c.self.inside in
    let n = c.args.n in
    let entry = c.index_mut.result.now in
    let within : n - 1 < length t.requests.items = omega (arith, c.requires.above, c.requires.drawn, ap (λ (v : TableValue). length v.requests) c.self.view_is) in
    let left : left_at_entry (with_number n t.requests.items) ≡ entry.reports = ap left_at_entry (numbered_at n t.requests.items c.requires.above ∙ got_is_some t.requests.items (n - 1) entry c.index_mut.ensures.value within) in
    c.take.ensures.oldest ∙ ap (λ (ts : List Tree). slice_get ts 0) (sym left ∙ ap (left_in n) c.self.view_is)

pub returns-clause-value : goal.returns-clause-value
returns-clause-value c =
    let t = c.self.inside in
    let entry = c.index_mut.result.now in
    let within : c.args.n - 1 < length t.requests.items = omega (arith, c.requires.above, c.requires.drawn, ap (λ (v : TableValue). length v.requests) c.self.view_is) in
    ap (λ (es : List Entry). record { requests = es; rest = t.rest; waiting = t.waiting.items })
    (ap (λ (ts : List Tree). set t.requests.items (c.args.n - 1) (record entry { reports = ts })) c.take.ensures.rest ∙ changed_is_set t.requests.items (c.args.n - 1) taking entry c.index_mut.ensures.value within)
    ∙ ap (with_taken c.args.n) c.self.view_is
