-- The write is that of the request.
use Rattle.std.proofs.Common.{◌∙◌, ap, List, arith, length, ◌<◌, ◌-◌}
use Rattle.wire_base.proofs.Places.{changed_is_set}
use Rattle.call_table.specs.declared.entry.Entry.{Entry}
use Rattle.call_table.specs.Table.{TableValue, keeping, with_kept}
use Rattle.call_table.proofs.table.CallTable.keep.Goals as goal

pub returns : goal.returns
returns c =
    let t = c.self.inside in
    let within : c.args.n - 1 < length t.requests.items = omega (arith, c.requires.above, c.requires.drawn, ap (λ (v : TableValue). length v.requests) c.self.view_is) in
    ap (λ (es : List Entry). record { requests = es; rest = t.rest; waiting = t.waiting.items }) (changed_is_set t.requests.items (c.args.n - 1) (keeping c.args.kept) c.index_mut.result.now c.index_mut.ensures.value within)
    ∙ ap (with_kept c.args.n c.args.kept) c.self.view_is
