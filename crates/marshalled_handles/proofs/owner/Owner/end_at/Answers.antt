-- The write is that of the handle.
use Rattle.std.proofs.Common.{◌∙◌, sym, ap, arith, length, ◌<◌}
use Rattle.std.specs.Prelude.{set}
use Rattle.wire_base.specs.Lists.{changed_at}
use Rattle.wire_base.proofs.Places.{changed_is_set}
use Rattle.marshalled_handles.specs.Owner.{ending}
use Rattle.marshalled_handles.proofs.Places.{ends_past}
use Rattle.marshalled_handles.proofs.owner.Owner.end_at.Goals as goal

pub returns-then-place-len : goal.returns-then-place-len
returns-then-place-len c =
    let all = c.self.inside.handles.items in
    let within : c.args.place < length all = omega arith in
    ap (set all c.args.place) c.end.ensures ∙ (changed_is_set all c.args.place ending c.index_mut.result.now c.index_mut.ensures.value within ∙ ap (changed_at c.args.place ending) c.self.view_is)

pub returns-else-place-len : goal.returns-else-place-len
returns-else-place-len c = sym (ends_past c.args.place c.args.self.now (omega (arith, ap length c.self.view_is)))
