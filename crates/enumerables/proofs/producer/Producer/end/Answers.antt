-- The write is that of the sequence.
use Rattle.std.proofs.Common.{◌∙◌, ap, arith, length, ◌<◌, ◌-◌}
use Rattle.std.specs.Prelude.{set}
use Rattle.wire_base.specs.Lists.{changed_at}
use Rattle.wire_base.proofs.Places.{changed_is_set}
use Rattle.enumerables.specs.Producer.{ending}
use Rattle.enumerables.proofs.producer.Producer.end.Goals as goal

pub returns : goal.returns
returns c =
    let all = c.self.inside.sequences.items in
    let within : c.args.token - 1 < length all = omega (arith, c.requires.above, c.requires.drawn, ap length c.self.view_is) in
    ap (set all (c.args.token - 1)) c.end.ensures ∙ (changed_is_set all (c.args.token - 1) ending c.index_mut.result.now c.index_mut.ensures.value within ∙ ap (changed_at (c.args.token - 1) ending) c.self.view_is)
