use Rattle.std.proofs.Common.{map, ap, ◌∙◌, arith}
use Rattle.std.proofs.lemmas.List.{take_all}
use Rattle.serde_json.specs.View.{items_of}
use Rattle.wire_base.specs.Tree.{no_pairs}
use Rattle.json_value.proofs.Writings.{plain, items_of-plain, data_members-norm_onto}
use Rattle.json_value.proofs.writer.+back.Goals as goal

pub members_of-loop-pair-init : goal.members_of-loop-pair-init
members_of-loop-pair-init t c = record {
  same = rw (c.new-members.ensures.empty, c.as_slice-pair-items.ensures) (data_members-norm_onto no_pairs c.args.pairs.now);
  valid = rw (c.as_slice-pair-items.ensures) (λ h. h);
}

pub values_of-returns-clause-same : goal.values_of-returns-clause-same
values_of-returns-clause-same t c =
    let all = c.as_slice-item-items.result.now in
    let each = c.loop-item.invariant.same ∙ ap (λ ts. map plain ts) (take_all c.loop-item.item-index all (omega (arith, c.loop-item-test.false))) in
    rw (← c.as_slice-item-items.ensures) (ap items_of each ∙ items_of-plain all)
