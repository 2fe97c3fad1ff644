-- Each handle is ended.
use Rattle.std.proofs.Common.{◌≡◌, refl, sym, ◌∙◌, ap, arith, subst}
use Rattle.std.proofs.lemmas.List.{with_items_is}
use Rattle.wire_base.proofs.Places.{changed_all, changes_more}
use Rattle.marshalled_handles.specs.Holder.{AreRising, all_ended, ending}
use Rattle.marshalled_handles.proofs.Finding.{map_rises}
use Rattle.marshalled_handles.proofs.holder.Holder.end_each.Goals as goal

pub loop-handle-preserved : goal.loop-handle-preserved
loop-handle-preserved c =
    changes_more ending c.loop-handle.handle-items c.loop-handle.handle-index c.handle-item.result c.end.new.self (omega arith) c.handle-item.is (c.end.ensures ∙ ap ending (sym c.handle-item.is))
    ∙ c.loop-handle.invariant

pub invariant_of-self : goal.invariant_of-self
invariant_of-self c =
    let all : c.loop-handle.handle-items ≡ all_ended c.args.self.now = sym (changed_all ending c.loop-handle.handle-items c.loop-handle.handle-index (omega arith)) ∙ c.loop-handle.invariant in
    subst AreRising (sym (with_items_is c.self.inside.handles c.loop-handle.handle-items (omega arith)))
    (subst AreRising (sym all) (map_rises ending c.args.self.now (λ h. refl) (subst AreRising c.self.view_is c.self.invariant)))
