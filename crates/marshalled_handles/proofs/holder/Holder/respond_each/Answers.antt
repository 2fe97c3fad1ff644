-- Each handle is as it is with that response.
use Rattle.std.proofs.Common.{◌≡◌, sym, ◌∙◌, ap, arith, subst}
use Rattle.std.proofs.lemmas.List.{with_items_is}
use Rattle.wire_base.proofs.Places.{changed_all, changes_more}
use Rattle.marshalled_handles.specs.Holder.{AreRising, responded, responding}
use Rattle.marshalled_handles.proofs.Finding.{map_rises, responding_keeps}
use Rattle.marshalled_handles.proofs.holder.Holder.respond_each.Goals as goal

pub loop-handle-preserved : goal.loop-handle-preserved
loop-handle-preserved c =
    changes_more (responding c.args.id.now) c.loop-handle.handle-items c.loop-handle.handle-index c.handle-item.result c.respond.new.self (omega arith) c.handle-item.is (c.respond.ensures ∙ ap (responding c.args.id.now) (sym c.handle-item.is))
    ∙ c.loop-handle.invariant

pub invariant_of-self : goal.invariant_of-self
invariant_of-self c =
    let all : c.loop-handle.handle-items ≡ responded c.args.id.now c.args.self.now = sym (changed_all (responding c.args.id.now) c.loop-handle.handle-items c.loop-handle.handle-index (omega arith)) ∙ c.loop-handle.invariant in
    subst AreRising (sym (with_items_is c.self.inside.handles c.loop-handle.handle-items (omega arith)))
    (subst AreRising (sym all) (map_rises (responding c.args.id.now) c.args.self.now (responding_keeps c.args.id.now) (subst AreRising c.self.view_is c.self.invariant)))
