use Rattle.std.proofs.Common.{◌≡◌, ap, arith, get_or, subst, sym, ◌∙◌}
use Rattle.std.proofs.lemmas.List.{with_items_is}
use Rattle.wire_base.proofs.Places.{changes_more, changed_all}
use Rattle.rpc_end.specs.Ends.{if_running, with_stop}
use Rattle.rpc_end.specs.Stands.{RpcValue}
use Rattle.endpoint.specs.Changes.{each_stopped, stopped_one}
use Rattle.endpoint.specs.Value.{AreOfOne, EndpointValue}
use Rattle.endpoint.proofs.Places.{each_keys, keys_of, one_by_keys}
use Rattle.endpoint.proofs.endpoint.Endpoint.stop.Goals as goal

pub loop-attached-preserved : goal.loop-attached-preserved
loop-attached-preserved c =
    let here = get_or c.loop-attached.attached-items c.loop-attached.attached-index c.attached-item.result in
    changes_more stopped_one c.loop-attached.attached-items c.loop-attached.attached-index c.attached-item.result _ (omega arith) c.attached-item.is
    ((λ i. record { key = here.key; end = c.starve.ensures i }) ∙ ap stopped_one (sym c.attached-item.is))
    ∙ c.loop-attached.invariant

pub invariant_of-self : goal.invariant_of-self
invariant_of-self c =
    let all : c.loop-attached.attached-items ≡ each_stopped c.args.self.now.connections = sym (changed_all stopped_one c.loop-attached.attached-items c.loop-attached.attached-index (omega arith)) ∙ c.loop-attached.invariant in
    subst AreOfOne (sym (with_items_is c.self.inside.connections c.loop-attached.attached-items (omega arith)))
    (one_by_keys c.self.inside.connections.items c.loop-attached.attached-items
    (ap (λ (e : EndpointValue). keys_of e.connections) c.self.view_is ∙ (sym (each_keys (λ (end : RpcValue). if_running end.state (with_stop end) end) c.args.self.now.connections) ∙ ap keys_of (sym all))) c.self.invariant)
