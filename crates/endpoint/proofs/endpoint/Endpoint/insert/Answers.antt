use Rattle.std.proofs.Common.{◌≡◌, None, ap, subst, sym, ◌∙◌}
use Rattle.endpoint.specs.declared.attached.Attached.{Attached}
use Rattle.endpoint.specs.Value.{AreOfOne, EndpointValue, connection_at}
use Rattle.endpoint.proofs.Beginning.{one_insert}
use Rattle.endpoint.proofs.endpoint.Endpoint.insert.Goals as goal

pub invariant_of-self-2 : goal.invariant_of-self-2
invariant_of-self-2 c =
    let xs = c.self.inside.connections.items in
    let x : Attached = record { key = c.args.key; end = c.args.end } in
    let none : connection_at c.args.key xs ≡ None = ap (λ (e : EndpointValue). connection_at c.args.key e.connections) c.self.view_is ∙ c.requires in
    subst AreOfOne (sym c.in_ok-insert.ensures.items) (one_insert xs c.loop-place.place x none c.self.invariant)
