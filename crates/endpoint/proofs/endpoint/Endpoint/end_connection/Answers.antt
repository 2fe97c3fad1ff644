use Rattle.std.proofs.Common.{sym, ◌∙◌, ap, set}
use Rattle.std.specs.List.{position}
use Rattle.mux_items.specs.Bodies.{same_key}
use Rattle.endpoint.specs.declared.attached.Attached.{Attached}
use Rattle.endpoint.specs.Changes.{ended_at, with_connections}
use Rattle.endpoint.specs.Value.{EndpointValue, value_in}
use Rattle.endpoint.proofs.Places.{absent, absent_ends, at_place, one_by_keys}
use Rattle.endpoint.proofs.endpoint.Endpoint.end_connection.Goals as goal

pub invariant_of-self : goal.invariant_of-self
invariant_of-self c =
    let xs = c.self.inside.connections.items in
    let place = sym c.in-Some.ensures in
    let it = at_place c.args.key xs c.in-Some.place c.index_mut.result.now (ap (λ (e : EndpointValue). position (λ (a : Attached). same_key c.args.key a.key) e.connections) c.self.view_is ∙ place) c.index_mut.ensures.value in
    one_by_keys xs (set xs c.in-Some.place (record { key = c.index_mut.result.now.key; end = c.end.new.self })) (sym (it.keys _ it.key)) c.self.invariant

pub returns-in-Some : goal.returns-in-Some
returns-in-Some c =
    let within = c.self.inside.mux in
    let xs = c.self.inside.connections.items in
    let stopped = c.self.inside.stopped in
    let i = c.in-Some.place in
    let x = c.index_mut.result.now in
    let key = c.args.key in
    let it = at_place key xs i x (ap (λ (e : EndpointValue). position (λ (a : Attached). same_key key a.key) e.connections) c.self.view_is ∙ sym c.in-Some.ensures) c.index_mut.ensures.value in
    (λ k. value_in within (set xs i (record { key = x.key; end = c.end.ensures.value k })) stopped)
    ∙ (ap (λ ys. value_in within ys stopped) (sym (it.ends c.args.cause))
    ∙ ap (λ (e : EndpointValue). with_connections (ended_at key c.args.cause e.connections) e) c.self.view_is)

pub returns-in_default : goal.returns-in_default
returns-in_default c =
    let end = c.args.self.now in
    ap (λ xs. with_connections xs end) (sym (absent_ends c.args.key c.args.cause end.connections (absent c.args.key end.connections (sym c.in_default.ensures))))
