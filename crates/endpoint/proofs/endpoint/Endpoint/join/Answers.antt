use Rattle.std.proofs.Common.{refl, sym, ap, set, subst}
use Rattle.mux_items.specs.Bodies.{Content}
use Rattle.mux_items.specs.Items.{Got}
use Rattle.endpoint.specs.Steps.{Follows, HasApplied}
use Rattle.endpoint.specs.Value.{EndpointValue, value_in}
use Rattle.endpoint.proofs.Events.{unattached_quiet}
use Rattle.endpoint.proofs.Running.{joins_at, none_runs_quiet, runs_at}
use Rattle.endpoint.proofs.Sending.{one_set}
use Rattle.endpoint.proofs.endpoint.Endpoint.join.Goals as goal

pub returns-in_default-clause-joins : goal.returns-in_default-clause-joins
returns-in_default-clause-joins c = λ items place at bytes rest h.
    none_runs_quiet c.args.self.now c.args.key items (Got place c.args.key (Content bytes)) at rest c.running_at.result h c.running_at.ensures c.in_default.is
    (unattached_quiet c.args.self.now.mux.version items place c.args.key (Content bytes))

pub invariant_of-self-in_err-feed : goal.invariant_of-self-in_err-feed
invariant_of-self-in_err-feed c =
    let xs = c.self.inside.connections.items in
    let x = c.index_mut.result.now in
    let r = runs_at c.args.key xs c.args.self.now.connections c.in-Some.place x c.running_at.result (ap (λ (e : EndpointValue). e.connections) c.self.view_is) c.running_at.ensures c.in-Some.is c.index_mut.ensures.value in
    one_set xs c.in-Some.place x (record x { end = c.feed.new.self }) r.at.within c.index_mut.ensures.value refl c.self.invariant

pub invariant_of-self-2 : goal.invariant_of-self-2
invariant_of-self-2 c =
    let xs = c.self.inside.connections.items in
    let x = c.index_mut.result.now in
    let r = runs_at c.args.key xs c.args.self.now.connections c.in-Some.place x c.running_at.result (ap (λ (e : EndpointValue). e.connections) c.self.view_is) c.running_at.ensures c.in-Some.is c.index_mut.ensures.value in
    one_set xs c.in-Some.place x (record x { end = c.feed.new.self }) r.at.within c.index_mut.ensures.value refl c.self.invariant

pub returns-clause-joins : goal.returns-clause-joins
returns-clause-joins c = λ items place at bytes rest h.
    let inside = c.self.inside in
    let xs = inside.connections.items in
    let x = c.index_mut.result.now in
    let new = value_in c.read_all.new.mux (set xs c.in-Some.place (record x { end = c.feed.new.self })) inside.stopped in
    let r = runs_at c.args.key xs c.args.self.now.connections c.in-Some.place x c.running_at.result (ap (λ (e : EndpointValue). e.connections) c.self.view_is) c.running_at.ensures c.in-Some.is c.index_mut.ensures.value in
    subst (λ (e : EndpointValue). Follows e new items (Got place c.args.key (Content bytes)) at rest) c.self.view_is
    (joins_at inside.mux c.read_all.new.mux xs inside.stopped c.args.key c.in-Some.place x c.feed.new.self items place at bytes rest c.as_slice.result.now c.in_ok-piece.piece.items c.in_ok-feed.field-0 r
    (subst (λ (e : EndpointValue). HasApplied e items (Got place c.args.key (Content bytes)) at rest) (sym c.self.view_is) h)
    c.in_ok-piece.ensures.moves c.in_ok-piece.ensures.bytes c.as_slice.ensures.value c.in_ok-feed.ensures.answers)
