use Rattle.std.specs.Prelude.{OnOk}
use Rattle.std.proofs.Common.{refl, sym, ap, set, subst}
use Rattle.mux_items.specs.Bodies.{ContentWritingCompleted}
use Rattle.mux_items.specs.Items.{Got}
use Rattle.endpoint.specs.Steps.{Follows, HasApplied}
use Rattle.endpoint.specs.Value.{EndpointValue, value_in}
use Rattle.endpoint.proofs.Events.{unattached_quiet}
use Rattle.endpoint.proofs.Running.{completes_at, none_runs_quiet, runs_at}
use Rattle.endpoint.proofs.Sending.{one_set}
use Rattle.endpoint.proofs.endpoint.Endpoint.complete_with.Goals as goal

pub returns-in_default-clause-completes : goal.returns-in_default-clause-completes
returns-in_default-clause-completes c = λ items place at rest h.
    none_runs_quiet c.args.self.now c.args.key items (Got place c.args.key ContentWritingCompleted) at rest c.running_at.result h c.running_at.ensures c.in_default.is
    (unattached_quiet c.args.self.now.mux.version items place c.args.key ContentWritingCompleted)

pub invariant_of-self : goal.invariant_of-self
invariant_of-self c =
    let xs = c.self.inside.connections.items in
    let x = c.index_mut.result.now in
    let r = runs_at c.args.key xs c.args.self.now.connections c.in-Some.place x c.running_at.result (ap (λ (e : EndpointValue). e.connections) c.self.view_is) c.running_at.ensures c.in-Some.is c.index_mut.ensures.value in
    one_set xs c.in-Some.place x (record x { end = c.end.new.self }) r.at.within c.index_mut.ensures.value refl c.self.invariant

pub returns-clause-completes : goal.returns-clause-completes
returns-clause-completes c = λ items place at rest h.
    let inside = c.self.inside in
    let xs = inside.connections.items in
    let x = c.index_mut.result.now in
    let new = value_in c.complete.new.mux (set xs c.in-Some.place (record x { end = c.end.new.self })) inside.stopped in
    let r = runs_at c.args.key xs c.args.self.now.connections c.in-Some.place x c.running_at.result (ap (λ (e : EndpointValue). e.connections) c.self.view_is) c.running_at.ensures c.in-Some.is c.index_mut.ensures.value in
    subst (λ (e : EndpointValue). OnOk c.complete.result (Follows e new items (Got place c.args.key ContentWritingCompleted) at rest)) c.self.view_is
    (completes_at inside.mux c.complete.new.mux xs inside.stopped c.args.key c.in-Some.place x c.end.new.self items place at rest c.complete.result r
    (subst (λ (e : EndpointValue). HasApplied e items (Got place c.args.key ContentWritingCompleted) at rest) (sym c.self.view_is) h) c.end.ensures.value c.complete.ensures.moves)
