use Rattle.std.proofs.Common.{◌≡◌, None, subst, sym}
use Rattle.wire_base.specs.declared.state.Cause.TheVariants as cause
use Rattle.mux_items.specs.Items.{End, ended}
use Rattle.endpoint_items.specs.Items.{Mux}
use Rattle.endpoint_items.specs.Layers.{mux_of}
use Rattle.endpoint.specs.Changes.{each_ended}
use Rattle.endpoint.specs.Replies.{Adds}
use Rattle.endpoint.specs.Stands.{Stands}
use Rattle.endpoint.specs.Value.{EndpointValue, value_in}
use Rattle.endpoint.proofs.InTurn.{spends}
use Rattle.endpoint.proofs.endpoint.Endpoint.spend.Goals as goal

pub returns-clause-ends : goal.returns-clause-ends
returns-clause-ends c = λ items at rest s runs.
    let inside = c.self.inside in
    let xs = inside.connections.items in
    let stands = subst (λ (e : EndpointValue). Stands e items at rest) (sym c.self.view_is) s in
    subst (λ (n : EndpointValue). Adds c.args.self.now n items at rest (Mux (End cause.Spent))) (sym c.end_all.ensures)
    (subst (λ (e : EndpointValue). Adds e (value_in c.spend.new.self (each_ended cause.Spent xs) inside.stopped) items at rest (Mux (End cause.Spent))) c.self.view_is
    (spends inside.mux c.spend.new.self xs inside.stopped items at rest stands (subst (λ (e : EndpointValue). ended (mux_of e.mux.version items) ≡ None) (sym c.self.view_is) runs)
    (c.spend.ensures.answers (mux_of inside.mux.version items) at rest stands.mux)))
