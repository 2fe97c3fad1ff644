use Rattle.std.proofs.Common.{◌≡◌, ◌-◌, nat_lt, subst, true}
use Rattle.mux_items.specs.Limits.{most_bytes}
use Rattle.endpoint_items.specs.Calls.{is_spent_on, most_text}
use Rattle.endpoint_items.specs.Connections.{was_attached}
use Rattle.endpoint_items.specs.Layers.{mux_of, rpc_of}
use Rattle.endpoint.specs.Stands.{Stands}
use Rattle.endpoint.specs.Value.{EndpointValue}
use Rattle.endpoint.proofs.Known.{spent_told, tally_there}
use Rattle.endpoint.proofs.endpoint.Endpoint.is_spent_on.Goals as goal

pub returns-in-Some : goal.returns-in-Some
returns-in-Some c = λ items at rest s was.
    let mux = c.self.inside.mux in
    subst (λ (e : EndpointValue). Stands e items at rest → nat_lt (most_bytes - most_text) c.in-Some.tally.written ≡ is_spent_on c.args.key (mux_of e.mux.version items)) c.self.view_is
    (λ own. spent_told mux.version c.args.key (mux_of mux.version items) c.in-Some.tally (c.in-Some.ensures (mux_of mux.version items) at rest own.mux)) s

pub returns-in-None : goal.returns-in-None
returns-in-None c = λ items at rest s was.
    let mux = c.self.inside.mux in
    absurd (subst (λ (e : EndpointValue). Stands e items at rest → was_attached (rpc_of e.mux.version c.args.key items) ≡ true → ⊥) c.self.view_is
    (λ own there. tally_there mux.version c.args.key items own.allowed there (c.in-None.ensures (mux_of mux.version items) at rest own.mux)) s was)
