use Rattle.std.proofs.Common.{true, false, sym, ◌∙◌, ap}
use Rattle.wire_base.specs.States.{is_running_state}
use Rattle.endpoint.specs.Value.{EndpointValue}
use Rattle.endpoint.proofs.Running.{not_running, running_place}
use Rattle.endpoint.proofs.endpoint.Endpoint.running_at.Goals as goal

pub returns-in-Running : goal.returns-in-Running
returns-in-Running c =
    running_place c.args.key c.self.inside.connections.items c.args.self.now.connections c.in_ok-place.place c.index.result.now true (ap (λ (e : EndpointValue). e.connections) c.self.view_is)
    (sym c.place_of.ensures ∙ c.in_ok-place.was) c.index.ensures (ap is_running_state (sym c.state.ensures ∙ c.in-Running.is))

pub returns-in_default : goal.returns-in_default
returns-in_default c =
    running_place c.args.key c.self.inside.connections.items c.args.self.now.connections c.in_ok-place.place c.index.result.now false (ap (λ (e : EndpointValue). e.connections) c.self.view_is)
    (sym c.place_of.ensures ∙ c.in_ok-place.was) c.index.ensures (ap is_running_state (sym c.state.ensures) ∙ not_running c.state.result c.in_default.not-Running)
