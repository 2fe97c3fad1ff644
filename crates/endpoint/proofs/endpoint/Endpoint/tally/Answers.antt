use Rattle.std.proofs.Common.{◌∙◌, ap}
use Rattle.mux_items.specs.Views.{tally_of}
use Rattle.endpoint_items.specs.Layers.{mux_of}
use Rattle.endpoint.specs.Value.{EndpointValue}
use Rattle.endpoint.proofs.Standing.{stands_within}
use Rattle.endpoint.proofs.endpoint.Endpoint.tally.Goals as goal

pub returns : goal.returns
returns c = λ items at rest s.
    let end = c.args.self.now in
    let m = mux_of end.mux.version items in
    c.tally.ensures m at rest (stands_within c.self.inside.mux c.self.inside.connections.items c.self.inside.stopped end items at rest c.self.view_is s) ∙ ap (λ (e : EndpointValue). tally_of e.mux.version c.args.key m) c.self.view_is
