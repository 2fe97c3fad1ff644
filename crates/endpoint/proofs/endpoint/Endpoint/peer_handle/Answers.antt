use Rattle.std.proofs.Common.{slice_get, sym, ◌∙◌, ap}
use Rattle.marshalled_handles.specs.Numbers.{adopted_numbers}
use Rattle.endpoint_items.specs.Connections.{items_of}
use Rattle.endpoint_items.specs.Bytes.{consumed, rest_of}
use Rattle.endpoint_items.specs.Layers.{rpc_of}
use Rattle.endpoint.proofs.Standing.{connected, unconnected}
use Rattle.endpoint.proofs.endpoint.Endpoint.peer_handle.Goals as goal

pub returns-in_err-place : goal.returns-in_err-place
returns-in_err-place c = λ items at rest s.
    c.from_residual.ensures ∙ ap (λ x. slice_get (adopted_numbers (items_of x)) c.args.i) (sym (unconnected c.args.channel c.args.self.now items at rest s (sym c.in_err-place.ensures)))

pub returns : goal.returns
returns c = λ items at rest s.
    let end = c.args.self.now in
    let it = connected c.args.channel end items at rest s c.self.inside.mux c.self.inside.connections.items c.self.inside.stopped c.in_ok-place.place c.index.result.now c.self.view_is (sym c.in_ok-place.ensures) c.index.ensures in
    c.peer_handle.ensures (items_of (rpc_of end.mux.version c.args.channel items)) (consumed c.args.channel items) (rest_of end.mux.version c.args.channel items) it.connection.stands
