use Rattle.std.proofs.Common.{sym, ap}
use Rattle.rpc_items.specs.Made.{last_handle}
use Rattle.endpoint_items.specs.Connections.{items_of}
use Rattle.endpoint_items.specs.Bytes.{consumed, rest_of}
use Rattle.endpoint_items.specs.Layers.{rpc_of}
use Rattle.endpoint.proofs.Standing.{connected, unconnected}
use Rattle.endpoint.proofs.endpoint.Endpoint.last_handle.Goals as goal

pub returns-in-Some : goal.returns-in-Some
returns-in-Some c = λ items at rest s.
    let end = c.args.self.now in
    let it = connected c.args.key end items at rest s c.self.inside.mux c.self.inside.connections.items c.self.inside.stopped c.in-Some.place c.index.result.now c.self.view_is (sym c.in-Some.ensures) c.index.ensures in
    c.last_handle.ensures (items_of (rpc_of end.mux.version c.args.key items)) (consumed c.args.key items) (rest_of end.mux.version c.args.key items) it.connection.stands

pub returns-in-None : goal.returns-in-None
returns-in-None c = λ items at rest s.
    ap (λ x. last_handle (items_of x)) (sym (unconnected c.args.key c.args.self.now items at rest s (sym c.in-None.ensures)))
