use Rattle.std.specs.Prelude.{is_some}
use Rattle.std.proofs.Common.{sym, ◌∙◌, ap}
use Rattle.mux_items.specs.Kept.{is_kept}
use Rattle.endpoint_items.specs.Connections.{was_attached}
use Rattle.endpoint_items.specs.Layers.{mux_of, rpc_of}
use Rattle.endpoint.proofs.Using.{view_kept, where_gone, where_kept}
use Rattle.endpoint.proofs.endpoint.Endpoint.is_in_use.Goals as goal

pub returns-in-Some : goal.returns-in-Some
returns-in-Some c = λ items at rest s.
    let end = c.args.self.now in
    let v = end.mux.version in
    let m = mux_of v items in
    let kept = view_kept c.self.inside.mux c.self.inside.connections.items c.self.inside.stopped end items at rest c.args.key c.view.result c.self.view_is s (c.view.ensures m at rest) in
    c.has_connection.ensures items at rest s ∙ where_kept (is_kept v c.args.key m) (was_attached (rpc_of v c.args.key items)) (ap is_some (sym c.in-Some.is) ∙ kept)

pub returns-in-None : goal.returns-in-None
returns-in-None c = λ items at rest s.
    let end = c.args.self.now in
    let v = end.mux.version in
    let m = mux_of v items in
    let kept = view_kept c.self.inside.mux c.self.inside.connections.items c.self.inside.stopped end items at rest c.args.key c.view.result c.self.view_is s (c.view.ensures m at rest) in
    where_gone (is_kept v c.args.key m) (was_attached (rpc_of v c.args.key items)) (ap is_some (sym c.in-None.is) ∙ kept)
