use Rattle.std.specs.Prelude.{IfOk}
use Rattle.std.proofs.Common.{◌≡◌, true, ap, subst, sym}
use Rattle.endpoint_items.specs.Arriving.{lacks_room}
use Rattle.endpoint_items.specs.Bytes.{consumed, rest_of}
use Rattle.endpoint_items.specs.Connections.{is_attached}
use Rattle.endpoint_items.specs.Items.{terms_of}
use Rattle.endpoint_items.specs.Layers.{rpc_of}
use Rattle.endpoint.specs.declared.attached.Attached.{Attached}
use Rattle.endpoint.specs.Value.{EndpointValue}
use Rattle.endpoint.proofs.Applying.{attached_held, room_lacks}
use Rattle.endpoint.proofs.Frames.{held_was}
use Rattle.endpoint.proofs.InTurn.{place_stands}
use Rattle.endpoint.proofs.endpoint.Endpoint.lacks_room.Goals as goal

pub returns : goal.returns
returns c = λ attached items at rest here s runs.
    let now = c.args.self.now in
    let v = now.mux.version in
    let x = c.index-attached.result.now in
    let p = place_stands now c.self.inside.connections.items c.args.place x attached items at rest (ap (λ (e : EndpointValue). e.connections) c.self.view_is) c.self.invariant c.index-attached.ensures c.requires here s in
    let on : is_attached (rpc_of v x.key items) ≡ true = subst (λ (a : Attached). is_attached (rpc_of v a.key items) ≡ true) (sym p.0) runs in
    let was = held_was x.end (rpc_of v x.key items) (terms_of x.key items) (consumed x.key items) (rest_of v x.key items) (attached_held x.end (rpc_of v x.key items) (terms_of x.key items) (consumed x.key items) (rest_of v x.key items) p.1 on) in
    subst (λ (a : Attached). IfOk c.has_message.result (λ lacks. lacks ≡ lacks_room v a.key items)) p.0
    (room_lacks v x.end x.key items c.is_spent_on.result c.has_message.result p.1 on (c.is_spent_on.ensures items at rest s was) c.if-not-is_spent_on.false c.has_message.ensures.answers)
