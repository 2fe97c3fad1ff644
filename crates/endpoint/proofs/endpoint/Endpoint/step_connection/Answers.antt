use Rattle.std.specs.Prelude.{Some, None}
use Rattle.std.proofs.Common.{◌≡◌, true, false, ap, refl, subst, sym, ◌∙◌}
use Rattle.endpoint_items.specs.Bytes.{consumed, rest_of}
use Rattle.endpoint_items.specs.Connections.{is_attached}
use Rattle.endpoint_items.specs.Items.{Mux, terms_of}
use Rattle.endpoint_items.specs.Layers.{mux_of, rpc_of}
use Rattle.endpoint_items.proofs.Attached.{attached_open}
use Rattle.endpoint_items.proofs.Usable.{running_none}
use Rattle.wire_base.specs.declared.state.Cause.TheVariants as cause
use Rattle.wire_base.specs.States.{is_running_state}
use Rattle.mux_items.specs.Items.{End, ended}
use Rattle.endpoint.specs.declared.attached.Attached.{Attached}
use Rattle.endpoint.specs.declared.step.EndStep.{EndStep}
use Rattle.endpoint.specs.Steps.{FromConnections}
use Rattle.endpoint.specs.Value.{EndpointValue}
use Rattle.endpoint.proofs.Frames.{held, held_attached}
use Rattle.endpoint.proofs.InTurn.{message_came, message_none, message_spent, place_stands}
use Rattle.endpoint.proofs.Running.{not_running, unattached}
use Rattle.endpoint.proofs.endpoint.Endpoint.step_connection.Goals as goal

pub returns-in_default-clause-answers : goal.returns-in_default-clause-answers
returns-in_default-clause-answers c = λ attached items at rest here s.
    let now = c.args.self.now in
    let v = now.mux.version in
    let x = c.index.result.now in
    let p = place_stands now c.self.inside.connections.items c.args.place x attached items at rest (ap (λ (e : EndpointValue). e.connections) c.self.view_is) c.self.invariant c.index.ensures c.requires here s in
    let off : is_attached (rpc_of v x.key items) ≡ false = unattached (Some x.end) (rpc_of v x.key items) (terms_of x.key items) (consumed x.key items) (rest_of v x.key items) p.1
    (ap is_running_state (sym c.state.ensures) ∙ not_running c.state.result c.in_default.not-Running) in
    let off' : is_attached (rpc_of v attached.key items) ≡ false = subst (λ (a : Attached). is_attached (rpc_of v a.key items) ≡ false) p.0 off in
    subst (λ found. FromConnections now now items at rest found None) (sym (message_none v attached.key items off')) refl

pub returns-in-Ok-true-clause-answers : goal.returns-in-Ok-true-clause-answers
returns-in-Ok-true-clause-answers c = λ attached items at rest here s.
    let now = c.args.self.now in
    let v = now.mux.version in
    let x = c.index.result.now in
    let p = place_stands now c.self.inside.connections.items c.args.place x attached items at rest (ap (λ (e : EndpointValue). e.connections) c.self.view_is) c.self.invariant c.index.ensures c.requires here s in
    let h = held x.end (rpc_of v x.key items) (terms_of x.key items) (consumed x.key items) (rest_of v x.key items) p.1 (sym c.state.ensures ∙ c.in-Running.is) in
    let on : is_attached (rpc_of v attached.key items) ≡ true = subst (λ (a : Attached). is_attached (rpc_of v a.key items) ≡ true) p.0 (held_attached x.end (rpc_of v x.key items) (terms_of x.key items) (consumed x.key items) (rest_of v x.key items) h) in
    let runs : ended (mux_of v items) ≡ None = running_none (ended (mux_of v items)) (attached_open v attached.key items s.allowed on).runs in
    subst (λ found. FromConnections now c.spend.new.self items at rest found (Some c.spend.result)) (sym (message_spent v attached.key items on (sym (c.in-Ok-true.ensures attached items at rest here s on) ∙ c.in-Ok-true.field-0-test)))
    (subst (λ (r : EndStep). FromConnections now c.spend.new.self items at rest (Some (Mux (End cause.Spent))) (Some r)) (sym c.spend.ensures.answer) (refl, c.spend.ensures.ends items at rest s runs))

pub returns-in-Ok-false-clause-answers : goal.returns-in-Ok-false-clause-answers
returns-in-Ok-false-clause-answers c = λ attached items at rest here s.
    let now = c.args.self.now in
    let v = now.mux.version in
    let x = c.index.result.now in
    let p = place_stands now c.self.inside.connections.items c.args.place x attached items at rest (ap (λ (e : EndpointValue). e.connections) c.self.view_is) c.self.invariant c.index.ensures c.requires here s in
    let h = held x.end (rpc_of v x.key items) (terms_of x.key items) (consumed x.key items) (rest_of v x.key items) p.1 (sym c.state.ensures ∙ c.in-Running.is) in
    let on : is_attached (rpc_of v attached.key items) ≡ true = subst (λ (a : Attached). is_attached (rpc_of v a.key items) ≡ true) p.0 (held_attached x.end (rpc_of v x.key items) (terms_of x.key items) (consumed x.key items) (rest_of v x.key items) h) in
    let room = sym (c.in-Ok-false.ensures attached items at rest here s on) ∙ c.in-Ok-false.field-0-test in
    subst (λ found. FromConnections now c.apply_message.new.self items at rest found c.apply_message.result) (sym (message_came v attached.key items on room))
    (c.apply_message.ensures.answers attached items at rest here s on room)
