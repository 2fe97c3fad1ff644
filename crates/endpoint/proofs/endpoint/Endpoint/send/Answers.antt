use Rattle.std.proofs.Common.{◌<◌, length, set, sym, ◌∙◌, ap, subst}
use Rattle.mux_items.specs.declared.call.Call.TheVariants as call
use Rattle.mux_items.specs.Calls.{called}
use Rattle.endpoint.specs.Changes.{Moves}
use Rattle.endpoint.specs.Sending.{SendsAt}
use Rattle.endpoint.specs.Value.{EndpointValue, value_in}
use Rattle.endpoint.proofs.Sending.{empty, one_changed, sends_all, sends_nothing, took_all}
use Rattle.endpoint.proofs.endpoint.Endpoint.send.Goals as goal

pub returns-then-count-eq0-clause-sends : goal.returns-then-count-eq0-clause-sends
returns-then-count-eq0-clause-sends c =
    let mux = c.self.inside.mux in
    let xs = c.self.inside.connections.items in
    let x = c.index_mut-attached.result.now in
    let within : c.args.place < length xs = subst (λ (e : EndpointValue). c.args.place < length e.connections) (sym c.self.view_is) c.requires in
    let none = empty c.pending_output-count.result.now x.end.output c.pending_output-count.ensures c.if-count-eq0.true in
    subst (λ (e : EndpointValue). SendsAt e (value_in mux (set xs c.args.place x) c.self.inside.stopped) c.args.place) c.self.view_is
    (sends_nothing mux xs c.self.inside.stopped c.args.place x within c.index_mut-attached.ensures.value none)

pub invariant_of-self-2 : goal.invariant_of-self-2
invariant_of-self-2 c =
    one_changed c.self.inside.mux c.self.inside.connections.items c.self.inside.stopped c.args.self.now c.args.place c.index_mut-attached.result.now c.took.new.self c.self.view_is c.requires c.index_mut-attached.ensures.value c.self.invariant

pub returns-clause-sends : goal.returns-clause-sends
returns-clause-sends c =
    let mux = c.self.inside.mux in
    let xs = c.self.inside.connections.items in
    let x = c.index_mut-attached.result.now in
    let within : c.args.place < length xs = subst (λ (e : EndpointValue). c.args.place < length e.connections) (sym c.self.view_is) c.requires in
    subst (λ (e : EndpointValue). SendsAt e (value_in c.write.new.mux (set xs c.args.place (record x { end = c.took.new.self })) c.self.inside.stopped) c.args.place) c.self.view_is
    (sends_all mux c.write.new.mux xs c.self.inside.stopped c.args.place x c.took.new.self within c.index_mut-attached.ensures.value
    (λ none. c.if-count-eq0.false (ap length (c.pending_output-count.ensures ∙ none)))
    (λ items at rest s. subst (λ bytes. Moves mux c.write.new.mux items (called mux.version (call.Write x.key bytes) items) at rest) c.pending_output.ensures (c.in_ok-write.ensures.moves items at rest s))
    (took_all x.end c.pending_output-count.result.now c.took.new.self c.pending_output-count.ensures c.took.ensures))
