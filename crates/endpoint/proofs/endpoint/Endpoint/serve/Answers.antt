use Rattle.std.proofs.Common.{◌≡◌, sym, ◌∙◌, ap, subst, Some}
use Rattle.wire_base.specs.declared.state.Cause.TheVariants as cause
use Rattle.mux_items.specs.declared.channel.MuxEvent.TheVariants as event
use Rattle.mux_items.specs.Bodies.{ChannelTerminated}
use Rattle.mux_items.specs.Items.{Item, Got}
use Rattle.endpoint.specs.Changes.{ended_at}
use Rattle.endpoint.specs.Steps.{Follows, HasApplied}
use Rattle.endpoint.specs.Value.{EndpointValue}
use Rattle.endpoint.proofs.Events.{event_tells, other_tells}
use Rattle.endpoint.proofs.Frames.{quiet_follows, termination_follows}
use Rattle.endpoint.proofs.endpoint.Endpoint.serve.Goals as goal

pub returns-in-Closed-clause-follows : goal.returns-in-Closed-clause-follows
returns-in-Closed-clause-follows c = λ items item at rest h e.
    let old = c.args.self.now in
    let t = event_tells old.mux.version items item (event.Closed c.in-Closed.key) h.allowed (e ∙ ap Some c.in-Closed.is) in
    let is : item ≡ Got t.place c.in-Closed.key ChannelTerminated = t.is in
    subst (λ (new : EndpointValue). Follows old new items item at rest) (sym c.end_connection.ensures)
    (subst (λ (i : Item). HasApplied old items i at rest → Follows old (record old { connections = ended_at c.in-Closed.key cause.ChannelClosed old.connections }) items i at rest) (sym is)
    (λ g. termination_follows old items t.place c.in-Closed.key at rest g) h)

pub returns-in_default-clause-follows : goal.returns-in_default-clause-follows
returns-in_default-clause-follows c = λ items item at rest h e.
    let v = c.args.self.now.mux.version in
    quiet_follows c.args.self.now items item at rest h
    (other_tells v items item c.args.event c.in_default.not-Content c.in_default.not-Completed c.in_default.not-Closed (event_tells v items item c.args.event h.allowed e))
