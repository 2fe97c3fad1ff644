use Rattle.std.proofs.Common.{◌≡◌, None, sym, subst}
use Rattle.mux_items.specs.Items.{ended}
use Rattle.mux_end.specs.Arrivals.{arrival}
use Rattle.endpoint_items.specs.Layers.{mux_of}
use Rattle.endpoint.specs.declared.step.EndStep.TheVariants as step
use Rattle.endpoint.specs.Changes.{each_ended}
use Rattle.endpoint.specs.Replies.{FrameAnswers}
use Rattle.endpoint.specs.Stands.{Stands}
use Rattle.endpoint.specs.Value.{EndpointValue, value_in}
use Rattle.endpoint.proofs.Stepping.{end_answers, event_answers}
use Rattle.endpoint.proofs.endpoint.Endpoint.step_mux.Goals as goal

pub returns-in-Event-clause-answers : goal.returns-in-Event-clause-answers
returns-in-Event-clause-answers c = λ items at rest s runs.
    let inside = c.self.inside in
    let stands = subst (λ (e : EndpointValue). Stands e items at rest) (sym c.self.view_is) s in
    subst (λ (e : EndpointValue). FrameAnswers e c.follow.new.self items at rest (arrival e.mux.version e.mux.nonce (mux_of e.mux.version items) at rest) c.follow.result) c.self.view_is
    (event_answers inside.mux c.step.new.self inside.connections.items inside.stopped items at rest stands c.follow.new.self c.in-Event.event c.follow.result
    (subst (λ (e : EndpointValue). ended (mux_of e.mux.version items) ≡ None) (sym c.self.view_is) runs) (c.in-Event.ensures.answers (mux_of inside.mux.version items) at rest stands.mux) c.follow.ensures.answers)

pub returns-in-Ended-clause-answers : goal.returns-in-Ended-clause-answers
returns-in-Ended-clause-answers c = λ items at rest s runs.
    let inside = c.self.inside in
    let xs = inside.connections.items in
    let why = c.in-Ended.cause in
    let stands = subst (λ (e : EndpointValue). Stands e items at rest) (sym c.self.view_is) s in
    subst (λ (n : EndpointValue). FrameAnswers c.args.self.now n items at rest (arrival c.args.self.now.mux.version c.args.self.now.mux.nonce (mux_of c.args.self.now.mux.version items) at rest) (step.Ended why)) (sym c.end_all.ensures)
    (subst (λ (e : EndpointValue). FrameAnswers e (value_in c.step.new.self (each_ended why xs) inside.stopped) items at rest (arrival e.mux.version e.mux.nonce (mux_of e.mux.version items) at rest) (step.Ended why)) c.self.view_is
    (end_answers inside.mux c.step.new.self xs inside.stopped items at rest stands why
    (subst (λ (e : EndpointValue). ended (mux_of e.mux.version items) ≡ None) (sym c.self.view_is) runs) (c.in-Ended.ensures.answers (mux_of inside.mux.version items) at rest stands.mux)))
