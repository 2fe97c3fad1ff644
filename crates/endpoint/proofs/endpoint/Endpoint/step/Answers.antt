use Rattle.std.specs.Prelude.{None}
use Rattle.std.proofs.Common.{◌≡◌, subst, sym, ◌∙◌}
use Rattle.mux_items.specs.Items.{ended}
use Rattle.mux_end.specs.Arrivals.{arrival}
use Rattle.mux_end.proofs.Answering.{still_running}
use Rattle.endpoint_items.specs.Arriving.{next_message}
use Rattle.endpoint_items.specs.Layers.{mux_of}
use Rattle.endpoint.specs.Replies.{FrameAnswers, StepAnswers}
use Rattle.endpoint.specs.Stands.{Stands}
use Rattle.endpoint.specs.Value.{EndpointValue}
use Rattle.endpoint.proofs.InTurn.{none_made}
use Rattle.endpoint.proofs.Stepping.{connections_answer}
use Rattle.endpoint.proofs.endpoint.Endpoint.step.Goals as goal

pub returns-in-Some-clause-answers : goal.returns-in-Some-clause-answers
returns-in-Some-clause-answers c = λ items at rest s.
    let now = c.args.self.now in
    let m = mux_of now.mux.version items in
    let runs : ended m ≡ None = still_running now.mux m at rest s.mux (sym s.state ∙ (sym c.state.ensures ∙ c.in-Running.is)) in
    subst (λ o. StepAnswers now c.step_connections.new.self items at rest o (next_message now.mux.version items) c.in-Some.step) (sym runs)
    (connections_answer now c.step_connections.new.self items at rest (next_message now.mux.version items) c.in-Some.step (c.in-Some.ensures.answers items at rest s))

pub returns-in-None-clause-answers : goal.returns-in-None-clause-answers
returns-in-None-clause-answers c = λ items at rest s.
    let now = c.args.self.now in
    let m = mux_of now.mux.version items in
    let runs : ended m ≡ None = still_running now.mux m at rest s.mux (sym s.state ∙ (sym c.state.ensures ∙ c.in-Running.is)) in
    let none = none_made now c.step_connections.new.self items at rest (next_message now.mux.version items) (c.in-None.ensures.answers items at rest s) in
    let answers = subst (λ (e : EndpointValue). Stands e items at rest → ended (mux_of e.mux.version items) ≡ None → FrameAnswers e c.step_mux.new.self items at rest (arrival e.mux.version e.mux.nonce (mux_of e.mux.version items) at rest) c.step_mux.result) none.1
    (λ stands running. c.step_mux.ensures.answers items at rest stands running) in
    subst (λ o. StepAnswers now c.step_mux.new.self items at rest o (next_message now.mux.version items) c.step_mux.result) (sym runs)
    (subst (λ o. StepAnswers now c.step_mux.new.self items at rest None o c.step_mux.result) (sym none.0) (answers s runs))
