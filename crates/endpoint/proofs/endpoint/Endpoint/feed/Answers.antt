use Rattle.std.proofs.Common.{◌≡◌, None, Ok, sym, ◌∙◌, subst}
use Rattle.mux_items.specs.Items.{ended}
use Rattle.mux_end.specs.Replies.{is_spent}
use Rattle.mux_end.proofs.Answering.{still_running}
use Rattle.endpoint_items.specs.Layers.{mux_of}
use Rattle.endpoint.specs.Changes.{ended_with}
use Rattle.endpoint.specs.Replies.{FeedAnswers}
use Rattle.endpoint.specs.Stands.{Stands}
use Rattle.endpoint.specs.Value.{EndpointValue, value_in}
use Rattle.endpoint.proofs.Feeding.{fed_answers}
use Rattle.endpoint.proofs.endpoint.Endpoint.feed.Goals as goal

pub returns-in-Ok-clause-answers : goal.returns-in-Ok-clause-answers
returns-in-Ok-clause-answers c = λ items at rest s.
    let inside = c.self.inside in
    let now = c.args.self.now in
    let piece = c.args.piece.now in
    let told = c.in-Ok.state in
    let stands = subst (λ (e : EndpointValue). Stands e items at rest) (sym c.self.view_is) s in
    let runs : ended (mux_of now.mux.version items) ≡ None = still_running now.mux (mux_of now.mux.version items) at rest s.mux (sym s.state ∙ (sym c.state.ensures ∙ c.in-Running.is)) in
    subst (λ (n : EndpointValue). FeedAnswers now n items at rest piece (ended (mux_of now.mux.version items)) (is_spent at rest piece) (Ok told)) (sym c.end_with.ensures)
    (subst (λ (e : EndpointValue). FeedAnswers e (value_in c.feed.new.self (ended_with told inside.connections.items) inside.stopped) items at rest piece (ended (mux_of e.mux.version items)) (is_spent at rest piece) (Ok told)) c.self.view_is
    (fed_answers inside.mux c.feed.new.self inside.connections.items inside.stopped items at rest piece stands
    (subst (λ (e : EndpointValue). ended (mux_of e.mux.version items) ≡ None) (sym c.self.view_is) runs) told (c.in-Ok.ensures.answers (mux_of inside.mux.version items) at rest stands.mux)))
