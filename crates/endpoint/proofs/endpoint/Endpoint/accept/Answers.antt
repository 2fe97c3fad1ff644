use Rattle.std.proofs.Common.{refl}
use Rattle.mux_items.specs.declared.call.Call.TheVariants as call
use Rattle.endpoint_items.specs.Layers.{mux_of}
use Rattle.endpoint.proofs.Calling.{keeps_terms, on_ok, plain_answers}
use Rattle.endpoint.proofs.endpoint.Endpoint.accept.Goals as goal

pub returns-clause-answers : goal.returns-clause-answers
returns-clause-answers c = λ items at rest s.
    let old = c.args.self.now in
    plain_answers c.self.inside.mux c.accept-accepted.new.self c.self.inside.connections.items c.self.inside.stopped old c.finish.new.self items at rest (call.Accept c.args.key c.args.window) (λ _. Unit {0}) s
    c.accept-accepted.result c.finish.result c.self.view_is refl (c.accept-accepted.ensures.answers (mux_of old.mux.version items) at rest) (on_ok c.accept-accepted.result _ (λ key. refl)) c.finish.ensures.state c.finish.ensures.answer

pub returns-clause-terms : goal.returns-clause-terms
returns-clause-terms c = keeps_terms c.self.inside.mux c.accept-accepted.new.self c.self.inside.connections.items c.self.inside.stopped c.args.self.now c.finish.new.self c.accept-accepted.result c.self.view_is c.accept-accepted.ensures.terms c.finish.ensures.state
