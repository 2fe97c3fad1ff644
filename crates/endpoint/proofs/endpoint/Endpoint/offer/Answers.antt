use Rattle.std.proofs.Common.{◌≡◌, refl}
use Rattle.mux_items.specs.declared.call.Call.TheVariants as call
use Rattle.mux_items.specs.Kept.{next_key}
use Rattle.endpoint_items.specs.Layers.{mux_of}
use Rattle.endpoint.proofs.Calling.{keeps_terms, on_ok, plain_answers}
use Rattle.endpoint.proofs.endpoint.Endpoint.offer.Goals as goal

pub returns-clause-answers : goal.returns-clause-answers
returns-clause-answers c = λ items at rest s.
    let old = c.args.self.now in
    plain_answers c.self.inside.mux c.offer-offered.new.self c.self.inside.connections.items c.self.inside.stopped old c.finish.new.self items at rest (call.Offer c.args.name.now c.args.window) (λ key. key ≡ next_key (mux_of old.mux.version items)) s
    c.offer-offered.result c.finish.result c.self.view_is refl (c.offer-offered.ensures.answers (mux_of old.mux.version items) at rest) (on_ok c.offer-offered.result _ (λ key. refl)) c.finish.ensures.state c.finish.ensures.answer

pub returns-clause-terms : goal.returns-clause-terms
returns-clause-terms c = keeps_terms c.self.inside.mux c.offer-offered.new.self c.self.inside.connections.items c.self.inside.stopped c.args.self.now c.finish.new.self c.offer-offered.result c.self.view_is c.offer-offered.ensures.terms c.finish.ensures.state
