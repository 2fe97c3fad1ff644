use Rattle.std.proofs.Common.{refl, Err}
use Rattle.mux_items.specs.declared.call.Call.TheVariants as call
use Rattle.endpoint_items.specs.Layers.{mux_of}
use Rattle.endpoint.proofs.Calling.{closing_answers, plain_answers}
use Rattle.endpoint.proofs.endpoint.Endpoint.terminate.Goals as goal

pub returns-in-Ok-clause-answers : goal.returns-in-Ok-clause-answers
returns-in-Ok-clause-answers c = λ items at rest s.
    let old = c.args.self.now in
    closing_answers c.self.inside.mux c.terminate.new.self c.self.inside.connections.items c.self.inside.stopped old c.end_connection.new.self items at rest c.args.key tt s c.self.view_is
    (c.in-Ok.ensures.answers (mux_of old.mux.version items) at rest) c.end_connection.ensures

pub returns-in-Err-clause-answers : goal.returns-in-Err-clause-answers
returns-in-Err-clause-answers c = λ items at rest s.
    let old = c.args.self.now in
    plain_answers c.self.inside.mux c.terminate.new.self c.self.inside.connections.items c.self.inside.stopped old c.finish.new.self items at rest (call.Terminate c.args.key) (λ _. Unit {0}) s
    (Err c.in-Err.fault) c.finish.result c.self.view_is refl (c.in-Err.ensures.answers (mux_of old.mux.version items) at rest) tt c.finish.ensures.state c.finish.ensures.answer
