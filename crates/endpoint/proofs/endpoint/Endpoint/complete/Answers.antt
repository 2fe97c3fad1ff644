use Rattle.std.specs.Prelude.{◌&&◌}
use Rattle.std.proofs.Common.{refl}
use Rattle.std.proofs.lemmas.Result.{err_from_is_err_and}
use Rattle.mux_items.specs.declared.call.Call.TheVariants as call
use Rattle.mux_items.specs.Items.{is_running}
use Rattle.mux_items.specs.Kept.{is_kept}
use Rattle.mux_items.specs.Refusals.{complete_refusal}
use Rattle.endpoint_items.specs.Connections.{was_attached}
use Rattle.endpoint_items.specs.Layers.{mux_of, rpc_of}
use Rattle.endpoint.proofs.Calling.{keeps_terms, on_ok, plain_answers}
use Rattle.endpoint.proofs.Using.{complete_first, in_use, passes}
use Rattle.endpoint.proofs.endpoint.Endpoint.complete.Goals as goal

pub returns-in_err-check_writable-clause-answers : goal.returns-in_err-check_writable-clause-answers
returns-in_err-check_writable-clause-answers c = λ items at rest s.
    let old = c.args.self.now in
    let v = old.mux.version in
    let m = mux_of v items in
    let p = err_from_is_err_and c.from_residual-in_err-check_writable.result c.from_residual-in_err-check_writable.ensures.1 in
    rw (p.1, p.2)
    (in_use old items at rest (call.Complete c.args.key) (λ _. Unit {0}) (is_running m && is_kept v c.args.key m) (was_attached (rpc_of v c.args.key items)) (complete_refusal v c.args.key m) c.in_err-check_writable.field-0.0 (complete_first v c.args.key m) refl (c.in_err-check_writable.ensures items at rest s))

pub returns-clause-answers : goal.returns-clause-answers
returns-clause-answers c = λ items at rest s.
    let old = c.args.self.now in
    let v = old.mux.version in
    let m = mux_of v items in
    plain_answers c.self.inside.mux c.complete-completed.new.self c.self.inside.connections.items c.self.inside.stopped old c.finish.new.self items at rest (call.Complete c.args.key) (λ _. Unit {0}) s
    c.complete-completed.result c.finish.result c.self.view_is (passes (is_running m && is_kept v c.args.key m) (was_attached (rpc_of v c.args.key items)) (complete_refusal v c.args.key m) c.in_ok-check_writable.field-0 (complete_first v c.args.key m) (c.in_ok-check_writable.ensures items at rest s))
    (c.complete-completed.ensures.answers m at rest) (on_ok c.complete-completed.result _ (λ key. refl)) c.finish.ensures.state c.finish.ensures.answer

pub returns-clause-terms : goal.returns-clause-terms
returns-clause-terms c = keeps_terms c.self.inside.mux c.complete-completed.new.self c.self.inside.connections.items c.self.inside.stopped c.args.self.now c.finish.new.self c.complete-completed.result c.self.view_is c.complete-completed.ensures.terms c.finish.ensures.state
