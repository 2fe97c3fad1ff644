use Rattle.std.specs.Prelude.{length, min}
use Rattle.std.proofs.Common.{◌≡◌, ap, refl, subst}
use Rattle.std.proofs.lemmas.Result.{err_from_is_err_and}
use Rattle.mux_items.specs.declared.call.Call.TheVariants as call
use Rattle.mux_items.specs.Items.{DidRead}
use Rattle.mux_items.specs.Kept.{is_kept}
use Rattle.mux_items.specs.Lists.{unread}
use Rattle.mux_items.specs.Refusals.{read_refusal}
use Rattle.endpoint_items.specs.Connections.{was_attached}
use Rattle.endpoint_items.specs.Layers.{mux_of, rpc_of}
use Rattle.wire_base.specs.declared.frame.Version.{Version}
use Rattle.mux_end.specs.Replies.{CallAnswers}
use Rattle.endpoint.specs.Value.{EndpointValue}
use Rattle.endpoint.proofs.Calling.{keeps_terms, on_ok, plain_answers}
use Rattle.endpoint.proofs.Using.{read_first, in_use, passes}
use Rattle.endpoint.proofs.endpoint.Endpoint.read.Goals as goal

pub returns-in_err-check_unattached-clause-answers : goal.returns-in_err-check_unattached-clause-answers
returns-in_err-check_unattached-clause-answers c = λ items at rest s.
    let old = c.args.self.now in
    let v = old.mux.version in
    let m = mux_of v items in
    let p = err_from_is_err_and c.from_residual-in_err-check_unattached.result c.from_residual-in_err-check_unattached.ensures.1 in
    rw (p.1, p.2)
    (in_use old items at rest (call.Read c.args.key c.args.max) (λ n. n ≡ min c.args.max (length (unread v c.args.key m))) (is_kept v c.args.key m) (was_attached (rpc_of v c.args.key items)) (read_refusal v c.args.key m) c.in_err-check_unattached.field-0.0 (read_first v c.args.key m) refl (c.in_err-check_unattached.ensures items at rest s))

pub returns-clause-answers : goal.returns-clause-answers
returns-clause-answers c = λ items at rest s.
    let old = c.args.self.now in
    let v = old.mux.version in
    let m = mux_of v items in
    let inside = c.self.inside.mux in
    plain_answers inside c.read-moved.new.self c.self.inside.connections.items c.self.inside.stopped old c.finish.new.self items at rest (call.Read c.args.key c.args.max) (λ n. n ≡ min c.args.max (length (unread v c.args.key m))) s
    c.read-moved.result c.finish.result c.self.view_is (passes (is_kept v c.args.key m) (was_attached (rpc_of v c.args.key items)) (read_refusal v c.args.key m) c.in_ok-check_unattached.field-0 (read_first v c.args.key m) (c.in_ok-check_unattached.ensures items at rest s))
    (λ stands. subst (λ (w : Version). CallAnswers inside c.read-moved.new.self m at rest (read_refusal inside.version c.args.key m) (DidRead c.args.key c.args.max) (λ n. n ≡ min c.args.max (length (unread w c.args.key m))) c.read-moved.result)
    (ap (λ (e : EndpointValue). e.mux.version) c.self.view_is) (c.read-moved.ensures.answers m at rest stands)) (on_ok c.read-moved.result _ (λ key. refl)) c.finish.ensures.state c.finish.ensures.answer

pub returns-clause-terms : goal.returns-clause-terms
returns-clause-terms c = keeps_terms c.self.inside.mux c.read-moved.new.self c.self.inside.connections.items c.self.inside.stopped c.args.self.now c.finish.new.self c.read-moved.result c.self.view_is c.read-moved.ensures.terms c.finish.ensures.state
