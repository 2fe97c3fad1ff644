use Rattle.std.proofs.Common.{ap}
use Rattle.std.proofs.lemmas.Result.{err_from_is_err_and}
use Rattle.rpc_end.specs.declared.terms.Terms.{Terms}
use Rattle.mux_items.specs.Views.{view_of}
use Rattle.endpoint_items.specs.Layers.{mux_of}
use Rattle.endpoint.specs.Value.{EndpointValue}
use Rattle.endpoint.proofs.Beginning.{attach_adds, attach_refuses, attach_starves, view_completed}
use Rattle.endpoint.proofs.endpoint.Endpoint.attach.Goals as goal

pub returns-in_err-view-clause-answers : goal.returns-in_err-view-clause-answers
returns-in_err-view-clause-answers c = λ items at rest s.
    let old = c.args.self.now in
    let terms : Terms = record { framing = c.args.framing; encoding = c.args.encoding } in
    let p = err_from_is_err_and c.from_residual-in_err-view.result c.from_residual-in_err-view.ensures.1 in
    rw (p.1, p.2) (attach_refuses old items at rest c.args.key terms (λ _. Unit {0}) (view_of old.mux.version c.args.key (mux_of old.mux.version items)) c.in_err-view.field-0.0 (c.in_err-view.ensures.shows items at rest s))

pub returns-in-Ok-clause-answers : goal.returns-in-Ok-clause-answers
returns-in-Ok-clause-answers c = λ items at rest s.
    let old = c.args.self.now in
    let terms : Terms = record { framing = c.args.framing; encoding = c.args.encoding } in
    let shown = c.in_ok-view.ensures.shows items at rest s in
    attach_adds old c.attach_to.new.self items at rest c.args.key terms shown.0 (c.in-Ok.ensures.adds items at rest s shown.0 (view_completed old.mux.version c.args.key (mux_of old.mux.version items) c.in_ok-view.view shown.1))

pub returns-in-Err-clause-answers : goal.returns-in-Err-clause-answers
returns-in-Err-clause-answers c = λ items at rest s.
    let old = c.args.self.now in
    let terms : Terms = record { framing = c.args.framing; encoding = c.args.encoding } in
    attach_starves old c.stop.new.self items at rest c.args.key terms (c.in_ok-view.ensures.shows items at rest s).0 (ap (λ (e : EndpointValue). e.state) c.stop.ensures)
