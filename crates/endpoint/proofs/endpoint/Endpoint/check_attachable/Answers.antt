use Rattle.std.proofs.Common.{◌≡◌, ◌∙◌, Some, ap, subst, sym}
use Rattle.wire_base.specs.declared.refusal.Refusal.TheVariants as refusal
use Rattle.mux_items.specs.Views.{view_of}
use Rattle.endpoint_items.specs.Calls.{attach_refusal}
use Rattle.endpoint_items.specs.Layers.{mux_of}
use Rattle.endpoint.specs.Stands.{Stands}
use Rattle.endpoint.specs.Value.{EndpointValue, value_in}
use Rattle.endpoint.proofs.Beginning.{no_channel, no_place, none_of, phase_told, unused}
use Rattle.endpoint.proofs.Places.{absent}
use Rattle.endpoint.proofs.endpoint.Endpoint.check_attachable.Goals as goal

pub returns-in_default-view-clause-shows : goal.returns-in_default-view-clause-shows
returns-in_default-view-clause-shows c = λ items at rest s.
    let mux = c.self.inside.mux in
    subst (λ (e : EndpointValue). Stands e items at rest → attach_refusal e.mux.version c.args.key items ≡ Some refusal.NoChannel) c.self.view_is
    (λ own. no_channel (value_in mux c.self.inside.connections.items c.self.inside.stopped) items at rest c.args.key own (λ why e. c.in_default.not-Ended why (c.state.ensures ∙ e))
    (sym (c.view.ensures (mux_of mux.version items) at rest own.mux) ∙ none_of c.view.result c.in_default-view.not-Some)) s

pub returns-in-Some-phase_refusal-clause-shows : goal.returns-in-Some-phase_refusal-clause-shows
returns-in-Some-phase_refusal-clause-shows c = λ items at rest s.
    phase_told c.args.self.now items at rest c.args.key c.in-Some.view c.place_of.result c.is_some.result s
    (λ why e. c.in_default.not-Ended why (c.state.ensures ∙ (ap (λ (o : EndpointValue). o.mux.state) c.self.view_is ∙ e)))
    (sym (subst (λ (e : EndpointValue). Stands e items at rest → Some c.in-Some.view ≡ view_of e.mux.version c.args.key (mux_of e.mux.version items)) c.self.view_is (λ own. c.in-Some.ensures (mux_of c.self.inside.mux.version items) at rest own.mux) s))
    c.place_of.ensures c.is_some.ensures
    ∙ sym c.in-Some-phase_refusal.ensures

pub returns-in-None-clause-alone : goal.returns-in-None-clause-alone
returns-in-None-clause-alone c = absent c.args.key c.args.self.now.connections (sym c.place_of.ensures ∙ no_place c.place_of.result (sym c.is_some.ensures ∙ unused c.in-Some.view.phase c.is_some.result c.in-None.ensures))

pub returns-in-None-clause-shows : goal.returns-in-None-clause-shows
returns-in-None-clause-shows c = λ items at rest s.
    let shown = sym (subst (λ (e : EndpointValue). Stands e items at rest → Some c.in-Some.view ≡ view_of e.mux.version c.args.key (mux_of e.mux.version items)) c.self.view_is (λ own. c.in-Some.ensures (mux_of c.self.inside.mux.version items) at rest own.mux) s) in (
      phase_told c.args.self.now items at rest c.args.key c.in-Some.view c.place_of.result c.is_some.result s
          (λ why e. c.in_default.not-Ended why (c.state.ensures ∙ (ap (λ (o : EndpointValue). o.mux.state) c.self.view_is ∙ e)))
          shown c.place_of.ensures c.is_some.ensures
          ∙ sym c.in-None.ensures,
      shown,
    )
