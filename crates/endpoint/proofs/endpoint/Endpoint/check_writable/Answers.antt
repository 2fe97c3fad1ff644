use Rattle.std.proofs.Common.{◌≡◌, sym, ◌∙◌, ap, subst, true}
use Rattle.std.specs.Prelude.{◌&&◌, is_none}
use Rattle.mux_items.specs.Kept.{is_kept}
use Rattle.mux_items.specs.Items.{is_running}
use Rattle.mux_end.proofs.Answering.{still_running}
use Rattle.endpoint_items.specs.Connections.{was_attached}
use Rattle.endpoint_items.specs.Layers.{mux_of, rpc_of}
use Rattle.endpoint.specs.Refusing.{RefusesUse}
use Rattle.endpoint.specs.Value.{EndpointValue}
use Rattle.endpoint.proofs.endpoint.Endpoint.check_writable.Goals as goal

pub returns-in-Running : goal.returns-in-Running
returns-in-Running c = λ items at rest s.
    let end = c.args.self.now in
    let v = end.mux.version in
    let m = mux_of v items in
    let running : is_running m ≡ true = ap is_none (still_running end.mux m at rest s.mux (ap (λ (e : EndpointValue). e.mux.state) (sym c.self.view_is) ∙ (sym c.state.ensures ∙ c.in-Running.is))) in
    subst (λ b. RefusesUse ((b && is_kept v c.args.key m) && was_attached (rpc_of v c.args.key items)) c.check_unattached.result) (sym running) (c.check_unattached.ensures items at rest s)
