-- The end of an end, with which all its connections end.
use Rattle.std.specs.Prelude.{ℕ, List, Bool, if◌then◌else◌, Option, None}
use Rattle.std.proofs.Common.{◌≡◌, sym, ◌∙◌, ap, subst}
use Rattle.wire_base.specs.declared.state.Cause.{Cause}
use Rattle.wire_base.specs.declared.state.EndState.TheVariants as state
use Rattle.mux_items.specs.Items.{End, ended}
use Rattle.mux_end.specs.Replies as mux
use Rattle.mux_end.specs.Stands.{EndValue, MuxStands}
use Rattle.mux_end.proofs.Answering.{still_running}
use Rattle.endpoint_items.specs.Items.{EndItem, Mux}
use Rattle.endpoint_items.specs.Layers.{mux_of}
use Rattle.endpoint.specs.declared.attached.Attached.{Attached}
use Rattle.endpoint.specs.Changes.{each_ended, with_connections}
use Rattle.endpoint.specs.Replies.{Adds, EndsBy}
use Rattle.endpoint.specs.Stands.{Stands}
use Rattle.endpoint.specs.Value.{EndpointValue, value_in}
use Rattle.endpoint.proofs.Adding.{ends_all}
use Rattle.endpoint.proofs.Standing.{going, stands_within}

module _ (within within' : EndValue) (connections : List Attached) (stopped : Bool) (old new : EndpointValue) (items : List EndItem) (at : ℕ) (rest : List ℕ) (cause : Cause) (s : Stands old items at rest) (is : value_in within connections stopped ≡ old) where
  -- the multiplexing end ends, and so do all connections
  pub ends_with : mux.Adds within within' (mux_of old.mux.version items) at rest (End cause) → new ≡ with_connections (each_ended cause connections) (value_in within' connections stopped) → Adds old new items at rest (Mux (End cause))
  ends_with add new_is =
      let made : EndpointValue = with_connections (each_ended cause connections) (value_in within' connections stopped) in
      subst (λ (n : EndpointValue). Adds old n items at rest (Mux (End cause))) (sym new_is)
      (ends_all old made items at rest cause s (subst (λ (e : EndValue). mux.Adds e within' (mux_of old.mux.version items) at rest (End cause)) (ap (λ (e : EndpointValue). e.mux) is) add)
      (ap (λ (e : EndpointValue). each_ended cause e.connections) is) (ap (λ b. if b then state.Stopped else within'.state) (going within connections stopped old items at rest is s)))

  -- a running end ends
  pub ends_by : old.state ≡ state.Running → (MuxStands within (mux_of old.mux.version items) at rest → mux.EndsBy within within' (mux_of old.mux.version items) at rest cause (ended (mux_of old.mux.version items)))
      → new ≡ with_connections (each_ended cause connections) (value_in within' connections stopped) → EndsBy old new items at rest cause (ended (mux_of old.mux.version items))
  ends_by running answers new_is =
      let m = mux_of old.mux.version items in
      let none : ended m ≡ None = still_running old.mux m at rest s.mux (sym s.state ∙ running) in
      subst (λ (o : Option Cause). EndsBy old new items at rest cause o) (sym none)
      (ends_with (subst (λ (o : Option Cause). mux.EndsBy within within' m at rest cause o) none (answers (stands_within within connections stopped old items at rest is s))) new_is)
