use Rattle.std.proofs.Common.{◌≡◌, ℕ, ◌-◌, List, length, drop}
use Rattle.mux_items.specs.Views.{in_order}
use Rattle.mux_end.specs.Replies.{KeepsTerms}
use Rattle.endpoint_items.specs.Arriving.{first_message, next_message}
use Rattle.endpoint_items.specs.Items.{EndItem, attached_keys}
use Rattle.endpoint.specs.Stands.{Stands}
use Rattle.endpoint.proofs.endpoint.Endpoint.step_connections.Given as goal

abbrev pub invariant-loop-place : goal.invariant-loop-place
invariant-loop-place l = record {
  same : (items : List EndItem) (at : ℕ) (rest : List ℕ) → Stands l.fn.self items at rest → l.self ≡ l.fn.self;
  left : (items : List EndItem) (at : ℕ) (rest : List ℕ) → Stands l.fn.self items at rest
      → next_message l.fn.self.mux.version items ≡ first_message l.fn.self.mux.version items (drop l.place (in_order (attached_keys items)));
  terms : KeepsTerms l.fn.self.mux l.self.mux;
}

abbrev pub decreases-loop-place : goal.decreases-loop-place
decreases-loop-place l = length l.self.connections - l.place
