use Rattle.std.specs.Prelude.{◌-◌}
use Rattle.std.proofs.Common.{◌≡◌, ◌≤◌, ◌+◌, ℕ, List, ◌++◌}
use Rattle.rpc_items.specs.Made.{last_handle}
use Rattle.endpoint_items.specs.Connections.{items_of}
use Rattle.endpoint_items.specs.Items.{EndItem}
use Rattle.endpoint_items.specs.Layers.{rpc_of}
use Rattle.endpoint.specs.Stands.{Stands}
use Rattle.transcript.specs.Report.{own_handle_line, lines_to}
use Rattle.transcript.proofs.summary.push_own_handles.Given as goal

abbrev pub invariant-loop-number : goal.invariant-loop-number
invariant-loop-number l = (items : List EndItem) (at : ℕ) (rest : List ℕ) → Stands l.end items at rest →
    (l.number ≤ last_handle (items_of (rpc_of l.end.mux.version l.key items)) + 1)
    × (l.out.items ≡ l.fn.out.items ++ lines_to (own_handle_line l.end.mux.version l.side items l.key) (l.number - 1))
