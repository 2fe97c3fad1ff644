use Rattle.std.specs.List.{flat_map}
use Rattle.std.proofs.Common.{◌≡◌, ℕ, List, ◌++◌, drop}
use Rattle.marshalled_handles.specs.Numbers.{adopted_numbers}
use Rattle.endpoint_items.specs.Connections.{items_of}
use Rattle.endpoint_items.specs.Items.{EndItem}
use Rattle.endpoint_items.specs.Layers.{rpc_of}
use Rattle.endpoint.specs.Stands.{Stands}
use Rattle.transcript.specs.Report.{peer_handle_line, peer_handle_lines}
use Rattle.transcript.proofs.summary.push_peer_handles.Given as goal

abbrev pub invariant-loop-i : goal.invariant-loop-i
invariant-loop-i l = (items : List EndItem) (at : ℕ) (rest : List ℕ) → Stands l.end items at rest →
    l.out.items ++ flat_map (peer_handle_line l.end.mux.version l.side items l.key) (drop l.i (adopted_numbers (items_of (rpc_of l.end.mux.version l.key items))))
    ≡ l.fn.out.items ++ peer_handle_lines l.end.mux.version l.side items l.key
