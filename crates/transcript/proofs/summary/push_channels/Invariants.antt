use Rattle.std.specs.List.{flat_map}
use Rattle.std.proofs.Common.{◌≡◌, ℕ, List, ◌++◌, drop}
use Rattle.mux_items.specs.Views.{known_keys}
use Rattle.endpoint_items.specs.Items.{EndItem}
use Rattle.endpoint_items.specs.Layers.{mux_of}
use Rattle.endpoint.specs.Stands.{Stands}
use Rattle.transcript.specs.Report.{channel_lines, known_lines, keys_of}
use Rattle.transcript.proofs.summary.push_channels.Given as goal

abbrev pub invariant-loop-i : goal.invariant-loop-i
invariant-loop-i l = (items : List EndItem) (at : ℕ) (rest : List ℕ) → Stands l.end items at rest →
    l.out.items ++ flat_map (known_lines l.end.mux.version l.side items) (keys_of l.side l.offering (drop l.i (known_keys (mux_of l.end.mux.version items))))
    ≡ l.fn.out.items ++ channel_lines l.end.mux.version l.side l.offering items
