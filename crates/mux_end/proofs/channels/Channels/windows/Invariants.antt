use Rattle.std.proofs.Common.{◌≡◌, ◌≤◌, ◌+◌, min, drop}
use Rattle.std.specs.Prelude.{sum_by}
use Rattle.mux_items.specs.Limits.{most_windows}
use Rattle.mux_state.specs.Book.{Entry, kept_window}
use Rattle.mux_end.proofs.channels.Channels.windows.Given as goal

abbrev pub invariant-loop-known : goal.invariant-loop-known
invariant-loop-known l = record {
  within : l.total ≤ most_windows + 1;
  total : min (most_windows + 1) (l.total + sum_by (λ (entry : Entry). kept_window entry.standing) (drop l.known-index l.known-items)) ≡ min (most_windows + 1) (sum_by (λ (entry : Entry). kept_window entry.standing) l.known-items);
}
