use Rattle.std.proofs.Common.{◌≡◌, ◌≤◌, ◌++◌, ◌-◌, take, drop, length}
use Rattle.mux_state.specs.Book.{insert_entry}
use Rattle.mux_end.proofs.channels.Channels.insert.Given as goal

abbrev pub invariant-loop-place : goal.invariant-loop-place
invariant-loop-place l = record {
  within : l.place ≤ length l.self-inside.list.items;
  front : insert_entry l.known l.self-inside.list.items ≡ take l.place l.self-inside.list.items ++ insert_entry l.known (drop l.place l.self-inside.list.items);
}

abbrev pub decreases-loop-place : goal.decreases-loop-place
decreases-loop-place l = length l.self-inside.list.items - l.place
