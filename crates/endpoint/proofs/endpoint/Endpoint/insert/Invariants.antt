use Rattle.std.proofs.Common.{◌≡◌, ◌≤◌, ◌++◌, ◌-◌, take, drop, length}
use Rattle.endpoint.specs.Changes.{insert_attached}
use Rattle.endpoint.proofs.endpoint.Endpoint.insert.Given as goal

abbrev pub invariant-loop-place : goal.invariant-loop-place
invariant-loop-place l = record {
  within : l.place ≤ length l.self-inside.connections.items;
  front : insert_attached (record { key = l.key; end = l.end }) l.self-inside.connections.items ≡ take l.place l.self-inside.connections.items ++ insert_attached (record { key = l.key; end = l.end }) (drop l.place l.self-inside.connections.items);
}

abbrev pub decreases-loop-place : goal.decreases-loop-place
decreases-loop-place l = length l.self-inside.connections.items - l.place
