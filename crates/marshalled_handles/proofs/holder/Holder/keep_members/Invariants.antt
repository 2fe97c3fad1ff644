use Rattle.std.proofs.Common.{◌≡◌, drop}
use Rattle.std.specs.Option.{option_copied}
use Rattle.rpc_items.specs.Objects.{last_values}
use Rattle.marshalled_handles.specs.Holder.{Keeps, adopting_all}
use Rattle.marshalled_handles.proofs.holder.Holder.keep_members.Given as goal

abbrev pub invariant-loop-place : goal.invariant-loop-place
invariant-loop-place l = record {
  rest : adopting_all (option_copied l.request) (last_values (drop l.place l.members)) l.self ≡ adopting_all (option_copied l.request) (last_values l.members) l.fn.self;
  kept : Keeps l.fn.self l.self;
}
