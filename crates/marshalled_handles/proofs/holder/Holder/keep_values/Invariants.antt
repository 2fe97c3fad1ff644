use Rattle.std.proofs.Common.{◌≡◌, drop}
use Rattle.std.specs.Option.{option_copied}
use Rattle.marshalled_handles.specs.Holder.{Keeps, adopting_all}
use Rattle.marshalled_handles.proofs.holder.Holder.keep_values.Given as goal

abbrev pub invariant-loop-value : goal.invariant-loop-value
invariant-loop-value l = record {
  rest : adopting_all (option_copied l.request) (drop l.value-index l.values) l.self ≡ adopting_all (option_copied l.request) l.values l.fn.self;
  kept : Keeps l.fn.self l.self;
}
