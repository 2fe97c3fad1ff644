-- The next of the values.
use Rattle.std.proofs.Common.{◌∙◌, arith}
use Rattle.std.specs.Option.{option_copied}
use Rattle.marshalled_handles.proofs.Adopting.{kept_value, value_on}
use Rattle.marshalled_handles.proofs.holder.Holder.keep_values.Goals as goal

pub loop-value-preserved : goal.loop-value-preserved
loop-value-preserved c = record {
  rest =
      value_on (option_copied c.args.request) c.args.values.now c.loop-value.value-index c.value-item.result c.loop-value.self c.keep_value.new.self (omega arith) c.value-item.is c.in_ok-keep_value.ensures.ok
      ∙ c.loop-value.invariant.rest;
  kept = kept_value (option_copied c.args.request) c.value-item.result c.args.self.now c.loop-value.self c.keep_value.new.self c.in_ok-keep_value.ensures.ok c.loop-value.invariant.kept;
}
