-- The ids that are kept are those that aren't the same.
use Rattle.std.specs.Prelude.{not}
use Rattle.std.proofs.Common.{rules}
use Rattle.std.proofs.lemmas.Fn.{filter_same}
use Rattle.wire_base.specs.declared.text.Id.{Id}
use Rattle.rpc_items.specs.Ids.{same_id}
use Rattle.call_table.proofs.table.remove.Goals as goal

pub returns : goal.returns
returns c = filter_same _ (λ (waiting : Id). not (same_id waiting c.args.id.now)) _ (λ x b f' k. search rules) _ _ c.retain.ensures.filtered
