use Rattle.endpoint_run.proofs.Midway.{begins_midway, goes_on, turn_more, all_is_applied, midway_lies}
use Rattle.endpoint_run.proofs.laws.items_are_applied_one_by_one.Goals as goal

pub returns : goal.returns
returns c = record { begins = begins_midway; goes_on = goes_on; turn = turn_more; ends = all_is_applied; lies = midway_lies }
