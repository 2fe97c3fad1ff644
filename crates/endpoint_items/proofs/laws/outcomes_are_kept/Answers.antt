use Rattle.endpoint_items.proofs.Growing.{outcome_stays, outcome_real}
use Rattle.endpoint_items.proofs.laws.outcomes_are_kept.Goals as goal

pub returns : goal.returns
returns c = record { stays = outcome_stays; real = outcome_real }
