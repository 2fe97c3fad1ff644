use Rattle.endpoint_items.proofs.Sound.{answered_once}
use Rattle.endpoint_items.proofs.laws.requests_are_answered_once.Goals as goal

pub returns : goal.returns
returns c = answered_once
