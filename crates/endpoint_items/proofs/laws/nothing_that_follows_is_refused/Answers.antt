use Rattle.endpoint_items.proofs.Rows.{follows}
use Rattle.endpoint_items.proofs.laws.nothing_that_follows_is_refused.Goals as goal

pub returns : goal.returns
returns c = follows
