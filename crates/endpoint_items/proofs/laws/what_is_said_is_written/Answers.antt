use Rattle.endpoint_items.proofs.Speaking.{spoken}
use Rattle.endpoint_items.proofs.laws.what_is_said_is_written.Goals as goal

pub returns : goal.returns
returns c = spoken
