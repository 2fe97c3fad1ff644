use Rattle.endpoint_items.proofs.Joining.{reads}
use Rattle.endpoint_items.proofs.laws.what_is_read_is_joined.Goals as goal

pub returns : goal.returns
returns c = reads
