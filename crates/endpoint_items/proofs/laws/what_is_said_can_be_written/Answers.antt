use Rattle.endpoint_items.proofs.Writable.{said_writable}
use Rattle.endpoint_items.proofs.laws.what_is_said_can_be_written.Goals as goal

pub returns : goal.returns
returns c = said_writable
