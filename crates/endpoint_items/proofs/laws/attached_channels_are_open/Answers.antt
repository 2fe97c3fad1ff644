use Rattle.endpoint_items.proofs.Attached.{attached_open}
use Rattle.endpoint_items.proofs.laws.attached_channels_are_open.Goals as goal

pub returns : goal.returns
returns c = attached_open
