use Rattle.endpoint_items.proofs.Lying.{message_lies, messages_lie}
use Rattle.endpoint_items.proofs.laws.messages_lie_in_what_was_read.Goals as goal

pub returns : goal.returns
returns c = record { one = message_lies; all = messages_lie }
