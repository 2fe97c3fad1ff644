use Rattle.endpoint_items.proofs.Exchange.{takes_first}
use Rattle.endpoint_items.proofs.laws.messages_are_taken_in_order.Goals as goal

pub returns : goal.returns
returns c = takes_first
