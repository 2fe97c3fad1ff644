use Rattle.mux_items.proofs.Order.{ordered}
use Rattle.mux_items.proofs.laws.frames_come_in_order.Goals as goal

pub returns : goal.returns
returns c = ordered
