use Rattle.mux_items.proofs.Taking.{taken_front}
use Rattle.mux_items.proofs.laws.taken_is_content.Goals as goal

pub returns : goal.returns
returns c = taken_front
