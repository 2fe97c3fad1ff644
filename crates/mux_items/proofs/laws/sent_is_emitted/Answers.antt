use Rattle.mux_items.proofs.Emission.{sent_front}
use Rattle.mux_items.proofs.laws.sent_is_emitted.Goals as goal

pub returns : goal.returns
returns c = sent_front
