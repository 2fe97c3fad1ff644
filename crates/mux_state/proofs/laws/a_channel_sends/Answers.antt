use Rattle.mux_state.proofs.Sending.{channel_sends}
use Rattle.mux_state.proofs.laws.a_channel_sends.Goals as goal

pub returns : goal.returns
returns c = channel_sends
