use Rattle.mux_state.proofs.Known.{blank_before}
use Rattle.mux_state.proofs.Booking.{known_step}
use Rattle.mux_state.proofs.Law.{channel_step}
use Rattle.mux_state.proofs.laws.a_channel_steps.Goals as goal

pub returns : goal.returns
returns c = record { next = channel_step; known = known_step; blank = blank_before }
