use Rattle.mux_state.proofs.Refusing.{accept_by_state, write_by_state, read_by_state, complete_by_state, terminate_by_state, frame_by_state, event_by_state, kept_by_state, view_by_state, tally_by_state}
use Rattle.mux_state.proofs.laws.a_state_tells.Goals as goal

pub returns : goal.returns
returns c = record { accept = accept_by_state; write = write_by_state; read = read_by_state; complete = complete_by_state; terminate = terminate_by_state; frame = frame_by_state; event = event_by_state; kept = kept_by_state; view = view_by_state; tally = tally_by_state }
