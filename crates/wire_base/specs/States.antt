-- How an end stands that has ended by this cause, or by none.
use Rattle.std.specs.Prelude.{Bool, true, false, Option, Some, None}
use Rattle.wire_base.specs.declared.state.Cause.{Cause}
use Rattle.wire_base.specs.declared.state.EndState.{EndState}
use Rattle.wire_base.specs.declared.state.EndState.TheVariants as state

abbrev pub state_by : Option Cause → EndState
state_by None = state.Running
state_by (Some cause) = state.Ended cause

-- whether an end in this state runs
abbrev pub is_running_state : EndState → Bool
is_running_state state.Running = true
is_running_state (state.Ended cause) = false
is_running_state state.Stopped = false
