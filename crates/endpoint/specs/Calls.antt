-- What calls of connections test first.
use Rattle.std.specs.Prelude.{ℕ, List, Bool, not, if◌then◌else◌, Option, Some, None, Result, Ok, Err}
use Rattle.wire_base.specs.declared.fault.CallFault.{CallFault}
use Rattle.wire_base.specs.declared.fault.CallFault.TheVariants as fault
use Rattle.wire_base.specs.declared.frame.Version.{Version}
use Rattle.wire_base.specs.declared.refusal.Refusal.{Refusal}
use Rattle.wire_base.specs.declared.refusal.Refusal.TheVariants as refusal
use Rattle.wire_base.specs.declared.state.EndState.{EndState}
use Rattle.wire_base.specs.declared.state.EndState.TheVariants as state
use Rattle.mux_items.specs.declared.channel.ChannelKey.{ChannelKey}
use Rattle.endpoint_items.specs.Calls.{is_spent_on}
use Rattle.endpoint_items.specs.Connections.{was_attached}
use Rattle.endpoint_items.specs.Items.{EndItem}
use Rattle.endpoint_items.specs.Layers.{mux_of, rpc_of}

-- why a stopped end refuses every call
abbrev pub stopped_refusal : EndState → Option Refusal
stopped_refusal state.Stopped = Some refusal.Stopped
stopped_refusal s = None

-- where the connection of a channel stands: a stopped end refuses first, and then a channel without one
abbrev pub attached_place : EndState → Option ℕ → Result ℕ CallFault
attached_place state.Stopped place = Err (fault.Refused refusal.Stopped)
attached_place s (Some place) = Ok place
attached_place s None = Err (fault.Refused refusal.NotAttached)

-- why no more is said on a channel
abbrev pub room_refusal : (is_spent : Bool) → Option Refusal
room_refusal is_spent = if is_spent then Some refusal.BytesSpent else None

-- why nothing can be said on a channel: it has no connection, or no room
abbrev pub saying_refusal : Version → ChannelKey → List EndItem → Option Refusal
saying_refusal v c items = if not (was_attached (rpc_of v c items)) then Some refusal.NotAttached else room_refusal (is_spent_on c (mux_of v items))
