-- What calls and frames of a channel answer, and what they leave.
use Rattle.std.specs.Prelude.{◌≡◌, Option, Some, None, Result, Ok, Err}
use Rattle.wire_base.specs.declared.fault.CallFault.{CallFault}
use Rattle.wire_base.specs.declared.fault.CallFault.TheVariants as fault
use Rattle.wire_base.specs.declared.reason.Reason.{Reason}
use Rattle.wire_base.specs.declared.refusal.Refusal.{Refusal}
use Rattle.mux_state.specs.State.{ChannelState}
use Rattle.channel_credit.specs.declared.take_fault.TakeFault.{TakeFault}
use Rattle.channel_credit.specs.declared.take_fault.TakeFault.TheVariants as take_fault

-- a call is refused by its test, or makes the state that follows; a call that is refused or finds no memory changes nothing
abbrev pub CallLeaves : {A : Type 0} → Option Refusal → (old after new : ChannelState) → Result A CallFault → Type 0
CallLeaves (Some r) old after new (Err (fault.Refused s)) = (s ≡ r) × (new ≡ old)
CallLeaves None old after new (Ok answer) = new ≡ after
CallLeaves None old after new (Err fault.OutOfMemory) = new ≡ old
CallLeaves refused old after new result = ⊥

-- the same of content
abbrev pub TakeLeaves : {A : Type 0} → Option Reason → (old after new : ChannelState) → Result A TakeFault → Type 0
TakeLeaves (Some r) old after new (Err (take_fault.Refused s)) = (s ≡ r) × (new ≡ old)
TakeLeaves None old after new (Ok answer) = new ≡ after
TakeLeaves None old after new (Err take_fault.OutOfMemory) = new ≡ old
TakeLeaves refused old after new result = ⊥

-- and of frames that take no memory
abbrev pub FrameLeaves : {A : Type 0} → Option Reason → (old after new : ChannelState) → Result A Reason → Type 0
FrameLeaves (Some r) old after new (Err s) = (s ≡ r) × (new ≡ old)
FrameLeaves None old after new (Ok answer) = new ≡ after
FrameLeaves refused old after new result = ⊥
