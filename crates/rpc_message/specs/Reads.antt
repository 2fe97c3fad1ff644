-- What a reading of a value answers.
use Rattle.std.specs.Prelude.{◌≡◌, Result, Ok, Err}
use Rattle.wire_base.specs.declared.reason.Reason.{Reason}
use Rattle.rpc_message.specs.declared.fault.MessageFault.{MessageFault}
use Rattle.rpc_message.specs.declared.fault.MessageFault.TheVariants.{Refused, OutOfMemory}

-- the answer is what was to be found, or the reason why there is none; want of memory is free
abbrev pub Reads : {A : Type 0} → Result A Reason → Result A MessageFault → Type 0
Reads found (Ok value) = found ≡ Ok value
Reads found (Err (Refused reason)) = found ≡ Err reason
Reads found (Err OutOfMemory) = Unit {0}
