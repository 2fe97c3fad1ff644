-- What checks refuse, and what is told of calls that are made inside.
use Rattle.std.specs.Prelude.{◌≡◌, Bool, true, false, Result, Ok, Err}
use Rattle.wire_base.specs.declared.fault.CallFault.{CallFault}
use Rattle.wire_base.specs.declared.fault.CallFault.TheVariants as fault
use Rattle.wire_base.specs.declared.out_of_memory.OutOfMemory.{OutOfMemory}
use Rattle.wire_base.specs.declared.refusal.Refusal.TheVariants as refusal

-- of a call that is made inside only want of memory is told
abbrev pub TellsMemory : {A B : Type 0} → Result A CallFault → Result B OutOfMemory → Type 0
TellsMemory (Err fault.OutOfMemory) (Err e) = Unit {0}
TellsMemory (Err fault.OutOfMemory) (Ok x) = ⊥
TellsMemory given (Ok x) = Unit {0}
TellsMemory given (Err e) = ⊥

-- a channel that a connection alone may use is refused
abbrev pub RefusesUse : (in_use : Bool) → Result (Unit {0}) CallFault → Type 0
RefusesUse true (Err (fault.Refused r)) = r ≡ refusal.Attached
RefusesUse false (Ok x) = Unit {0}
RefusesUse in_use result = ⊥
