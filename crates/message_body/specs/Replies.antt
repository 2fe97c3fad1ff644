-- What a reading and a writing of a body answer.
use Rattle.std.specs.Prelude.{◌≡◌, ℕ, Option, Some, None, Result, Ok, Err}
use Rattle.wire_base.specs.Tree.{Tree}
use Rattle.wire_base.specs.declared.reason.Reason.{Reason}
use Rattle.wire_base.specs.declared.refusal.Refusal.{Refusal}
use Rattle.wire_base.specs.declared.fault.CallFault.{CallFault}
use Rattle.wire_base.specs.declared.fault.CallFault.TheVariants as call
use Rattle.rpc_items.specs.Bodies.{body_refusal}
use Rattle.message_body.specs.declared.encoding.Encoding.{Encoding}
use Rattle.message_body.specs.declared.fault.BodyFault.{BodyFault}
use Rattle.message_body.specs.declared.fault.BodyFault.TheVariants as body
use Rattle.message_body.specs.Written.{encoder, size_refusal}

-- the answer is what was to be found, or where and why there is none; want of memory is free
abbrev pub Reads : {A : Type 0} → Result A (ℕ × Reason) → Result A BodyFault → Type 0
Reads found (Ok value) = found ≡ Ok value
Reads found (Err (body.Refused offset reason)) = found ≡ Err (offset, reason)
Reads found (Err body.OutOfMemory) = Unit {0}

-- it is written where no rule is broken, and refused by the first that is; want of memory is free
abbrev pub Writes : {A : Type 0} → Option Refusal → Result A CallFault → Type 0
Writes broken (Ok done) = broken ≡ None
Writes broken (Err (call.Refused refusal)) = broken ≡ Some refusal
Writes broken (Err call.OutOfMemory) = Unit {0}

-- a value is appended where its size alone can break a rule, and refused by the first rule that it breaks; want of memory is free
abbrev pub Puts : {A : Type 0} → Encoding → Tree → Result A CallFault → Type 0
Puts encoding t (Ok done) = body_refusal (encoder encoding) t ≡ size_refusal encoding t
Puts encoding t (Err (call.Refused refusal)) = body_refusal (encoder encoding) t ≡ Some refusal
Puts encoding t (Err call.OutOfMemory) = Unit {0}
