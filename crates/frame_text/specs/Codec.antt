-- What a codec answers.
use Rattle.std.specs.Prelude.{◌≡◌, ℕ, ◌+◌, ◌<◌, ◌≤◌, List, length, Bool, true, false}
use Rattle.wire_base.specs.declared.frame.Version.{Version}
use Rattle.wire_base.specs.declared.frame.Version.TheVariants as version
use Rattle.wire_base.specs.declared.frame.FrameStep.{FrameStep}
use Rattle.wire_base.specs.declared.frame.FrameStep.TheVariants.{Got, Short, Refused, OutOfMemory}
use Rattle.wire_base.specs.declared.place.Place.{Place}
use Rattle.wire_base.specs.declared.reason.Reason.{Reason}
use Rattle.frame_text.specs.Front.{Front, Broken}
use Rattle.frame_text.specs.Front.{Whole}
use Rattle.frame_text.specs.Front as fronts

-- versions 2 and 3, whose frames are of MessagePack tokens
abbrev pub is_packed : Version → Bool
is_packed version.One = false
is_packed version.Two = true
is_packed version.Three = true

-- how many elements a frame of version 2 or 3 has without its payload
abbrev pub elements : Version → ℕ
elements version.Three = 3
elements v = 2

-- the front breaks a rule at this place of a stream, where its first byte stands at another
pub record IsBrokenAt (front : Front) (at place : Place) (reason : Reason) : Type 0 where
  pub offset : ℕ
  pub broken : front ≡ Broken offset reason
  pub place_is : place.0 ≡ at.0 + offset

-- the answer is the front of these bytes, of which the first stands at this place; want of memory is free
abbrev pub Decodes : FrameStep → List ℕ → Place → Front → Type 0
Decodes (Got frame size) bytes at front = (front ≡ Whole frame size) × (0 < size) × (size ≤ length bytes)
Decodes Short bytes at front = front ≡ fronts.Short
Decodes (Refused place reason) bytes at front = IsBrokenAt front at place reason
Decodes OutOfMemory bytes at front = Unit {0}
