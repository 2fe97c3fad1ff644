-- What stands at the front of the bytes of a stream of frames.
use Rattle.wire_base.specs.declared.frame.Frame.{Frame}
use Rattle.wire_base.specs.Front as fronts
pub use Rattle.wire_base.specs.Front.{Whole, Short, Broken}

-- a whole frame and its length, too few bytes to tell, or a token that breaks a rule, by its offset
abbrev pub Front : Type 0
Front = fronts.Front Frame
