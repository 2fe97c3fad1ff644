-- The parts of a frame's text.
use Rattle.std.specs.Prelude.{ℕ, List, ◌++◌}
use Rattle.wire_base.specs.declared.frame.Frame.{Frame}
use Rattle.frame_text.specs.Frames.{code_number, origin_text}
use Rattle.wire_base.specs.Shortest.{array_head, unsigned_text}

-- all of a frame of so many elements but its payload
abbrev pub front_text : (elements : ℕ) → Frame → List ℕ
front_text elements f = array_head elements ++ unsigned_text (code_number f.code) ++ unsigned_text f.id ++ origin_text f.origin
