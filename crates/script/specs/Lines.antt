-- The lines of a text.
use Rattle.std.specs.Prelude.{ℕ, List, [], ◌∷◌, Bool, true, false, ◌==◌, if◌then◌else◌}
use Rattle.text_words.specs.Bytes.{line_feed_byte}

-- a line without its line feed, and whether one ends it
pub record TextLine : Type 0 where
  pub text : List ℕ
  pub has_end : Bool

-- a byte in front of the first line
abbrev pub onto_line : ℕ → List TextLine → List TextLine
onto_line b [] = record { text = b ∷ []; has_end = false } ∷ []
onto_line b (line ∷ lines) = record { text = b ∷ line.text; has_end = line.has_end } ∷ lines

-- each line feed ends a line, and what follows the last one is a line that has no end, unless nothing does
abbrev pub lines_of : List ℕ → List TextLine
lines_of [] = []
lines_of (b ∷ bs) = if b == line_feed_byte then record { text = []; has_end = true } ∷ lines_of bs else onto_line b (lines_of bs)

-- a line that has an end
abbrev pub whole_line : List ℕ → TextLine
whole_line text = record { text = text; has_end = true }
