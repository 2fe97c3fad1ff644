-- Lines of a header part, as the base protocol of the Language Server Protocol has them: each ends with CR LF, and an empty one ends the part.
use Rattle.std.specs.Prelude.{◌≡◌, ℕ, ◌&&◌, ◌==◌, Bool, false, List, [], ◌∷◌, ◌++◌, Option, Some, None, option_map, if◌then◌else◌}

-- what ends a line
abbrev pub line_end : List ℕ
line_end = 13 ∷ 10 ∷ []

-- a line end stands at the front
abbrev pub is_end : List ℕ → Bool
is_end [] = false
is_end (b ∷ []) = false
is_end (b ∷ c ∷ bytes) = (b == 13) && (c == 10)

-- a byte in front of the first line; without a line end there is no line
abbrev pub onto : ℕ → List (List ℕ) → List (List ℕ)
onto b [] = []
onto b (line ∷ lines) = (b ∷ line) ∷ lines

-- the lines that have an end, each without it
unfoldable pub lines_of : List ℕ → List (List ℕ)
lines_of [] = []
lines_of (b ∷ []) = []
lines_of (b ∷ c ∷ bytes) = if (b == 13) && (c == 10) then [] ∷ lines_of bytes else onto b (lines_of (c ∷ bytes))

-- the lines before the first empty one, which are the header's; none where no line is empty
abbrev pub before_empty : List (List ℕ) → Option (List (List ℕ))
before_empty [] = None
before_empty ([] ∷ lines) = Some []
before_empty ((b ∷ line) ∷ lines) = option_map (λ header. (b ∷ line) ∷ header) (before_empty lines)

-- the header's lines, where these bytes hold its end
abbrev pub header_lines : List ℕ → Option (List (List ℕ))
header_lines bytes = before_empty (lines_of bytes)

-- a line that stands in a header: it isn't empty and has no line end in it
pub record IsLine (line : List ℕ) : Type 0 where
  pub some : line ≡ [] → ⊥
  pub one : (before after : List ℕ) → line ≡ before ++ (line_end ++ after) → ⊥

-- all of them do
abbrev pub AreLines : List (List ℕ) → Type 0
AreLines [] = Unit {0}
AreLines (line ∷ lines) = IsLine line × AreLines lines

-- the header part of these lines: each with its end, and an empty line behind them
abbrev pub part : List (List ℕ) → List ℕ
part [] = line_end
part (line ∷ lines) = line ++ (line_end ++ part lines)

-- the bytes begin with the header part of these lines
pub record HasPart (bytes : List ℕ) (lines : List (List ℕ)) : Type 0 where
  pub rest : List ℕ
  pub are : AreLines lines
  pub parts : bytes ≡ part lines ++ rest
