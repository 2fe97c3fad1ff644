-- How much a script may ask for.
use Rattle.std.specs.Prelude.{ℕ}

-- a script has at most so many steps
abbrev pub most_steps : ℕ
most_steps = 100000

-- one `fill` writes at most so many bytes
abbrev pub most_fill : ℕ
most_fill = 1000000

-- all lines with `fill` write at most so many bytes together
abbrev pub most_filled : ℕ
most_filled = 67108864
