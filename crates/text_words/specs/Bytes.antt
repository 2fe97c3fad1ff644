-- The bytes that part words and lines, and those that a test of a word names.
use Rattle.std.specs.Prelude.{ℕ}

-- what stands between the words of a line
abbrev pub space : ℕ
space = 32

-- what ends a line
abbrev pub line_feed_byte : ℕ
line_feed_byte = 10

abbrev pub plus : ℕ
plus = 43

abbrev pub minus : ℕ
minus = 45

abbrev pub capital_a : ℕ
capital_a = 65

abbrev pub capital_z : ℕ
capital_z = 90
