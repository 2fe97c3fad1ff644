-- Header fields: a name and a value, with a colon between them.
use Rattle.std.specs.Prelude.{ℕ, ◌+◌, ◌-◌, ◌*◌, List, [], ◌∷◌, ◌++◌, length, take, drop, map, codes, Bool, true, false, not, ◌&&◌, ◌||◌, ◌==◌, nat_lt, nat_le, Option, Some, None, option_and_then, if◌then◌else◌}
use Rattle.std.specs.Char.{is_ascii_digit, to_ascii_lowercase}
use Rattle.std.specs.List.{list_any}
use Rattle.std.specs.Str.{bytes_eq}

-- a space or a tab
abbrev pub is_blank : ℕ → Bool
is_blank b = (b == 32) || (b == 9)

-- what stands before the first byte like this, or all where none is there
abbrev pub before : ℕ → List ℕ → List ℕ
before mark [] = []
before mark (b ∷ bytes) = if b == mark then [] else b ∷ before mark bytes

-- what stands behind it, or nothing where none is there
abbrev pub after : ℕ → List ℕ → List ℕ
after mark [] = []
after mark (b ∷ bytes) = if b == mark then bytes else after mark bytes

-- whether one is there
abbrev pub has : ℕ → List ℕ → Bool
has mark bytes = list_any (λ b. b == mark) bytes

abbrev pub colon : ℕ
colon = 58

abbrev pub semicolon : ℕ
semicolon = 59

-- a byte that no header holds: one that isn't printable ASCII, other than a tab
abbrev pub is_foreign : ℕ → Bool
is_foreign b = not (b == 9) && (nat_lt b 32 || nat_lt 126 b)

-- the same letters, in any case
abbrev pub is_same : List ℕ → List ℕ → Bool
is_same a b = bytes_eq (map to_ascii_lowercase a) (map to_ascii_lowercase b)

-- without blanks in front
abbrev pub trim_front : List ℕ → List ℕ
trim_front [] = []
trim_front (b ∷ bytes) = if is_blank b then trim_front bytes else b ∷ bytes

-- a byte in front of some that have no blanks behind them
abbrev pub onto_trimmed : ℕ → List ℕ → List ℕ
onto_trimmed b [] = if is_blank b then [] else b ∷ []
onto_trimmed b (c ∷ bytes) = b ∷ c ∷ bytes

-- without blanks behind
abbrev pub trim_back : List ℕ → List ℕ
trim_back [] = []
trim_back (b ∷ bytes) = onto_trimmed b (trim_back bytes)

-- without blanks at both ends
abbrev pub trim : List ℕ → List ℕ
trim bytes = trim_back (trim_front bytes)

abbrev pub name_of : List ℕ → List ℕ
name_of line = before colon line

abbrev pub value_of : List ℕ → List ℕ
value_of line = trim (after colon line)

abbrev pub is_empty : List ℕ → Bool
is_empty [] = true
is_empty (b ∷ bytes) = false

-- a line that is no field: it has a foreign byte or no colon, or its name is empty or has a blank
abbrev pub is_no_field : List ℕ → Bool
is_no_field line = list_any is_foreign line || not (has colon line) || is_empty (name_of line) || list_any is_blank (name_of line)

-- the name and the value of a field
abbrev pub field_in : List ℕ → Option (List ℕ × List ℕ)
field_in line = if is_no_field line then None else Some (name_of line, value_of line)

-- ---- lengths

abbrev pub digit_in : ℕ → Option ℕ
digit_in b = if is_ascii_digit b then Some (b - 48) else None

-- the number that these digits say behind what others said
abbrev pub number_from : ℕ → List ℕ → Option ℕ
number_from n [] = Some n
number_from n (b ∷ bytes) = option_and_then (λ d. number_from (n * 10 + d) bytes) (digit_in b)

-- the number that 1 to 8 digits say
abbrev pub number_in : List ℕ → Option ℕ
number_in value = if nat_lt 0 (length value) && nat_le (length value) 8 then number_from 0 value else None

-- ---- charsets

-- each part behind a semicolon, up to the next one
abbrev pub parameters : List ℕ → List (List ℕ)
parameters [] = []
parameters (b ∷ bytes) = if b == semicolon then before semicolon bytes ∷ parameters bytes else parameters bytes

-- between double quotes
abbrev pub in_quotes : List ℕ → List ℕ
in_quotes text = 34 ∷ (text ++ 34 ∷ [])

-- UTF-8 by either of its names, bare or between double quotes
abbrev pub is_utf8_name : List ℕ → Bool
is_utf8_name charset =
    is_same charset (codes "utf-8") || is_same charset (codes "utf8") || is_same charset (in_quotes (codes "utf-8")) || is_same charset (in_quotes (codes "utf8"))

-- a part that names a charset other than UTF-8
abbrev pub is_other_charset : List ℕ → Bool
is_other_charset part = is_same (take 8 (trim part)) (codes "charset=") && not (is_utf8_name (drop 8 (trim part)))

-- a content type with such a part
abbrev pub has_other_charset : List ℕ → Bool
has_other_charset value = list_any is_other_charset (parameters value)
