-- What a header says: the length of the content part, or the first line that breaks a rule.
use Rattle.std.specs.Prelude.{ℕ, ◌+◌, List, [], ◌∷◌, length, codes, ◌==◌, ◌||◌, nat_lt, Option, Some, None, is_some, Result, Ok, Err, if◌then◌else◌}
use Rattle.wire_base.specs.declared.limits.TheConstants.{MAX_BODY}
use Rattle.wire_base.specs.declared.reason.Reason.{Reason}
use Rattle.wire_base.specs.declared.reason.Reason.TheVariants.{BadHeader, NoLength, LengthTooBig, BadLength, BadCharset}
use Rattle.message_framing.specs.declared.header.Header.{Header}
use Rattle.message_framing.specs.Fields.{is_no_field, is_same, name_of, value_of, number_in, has_other_charset}

-- a length is 1 to 16,777,216, and stands once
abbrev pub with_number : Option ℕ → Option ℕ → Result (Option ℕ) Reason
with_number found None = Err BadLength
with_number found (Some n) = if nat_lt MAX_BODY n then Err LengthTooBig else if (n == 0) || is_some found then Err BadLength else Ok (Some n)

-- the length after one more line, or the rule that the line breaks
abbrev pub with_line : Option ℕ → List ℕ → Result (Option ℕ) Reason
with_line found line =
    if is_no_field line then Err BadHeader
    else if is_same (name_of line) (codes "Content-Length") then with_number found (number_in (value_of line))
    else if is_same (name_of line) (codes "Content-Type") then (if has_other_charset (value_of line) then Err BadCharset else Ok found)
    else Ok found

-- what the lines so far say: the length, if one stands among them, or the first that breaks a rule, by the offset of its first byte
abbrev pub Said : Type 0
Said = Result (Option ℕ) (ℕ × Reason)

abbrev pub told_at : ℕ → Result (Option ℕ) Reason → Said
told_at at (Ok found) = Ok found
told_at at (Err reason) = Err (at, reason)

-- with the line at this offset
abbrev pub say : ℕ → Said → List ℕ → Said
say at (Ok found) line = told_at at (with_line found line)
say at (Err broken) line = Err broken

-- the empty line at this offset is missed by the length, if there was none
abbrev pub length_at : ℕ → Said → Result ℕ (ℕ × Reason)
length_at at (Ok (Some n)) = Ok n
length_at at (Ok None) = Err (at, NoLength)
length_at at (Err broken) = Err broken

-- the header that goes on with these lines at this offset
abbrev pub header_from : ℕ → Said → List (List ℕ) → Header
header_from at said [] = record { size = at + 2; length = length_at at said }
header_from at said (line ∷ lines) = header_from (at + length line + 2) (say at said line) lines

abbrev pub header_of : List (List ℕ) → Header
header_of lines = header_from 0 (Ok None) lines
