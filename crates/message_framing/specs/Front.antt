-- What stands at the front of bytes that are framed messages.
use Rattle.std.specs.Prelude.{◌≡◌, ℕ, ◌+◌, ◌<◌, ◌≤◌, ℤ, pos, negsuc, List, length, take, ◌==◌, nat_lt, Option, Some, None, option_map, Result, Ok, Err, if◌then◌else◌}
use Rattle.std.specs.Int.{w32, cast_signed, from_be_bytes}
use Rattle.wire_base.specs.declared.limits.TheConstants.{MAX_BODY}
use Rattle.wire_base.specs.declared.reason.Reason.{Reason}
use Rattle.wire_base.specs.declared.reason.Reason.TheVariants.{LengthTooBig, BadLength, HeaderTooLong}
use Rattle.message_framing.specs.declared.framing.Framing.{Framing}
use Rattle.message_framing.specs.declared.framing.Framing.TheVariants as framing
use Rattle.message_framing.specs.declared.front.Front.{Front}
use Rattle.message_framing.specs.declared.front.Front.TheVariants.{Whole, Short, Broken}
use Rattle.message_framing.specs.declared.reading.TheConstants.{MAX_HEADER}
use Rattle.message_framing.specs.Lines.{header_lines}
use Rattle.message_framing.specs.declared.header.Header.{Header}
use Rattle.message_framing.specs.Header.{header_of}

-- of so many bytes, those before the content part and the length that they give
abbrev pub behind : ℕ → ℕ → Result ℕ (ℕ × Reason) → Front
behind len start (Ok size) = if nat_lt len (start + size) then Short else Whole start size
behind len start (Err broken) = Broken broken.0 broken.1

-- of so many bytes, the header among the first of them
abbrev pub by_header : ℕ → Option Header → Front
by_header len (Some header) = behind len header.size header.length
by_header len None = if nat_lt len MAX_HEADER then Short else Broken 0 HeaderTooLong

-- the length that four bytes say
abbrev pub length_in : ℤ → Result ℕ (ℕ × Reason)
length_in (pos n) = if nat_lt MAX_BODY n then Err (0, LengthTooBig) else if n == 0 then Err (0, BadLength) else Ok n
length_in (negsuc n) = Err (0, BadLength)

-- a header part, and behind it the content part
abbrev pub header_front : List ℕ → Front
header_front bytes = by_header (length bytes) (option_map header_of (header_lines (take MAX_HEADER bytes)))

-- a length of four bytes, and behind it the content part
abbrev pub length_front : List ℕ → Front
length_front bytes = if nat_lt (length bytes) 4 then Short else behind (length bytes) 4 (length_in (cast_signed w32 (from_be_bytes w32 (take 4 bytes))))

-- of so many bytes, a body that stands whole among them has one byte or more, and what breaks a rule does so there
abbrev pub IsWithin : ℕ → Front → Type 0
IsWithin len (Whole start size) = (0 < size) × (start + size ≤ len)
IsWithin len Short = Unit {0}
IsWithin len (Broken offset reason) = offset ≤ len

unfoldable pub front : Framing → List ℕ → Front
front framing.Header bytes = header_front bytes
front framing.Length bytes = length_front bytes

-- these bytes, all of them, are a framed message
pub record IsMessage (f : Framing) (bytes : List ℕ) : Type 0 where
  pub start : ℕ
  pub size : ℕ
  pub whole : front f bytes ≡ Whole start size
  pub ends : start + size ≡ length bytes
