-- Messages behind a header part: what the base protocol says of their bytes.
use Rattle.std.specs.Prelude.{◌≡◌, ℕ, ◌+◌, ◌≤◌, ◌⊎◌, List, length, take, Ok, Err}
use Rattle.wire_base.specs.declared.reason.Reason.{Reason}
use Rattle.wire_base.specs.declared.reason.Reason.TheVariants.{HeaderTooLong}
use Rattle.message_framing.specs.Lines.{HasPart, part}
use Rattle.message_framing.specs.Header.{header_of}
use Rattle.message_framing.specs.declared.reading.TheConstants.{MAX_HEADER}

-- a header part of these lines stands at the front, and has no more bytes than it may
abbrev pub HasHeader : List ℕ → List (List ℕ) → Type 0
HasHeader bytes lines = HasPart (take MAX_HEADER bytes) lines

-- a header part gives the length of a content part, which is there whole, so many bytes from the front
pub record HasContent (bytes : List ℕ) (start size : ℕ) : Type 0 where
  pub lines : List (List ℕ)
  pub has : HasHeader bytes lines
  pub start_is : start ≡ length (part lines)
  pub size_is : (header_of lines).length ≡ Ok size
  pub whole : start + size ≤ length bytes

-- a line of a header part breaks a rule, first at this offset
pub record BreaksInHeader (bytes : List ℕ) (offset : ℕ) (reason : Reason) : Type 0 where
  pub lines : List (List ℕ)
  pub has : HasHeader bytes lines
  pub broken : (header_of lines).length ≡ Err (offset, reason)

-- no header part ends where it must have ended
pub record HasNoEnd (bytes : List ℕ) (offset : ℕ) (reason : Reason) : Type 0 where
  pub most : MAX_HEADER ≤ length bytes
  pub none : (lines : List (List ℕ)) → HasHeader bytes lines → ⊥
  pub offset_is : offset ≡ 0
  pub reason_is : reason ≡ HeaderTooLong

abbrev pub BreaksARule : List ℕ → ℕ → Reason → Type 0
BreaksARule bytes offset reason = BreaksInHeader bytes offset reason ⊎ HasNoEnd bytes offset reason
