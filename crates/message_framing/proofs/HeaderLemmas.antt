-- What a header says: a length in its range, or an offset in it.
use Rattle.std.proofs.Common.{◌≡◌, ℕ, ◌+◌, ◌<◌, ◌≤◌, inl, inr, Bool, true, false, ltb, cond, List, [], ◌∷◌, length, Option, Some, None, is_some, Result, Ok, Err, refl, ◌∙◌, arith, length-append, ◌==◌, ◌||◌}
use Rattle.std.proofs.lemmas.Bool.{cases_lt, lt-ltb, eqb-false, or_parts}
use Rattle.std.specs.Prelude.{codes}
use Rattle.wire_base.specs.declared.reason.Reason.{Reason}
use Rattle.wire_base.specs.declared.limits.TheConstants.{MAX_BODY}
use Rattle.message_framing.specs.Fields.{is_no_field, is_same, name_of, value_of, number_in, has_other_charset}
use Rattle.message_framing.specs.Lines.{part}
use Rattle.message_framing.specs.Header.{with_number, with_line, Said, told_at, say, length_at, header_from, header_of}

-- a length of a content part
abbrev pub InRange : ℕ → Type 0
InRange n = (0 < n) × (n ≤ MAX_BODY)

abbrev pub IsFound : Option ℕ → Type 0
IsFound (Some n) = InRange n
IsFound None = Unit {0}

abbrev pub IsTold : Result (Option ℕ) Reason → Type 0
IsTold (Ok found) = IsFound found
IsTold (Err reason) = Unit {0}

-- what was said up to an offset
abbrev pub IsSaid : ℕ → Said → Type 0
IsSaid at (Ok found) = IsFound found
IsSaid at (Err broken) = broken.0 ≤ at

-- what a header of so many bytes says
abbrev pub IsLength : ℕ → Result ℕ (ℕ × Reason) → Type 0
IsLength size (Ok n) = InRange n
IsLength size (Err broken) = broken.0 ≤ size

either : (P : Result (Option ℕ) Reason → Type 0) (b : Bool) (x y : Result (Option ℕ) Reason) → (b ≡ true → P x) → (b ≡ false → P y) → P (cond b x y)
either P true x y p q = p refl
either P false x y p q = q refl

told_number : (found number : Option ℕ) → IsTold (with_number found number)
told_number found None = tt
told_number found (Some n) = either IsTold (ltb MAX_BODY n) _ _ (λ _. tt) (λ small. either IsTold ((n == 0) || is_some found) _ _ (λ _. tt) (λ some.
    let zero = eqb-false n 0 (or_parts (n == 0) (is_some found) some).0 in
    elim (cases_lt MAX_BODY n) [
      | inl lt ↦ absurd (let big = lt-ltb MAX_BODY n lt in cc)
      | inr le ↦ (omega (arith, zero), le)
    ]))

told_line : (found : Option ℕ) (line : List ℕ) → IsFound found → IsTold (with_line found line)
told_line found line h =
    either IsTold (is_no_field line) _ _ (λ _. tt) (λ _.
    either IsTold (is_same (name_of line) (codes "Content-Length")) _ _ (λ _. told_number found (number_in (value_of line))) (λ _.
    either IsTold (is_same (name_of line) (codes "Content-Type")) _ _ (λ _. either IsTold (has_other_charset (value_of line)) _ _ (λ _. tt) (λ _. h)) (λ _. h)))

told_said : (at next : ℕ) (told : Result (Option ℕ) Reason) → at ≤ next → IsTold told → IsSaid next (told_at at told)
told_said at next (Ok found) le h = h
told_said at next (Err reason) le h = le

said_line : (at next : ℕ) (said : Said) (line : List ℕ) → at ≤ next → IsSaid at said → IsSaid next (say at said line)
said_line at next (Ok found) line le h = told_said at next (with_line found line) le (told_line found line h)
said_line at next (Err broken) line le h = omega arith

said_length : (at : ℕ) (said : Said) → IsSaid at said → IsLength (at + 2) (length_at at said)
said_length at (Ok (Some n)) h = h
said_length at (Ok None) h = omega arith
said_length at (Err broken) h = omega arith

header_length : (at : ℕ) (said : Said) (lines : List (List ℕ)) → IsSaid at said → IsLength (header_from at said lines).size (header_from at said lines).length
header_length at said [] h = said_length at said h
header_length at said (line ∷ lines) h = header_length (at + length line + 2) (say at said line) lines (said_line at (at + length line + 2) said line (omega arith) h)

pub header_is_length : (lines : List (List ℕ)) → IsLength (header_of lines).size (header_of lines).length
header_is_length lines = header_length 0 (Ok None) lines tt

header_size : (at : ℕ) (said : Said) (lines : List (List ℕ)) → (header_from at said lines).size ≡ at + length (part lines)
header_size at said [] = refl
header_size at said (line ∷ lines) = header_size (at + length line + 2) (say at said line) lines ∙ omega (arith, length-append line (13 ∷ 10 ∷ part lines))

-- a header is as long as the part of its lines
pub header_is_part : (lines : List (List ℕ)) → (header_of lines).size ≡ length (part lines)
header_is_part lines = header_size 0 (Ok None) lines ∙ omega arith
