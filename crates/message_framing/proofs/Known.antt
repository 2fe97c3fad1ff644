-- What stands at the front, by the header part.
use Rattle.std.proofs.Common.{◌≡◌, ℕ, ◌+◌, ◌≤◌, inl, inr, List, length, take, Option, Some, None, option_map, Result, Ok, Err, refl, sym, ap, ap₂, ◌∙◌, arith}
use Rattle.std.proofs.lemmas.Bool.{cases_lt, le-ltb, lt-ltb}
use Rattle.wire_base.specs.declared.reason.Reason.{Reason}
use Rattle.wire_base.specs.declared.reason.Reason.TheVariants.{HeaderTooLong}
use Rattle.message_framing.specs.declared.reading.TheConstants.{MAX_HEADER}
use Rattle.message_framing.specs.declared.framing.Framing.TheVariants as framing
use Rattle.message_framing.specs.declared.front.Front.TheVariants.{Whole, Broken}
use Rattle.message_framing.specs.Lines.{header_lines}
use Rattle.message_framing.specs.Header.{header_of}
use Rattle.message_framing.specs.Front.{behind, by_header, header_front, front}
use Rattle.message_framing.specs.Framed.{HasHeader, HasContent, BreaksARule}
use Rattle.message_framing.proofs.Parts.{header_has_part, part_has_header}
use Rattle.message_framing.proofs.HeaderLemmas.{header_is_part}

abbrev Lines : Type 0
Lines = List (List ℕ)

-- ---- a body that stands whole

record Fits (len start : ℕ) (r : Result ℕ (ℕ × Reason)) (s n : ℕ) : Type 0 where
  pub length_is : r ≡ Ok n
  pub start_is : s ≡ start
  pub fits : s + n ≤ len

whole_parts : (a b s n : ℕ) → Whole a b ≡ Whole s n → (a ≡ s) × (b ≡ n)
whole_parts a b s n e = (cc, cc)

behind_whole : (len start : ℕ) (r : Result ℕ (ℕ × Reason)) (s n : ℕ) → behind len start r ≡ Whole s n → Fits len start r s n
behind_whole len start (Ok size) s n e = elim (cases_lt len (start + size)) [
  | inl lt ↦ absurd (let f = lt-ltb len (start + size) lt in cc)
  | inr ge ↦
      let f = le-ltb len (start + size) ge in
      let same : Whole start size ≡ Whole s n = cc in
      let p = whole_parts start size s n same in
      record { length_is = ap Ok p.1; start_is = sym p.0; fits = omega (arith, p.0, p.1) }
]
behind_whole len start (Err broken) s n e = absurd cc

whole_by : (bytes : List ℕ) (o : Option Lines) (s n : ℕ) → header_lines (take MAX_HEADER bytes) ≡ o → by_header (length bytes) (option_map header_of o) ≡ Whole s n → HasContent bytes s n
whole_by bytes (Some lines) s n e f =
    let p = behind_whole (length bytes) (header_of lines).size (header_of lines).length s n f in
    record { lines = lines; has = header_has_part (take MAX_HEADER bytes) lines e; start_is = p.start_is ∙ header_is_part lines; size_is = p.length_is; whole = p.fits }
whole_by bytes None s n e f = elim (cases_lt (length bytes) MAX_HEADER) [
  | inl lt ↦ absurd (let g = lt-ltb (length bytes) MAX_HEADER lt in cc)
  | inr ge ↦ absurd (let g = le-ltb (length bytes) MAX_HEADER ge in cc)
]

pub whole_has_content : (bytes : List ℕ) (s n : ℕ) → front framing.Header bytes ≡ Whole s n → HasContent bytes s n
unfolding front
whole_has_content bytes s n e = whole_by bytes (header_lines (take MAX_HEADER bytes)) s n refl e

header_found : (bytes : List ℕ) (lines : Lines) → HasHeader bytes lines → header_front bytes ≡ behind (length bytes) (header_of lines).size (header_of lines).length
header_found bytes lines h = ap (λ o. by_header (length bytes) (option_map header_of o)) (part_has_header (take MAX_HEADER bytes) lines h)

pub content_is_whole : (bytes : List ℕ) (s n : ℕ) → HasContent bytes s n → front framing.Header bytes ≡ Whole s n
unfolding front
content_is_whole bytes s n h =
    header_found bytes h.lines h.has
    ∙ ap₂ (behind (length bytes)) (header_is_part h.lines ∙ sym h.start_is) h.size_is
    ∙ rw (le-ltb (length bytes) (s + n) h.whole) refl

-- ---- a rule that is broken

broken_parts : (a b : ℕ) (r q : Reason) → Broken a r ≡ Broken b q → (a ≡ b) × (r ≡ q)
broken_parts a b r q e = (cc, cc)

behind_broken : (len start : ℕ) (r : Result ℕ (ℕ × Reason)) (offset : ℕ) (reason : Reason) → behind len start r ≡ Broken offset reason → r ≡ Err (offset, reason)
behind_broken len start (Ok size) offset reason e = elim (cases_lt len (start + size)) [
  | inl lt ↦ absurd (let f = lt-ltb len (start + size) lt in cc)
  | inr ge ↦ absurd (let f = le-ltb len (start + size) ge in cc)
]
behind_broken len start (Err broken) offset reason e =
    let p = broken_parts broken.0 offset broken.1 reason e in
    ap₂ (λ (o : ℕ) (r : Reason). Err (o, r)) p.0 p.1

broken_by : (bytes : List ℕ) (o : Option Lines) (offset : ℕ) (reason : Reason) → header_lines (take MAX_HEADER bytes) ≡ o → by_header (length bytes) (option_map header_of o) ≡ Broken offset reason → BreaksARule bytes offset reason
broken_by bytes (Some lines) offset reason e f =
    inl (record { lines = lines; has = header_has_part (take MAX_HEADER bytes) lines e; broken = behind_broken (length bytes) (header_of lines).size (header_of lines).length offset reason f })
broken_by bytes None offset reason e f = elim (cases_lt (length bytes) MAX_HEADER) [
  | inl lt ↦ absurd (let g = lt-ltb (length bytes) MAX_HEADER lt in cc)
  | inr ge ↦
      let g = le-ltb (length bytes) MAX_HEADER ge in
      let same : Broken 0 HeaderTooLong ≡ Broken offset reason = cc in
      let p = broken_parts 0 offset HeaderTooLong reason same in
      inr (record { most = ge; none = λ lines h. (let found = part_has_header (take MAX_HEADER bytes) lines h in cc); offset_is = sym p.0; reason_is = sym p.1 })
]

pub broken_breaks : (bytes : List ℕ) (offset : ℕ) (reason : Reason) → front framing.Header bytes ≡ Broken offset reason → BreaksARule bytes offset reason
unfolding front
broken_breaks bytes offset reason e = broken_by bytes (header_lines (take MAX_HEADER bytes)) offset reason refl e

no_header : (bytes : List ℕ) (o : Option Lines) → header_lines (take MAX_HEADER bytes) ≡ o → ((lines : Lines) → HasHeader bytes lines → ⊥) → header_lines (take MAX_HEADER bytes) ≡ None
no_header bytes (Some lines) e none = absurd (none lines (header_has_part (take MAX_HEADER bytes) lines e))
no_header bytes None e none = e

pub breaks_is_broken : (bytes : List ℕ) (offset : ℕ) (reason : Reason) → BreaksARule bytes offset reason → front framing.Header bytes ≡ Broken offset reason
unfolding front
breaks_is_broken bytes offset reason (inl h) = header_found bytes h.lines h.has ∙ ap (behind (length bytes) (header_of h.lines).size) h.broken
breaks_is_broken bytes offset reason (inr h) =
    let none = no_header bytes (header_lines (take MAX_HEADER bytes)) refl h.none in
    ap (λ o. by_header (length bytes) (option_map header_of o)) none
    ∙ rw (le-ltb (length bytes) MAX_HEADER h.most, h.offset_is, h.reason_is) refl
