-- What stands at the front, whatever follows.
use Rattle.std.proofs.Common.{◌≡◌, ℕ, zero, suc, ◌+◌, ◌-◌, ◌<◌, ◌≤◌, inl, inr, ltb, cond, List, ◌++◌, length, take, Option, Some, None, option_map, Result, Ok, Err, refl, sym, ap, subst, ◌∙◌, arith, length-append}
use Rattle.std.specs.Prelude.{ℤ, pos, negsuc}
use Rattle.std.specs.Int.{w32, cast_signed, from_be_bytes}
use Rattle.std.proofs.lemmas.Bool.{cases_lt, le-ltb, lt-ltb, ne_eqb}
use Rattle.std.proofs.Math.Seq.{take-append-add}
use Rattle.std.proofs.lemmas.List.{take-append-le, take_all, length-take}
use Rattle.wire_base.specs.declared.reason.Reason.{Reason}
use Rattle.wire_base.specs.declared.limits.TheConstants.{MAX_BODY}
use Rattle.message_framing.specs.declared.reading.TheConstants.{MAX_HEADER}
use Rattle.message_framing.specs.declared.framing.Framing.{Framing}
use Rattle.message_framing.specs.declared.framing.Framing.TheVariants as framing
use Rattle.message_framing.specs.declared.front.Front.{Front}
use Rattle.message_framing.specs.declared.front.Front.TheVariants.{Whole, Short, Broken}
use Rattle.message_framing.specs.Lines.{header_lines}
use Rattle.message_framing.specs.Header.{header_of}
use Rattle.message_framing.specs.Front.{behind, by_header, length_in, IsWithin, header_front, length_front, front}
use Rattle.message_framing.proofs.Parts.{header_stays, part_within}
use Rattle.message_framing.proofs.HeaderLemmas.{IsLength, header_is_length, header_is_part}

-- ---- bodies behind a head

behind_within : (len start : ℕ) (r : Result ℕ (ℕ × Reason)) → start ≤ len → IsLength start r → IsWithin len (behind len start r)
behind_within len start (Ok size) le h = elim (cases_lt len (start + size)) [
  | inl lt ↦ rw (lt-ltb len (start + size) lt) tt
  | inr ge ↦ rw (le-ltb len (start + size) ge) (h.0, ge)
]
behind_within len start (Err broken) le h = omega arith

behind_stays : (len more start : ℕ) (r : Result ℕ (ℕ × Reason)) (a b : ℕ) → len ≤ more → behind len start r ≡ Whole a b → behind more start r ≡ Whole a b
behind_stays len more start (Ok size) a b le e = elim (cases_lt len (start + size)) [
  | inl lt ↦ absurd (let short = lt-ltb len (start + size) lt in cc)
  | inr ge ↦ let whole = le-ltb len (start + size) ge in rw (le-ltb more (start + size) (omega arith)) (cc)
]
behind_stays len more start (Err broken) a b le e = absurd cc

behind_broken : (len more start : ℕ) (r : Result ℕ (ℕ × Reason)) (offset : ℕ) (reason : Reason) → behind len start r ≡ Broken offset reason → behind more start r ≡ Broken offset reason
behind_broken len more start (Ok size) offset reason e = elim (cases_lt len (start + size)) [
  | inl lt ↦ absurd (let short = lt-ltb len (start + size) lt in cc)
  | inr ge ↦ absurd (let whole = le-ltb len (start + size) ge in cc)
]
behind_broken len more start (Err broken) offset reason e = e

whole_start : (a b c d : ℕ) → Whole a b ≡ Whole c d → a + b ≡ c + d
whole_start a b c d e = let p : a ≡ c = cc in let q : b ≡ d = cc in omega (arith, p, q)

behind_cut : (len more start : ℕ) (r : Result ℕ (ℕ × Reason)) (a b : ℕ) → behind more start r ≡ Whole a b → len < a + b → behind len start r ≡ Short
behind_cut len more start (Ok size) a b e lt = elim (cases_lt more (start + size)) [
  | inl short ↦ absurd (let f = lt-ltb more (start + size) short in cc)
  | inr ge ↦
      let f = le-ltb more (start + size) ge in
      let same : Whole start size ≡ Whole a b = cc in
      rw (lt-ltb len (start + size) (omega (arith, whole_start start size a b same))) refl
]
behind_cut len more start (Err broken) a b e lt = absurd cc

-- ---- headers

abbrev Lines : Type 0
Lines = List (List ℕ)

-- a header that was found stays, and where none was found among as many bytes as a header may have, none is
pub record Goes (len : ℕ) (old new : Option Lines) : Type 0 where
  pub some : (lines : Lines) → old ≡ Some lines → new ≡ Some lines
  pub none : old ≡ None → MAX_HEADER ≤ len → new ≡ None

too_few : (n : ℕ) → n < MAX_HEADER → MAX_HEADER ≤ n → ⊥
too_few n lt le = omega arith

goes : (b more : List ℕ) → Goes (length b) (header_lines (take MAX_HEADER b)) (header_lines (take MAX_HEADER (b ++ more)))
goes b more = elim (cases_lt (length b) MAX_HEADER) [
  | inl lt ↦
      let all : take MAX_HEADER b ≡ b = take_all MAX_HEADER b (omega arith) in
      let count : MAX_HEADER ≡ length b + (MAX_HEADER - length b) = omega arith in
      let both : take MAX_HEADER (b ++ more) ≡ b ++ take (MAX_HEADER - length b) more = ap (λ k. take k (b ++ more)) count ∙ take-append-add b more (MAX_HEADER - length b) in
      record {
        some = λ lines e. ap header_lines both ∙ header_stays b (take (MAX_HEADER - length b) more) lines (sym (ap header_lines all) ∙ e);
        none = λ _ le. absurd (too_few (length b) lt le);
      }
  | inr ge ↦
      let same : take MAX_HEADER (b ++ more) ≡ take MAX_HEADER b = take-append-le MAX_HEADER b more ge in
      record { some = λ lines e. ap header_lines same ∙ e; none = λ e le. ap header_lines same ∙ e }
]

header_whole : (len more : ℕ) (old new : Option Lines) (a b : ℕ) → len ≤ more → Goes len old new → by_header len (option_map header_of old) ≡ Whole a b → by_header more (option_map header_of new) ≡ Whole a b
header_whole len more (Some lines) new a b le g e = rw (g.some lines refl) (behind_stays len more (header_of lines).size (header_of lines).length a b le e)
header_whole len more None new a b le g e = elim (cases_lt len MAX_HEADER) [
  | inl lt ↦ absurd (let f = lt-ltb len MAX_HEADER lt in cc)
  | inr ge ↦ absurd (let f = le-ltb len MAX_HEADER ge in cc)
]

header_broken : (len more : ℕ) (old new : Option Lines) (offset : ℕ) (reason : Reason) → len ≤ more → Goes len old new → by_header len (option_map header_of old) ≡ Broken offset reason → by_header more (option_map header_of new) ≡ Broken offset reason
header_broken len more (Some lines) new offset reason le g e = rw (g.some lines refl) (behind_broken len more (header_of lines).size (header_of lines).length offset reason e)
header_broken len more None new offset reason le g e = elim (cases_lt len MAX_HEADER) [
  | inl lt ↦ absurd (let f = lt-ltb len MAX_HEADER lt in cc)
  | inr ge ↦ let f = le-ltb len MAX_HEADER ge in rw (g.none refl ge, le-ltb more MAX_HEADER (omega arith)) (cc)
]

no_whole : (len a b : ℕ) → by_header len None ≡ Whole a b → ⊥
no_whole len a b e = elim (cases_lt len MAX_HEADER) [
  | inl lt ↦ let f = lt-ltb len MAX_HEADER lt in cc
  | inr ge ↦ let f = le-ltb len MAX_HEADER ge in cc
]

header_cut : (len more : ℕ) (old new : Option Lines) (a b : ℕ) → Goes len old new → by_header more (option_map header_of new) ≡ Whole a b → len < a + b → by_header len (option_map header_of old) ≡ Short
header_cut len more (Some lines) new a b g e lt =
    behind_cut len more (header_of lines).size (header_of lines).length a b (sym (ap (λ o. by_header more (option_map header_of o)) (g.some lines refl)) ∙ e) lt
header_cut len more None new a b g e lt = elim (cases_lt len MAX_HEADER) [
  | inl small ↦ rw (lt-ltb len MAX_HEADER small) refl
  | inr ge ↦ absurd (no_whole more a b (sym (ap (λ o. by_header more (option_map header_of o)) (g.none refl ge)) ∙ e))
]

header_size_within : (b : List ℕ) (lines : Lines) → header_lines (take MAX_HEADER b) ≡ Some lines → (header_of lines).size ≤ length b
header_size_within b lines e = omega (arith, header_is_part lines, part_within (take MAX_HEADER b) lines e, length-take MAX_HEADER b)

found_within : (b : List ℕ) (o : Option Lines) → header_lines (take MAX_HEADER b) ≡ o → IsWithin (length b) (by_header (length b) (option_map header_of o))
found_within b (Some lines) e = behind_within (length b) (header_of lines).size (header_of lines).length (header_size_within b lines e) (header_is_length lines)
found_within b None e = elim (cases_lt (length b) MAX_HEADER) [
  | inl lt ↦ rw (lt-ltb (length b) MAX_HEADER lt) tt
  | inr ge ↦ rw (le-ltb (length b) MAX_HEADER ge) (omega arith)
]

header_within : (b : List ℕ) → IsWithin (length b) (header_front b)
header_within b = found_within b (header_lines (take MAX_HEADER b)) refl

-- ---- lengths of four bytes

abbrev number_of : List ℕ → ℤ
number_of b = cast_signed w32 (from_be_bytes w32 (take 4 b))

abbrev by_length : ℕ → Result ℕ (ℕ × Reason) → Front
by_length len r = cond (ltb len 4) Short (behind len 4 r)

length_is : (z : ℤ) → IsLength 4 (length_in z)
length_is (pos zero) = omega arith
length_is (pos (suc n)) = elim (cases_lt MAX_BODY (suc n)) [
  | inl lt ↦ rw (lt-ltb MAX_BODY (suc n) lt) (omega arith)
  | inr le ↦ rw (le-ltb MAX_BODY (suc n) le, ne_eqb (suc n) 0 (λ e. omega arith)) (omega arith, le)
]
length_is (negsuc n) = omega arith

length_within : (b : List ℕ) → IsWithin (length b) (length_front b)
length_within b = elim (cases_lt (length b) 4) [
  | inl lt ↦ rw (lt-ltb (length b) 4 lt) tt
  | inr ge ↦ rw (le-ltb (length b) 4 ge) (behind_within (length b) 4 (length_in (number_of b)) ge (length_is (number_of b)))
]

length_whole : (len more : ℕ) (r : Result ℕ (ℕ × Reason)) (a b : ℕ) → 4 ≤ len → len ≤ more → by_length len r ≡ Whole a b → by_length more r ≡ Whole a b
length_whole len more r a b ge le e = rw (le-ltb more 4 (omega arith)) (behind_stays len more 4 r a b le (sym (ap (λ t. cond t Short (behind len 4 r)) (le-ltb len 4 ge)) ∙ e))

length_broken : (len more : ℕ) (r : Result ℕ (ℕ × Reason)) (offset : ℕ) (reason : Reason) → 4 ≤ len → len ≤ more → by_length len r ≡ Broken offset reason → by_length more r ≡ Broken offset reason
length_broken len more r offset reason ge le e = rw (le-ltb more 4 (omega arith)) (behind_broken len more 4 r offset reason (sym (ap (λ t. cond t Short (behind len 4 r)) (le-ltb len 4 ge)) ∙ e))

length_cut : (len more : ℕ) (r : Result ℕ (ℕ × Reason)) (a b : ℕ) → 4 ≤ len → len ≤ more → by_length more r ≡ Whole a b → len < a + b → by_length len r ≡ Short
length_cut len more r a b ge le e lt = rw (le-ltb len 4 ge) (behind_cut len more 4 r a b (sym (ap (λ t. cond t Short (behind more 4 r)) (le-ltb more 4 (omega arith))) ∙ e) lt)

few : (len : ℕ) (r : Result ℕ (ℕ × Reason)) → len < 4 → by_length len r ≡ Short
few len r lt = rw (lt-ltb len 4 lt) refl

pub header_is_within : (b : List ℕ) (front : Front) → front ≡ header_front b → IsWithin (length b) front
header_is_within b front e = subst (IsWithin (length b)) (sym e) (header_within b)

pub length_is_within : (b : List ℕ) (front : Front) → front ≡ length_front b → IsWithin (length b) front
length_is_within b front e = subst (IsWithin (length b)) (sym e) (length_within b)

pub front_within : (f : Framing) (b : List ℕ) → IsWithin (length b) (front f b)
unfolding front
front_within framing.Header b = header_within b
front_within framing.Length b = length_within b

pub whole_within : (f : Framing) (b : List ℕ) (start size : ℕ) → front f b ≡ Whole start size → (0 < size) × (start + size ≤ length b)
whole_within f b start size e = subst (IsWithin (length b)) e (front_within f b)

-- ---- both

same_number : (b more : List ℕ) → 4 ≤ length b → number_of (b ++ more) ≡ number_of b
same_number b more le = ap (λ (s : List ℕ). cast_signed w32 (from_be_bytes w32 s)) (take-append-le 4 b more le)

longer : (b more : List ℕ) → length b ≤ length (b ++ more)
longer b more = omega (arith, length-append b more)

not_whole : (a b : ℕ) → Short ≡ Whole a b → ⊥
not_whole a b e = cc

not_broken : (offset : ℕ) (reason : Reason) → Short ≡ Broken offset reason → ⊥
not_broken offset reason e = cc

pub front_stays : (f : Framing) (b more : List ℕ) (start size : ℕ) → front f b ≡ Whole start size → front f (b ++ more) ≡ Whole start size
unfolding front
front_stays framing.Header b more start size e = header_whole (length b) (length (b ++ more)) _ _ start size (longer b more) (goes b more) e
front_stays framing.Length b more start size e = elim (cases_lt (length b) 4) [
  | inl lt ↦ absurd (not_whole start size (sym (few (length b) (length_in (number_of b)) lt) ∙ e))
  | inr ge ↦
      ap (λ z. by_length (length (b ++ more)) (length_in z)) (same_number b more ge)
      ∙ length_whole (length b) (length (b ++ more)) (length_in (number_of b)) start size ge (longer b more) e
]

pub broken_stays : (f : Framing) (b more : List ℕ) (offset : ℕ) (reason : Reason) → front f b ≡ Broken offset reason → front f (b ++ more) ≡ Broken offset reason
unfolding front
broken_stays framing.Header b more offset reason e = header_broken (length b) (length (b ++ more)) _ _ offset reason (longer b more) (goes b more) e
broken_stays framing.Length b more offset reason e = elim (cases_lt (length b) 4) [
  | inl lt ↦ absurd (not_broken offset reason (sym (few (length b) (length_in (number_of b)) lt) ∙ e))
  | inr ge ↦
      ap (λ z. by_length (length (b ++ more)) (length_in z)) (same_number b more ge)
      ∙ length_broken (length b) (length (b ++ more)) (length_in (number_of b)) offset reason ge (longer b more) e
]

-- fewer bytes than a whole message are too few to tell
pub front_cut : (f : Framing) (b more : List ℕ) (start size : ℕ) → front f (b ++ more) ≡ Whole start size → length b < start + size → front f b ≡ Short
unfolding front
front_cut framing.Header b more start size e lt = header_cut (length b) (length (b ++ more)) _ _ start size (goes b more) e lt
front_cut framing.Length b more start size e lt = elim (cases_lt (length b) 4) [
  | inl small ↦ few (length b) (length_in (number_of b)) small
  | inr ge ↦
      length_cut (length b) (length (b ++ more)) (length_in (number_of b)) start size ge (longer b more)
      (sym (ap (λ z. by_length (length (b ++ more)) (length_in z)) (same_number b more ge)) ∙ e) lt
]
