-- Header parts, by their lines.
use Rattle.std.proofs.Common.{◌≡◌, ℕ, ◌≤◌, ◌⊎◌, inl, inr, ◌&&◌, ◌||◌, ◌==◌, Bool, true, false, List, [], ◌∷◌, ◌++◌, length, drop, Option, Some, None, option_map, refl, sym, ap, ◌∙◌, subst, append_assoc, arith, length-append}
use Rattle.std.proofs.lemmas.Bool.{and_parts, or_parts, or_from, eqb-true}
use Rattle.message_framing.specs.Lines.{line_end, is_end, onto, lines_of, before_empty, header_lines, IsLine, AreLines, part, HasPart}
use Rattle.message_framing.proofs.LineLemmas.{lines_of-end, lines_of-other, no_lines}

pub tested : (b : Bool) → (b ≡ true) ⊎ (b ≡ false)
tested true = inl refl
tested false = inr refl

-- whether a line end stands anywhere
abbrev pub has_end : List ℕ → Bool
has_end [] = false
has_end (b ∷ bytes) = is_end (b ∷ bytes) || has_end bytes

-- bytes whose first line is this
pub record StartsWith (bytes line : List ℕ) (lines : List (List ℕ)) : Type 0 where
  pub rest : List ℕ
  pub parts : bytes ≡ line ++ (line_end ++ rest)
  pub later : lines ≡ lines_of rest
  pub one : has_end line ≡ false

head_is : (a b : List ℕ) (xs ys : List (List ℕ)) → a ∷ xs ≡ b ∷ ys → a ≡ b
head_is a b xs ys e = cc

tail_is : (a b : List ℕ) (xs ys : List (List ℕ)) → a ∷ xs ≡ b ∷ ys → xs ≡ ys
tail_is a b xs ys e = cc

end_is : (bytes : List ℕ) → is_end bytes ≡ true → bytes ≡ line_end ++ drop 2 bytes
end_is [] e = absurd cc
end_is (b ∷ []) e = absurd cc
end_is (b ∷ c ∷ bytes) e =
    let p = and_parts (b == 13) (c == 10) e in
    rw (eqb-true b 13 p.0, eqb-true c 10 p.1) refl

at_end : (bytes line : List ℕ) (lines : List (List ℕ)) → is_end bytes ≡ true → lines_of bytes ≡ line ∷ lines → StartsWith bytes line lines
at_end bytes line lines t e =
    let same : [] ∷ lines_of (drop 2 bytes) ≡ line ∷ lines = sym (lines_of-end bytes t) ∙ e in
    let empty : [] ≡ line = head_is [] line (lines_of (drop 2 bytes)) lines same in
    record {
      rest = drop 2 bytes;
      parts = subst (λ l. bytes ≡ l ++ (line_end ++ drop 2 bytes)) empty (end_is bytes t);
      later = sym (tail_is [] line (lines_of (drop 2 bytes)) lines same);
      one = subst (λ l. has_end l ≡ false) empty refl;
    }

one_more : (b : ℕ) (bytes l rest : List ℕ) → is_end (b ∷ bytes) ≡ false → bytes ≡ l ++ (line_end ++ rest) → has_end l ≡ false → has_end (b ∷ l) ≡ false
one_more b bytes [] rest other parts one = refl
one_more b bytes (c ∷ l) rest other parts one =
    let this : is_end (b ∷ c ∷ l) ≡ false = sym (ap (λ (s : List ℕ). is_end (b ∷ s)) parts) ∙ other in
    or_from (is_end (b ∷ c ∷ l)) (has_end (c ∷ l)) this one

passed : (b : ℕ) (bytes line : List ℕ) (lines ls : List (List ℕ)) → lines_of bytes ≡ ls → is_end (b ∷ bytes) ≡ false → onto b ls ≡ line ∷ lines
    → ((l : List ℕ) (ms : List (List ℕ)) → lines_of bytes ≡ l ∷ ms → StartsWith bytes l ms) → StartsWith (b ∷ bytes) line lines
passed b bytes line lines [] same other e ih = absurd cc
passed b bytes line lines (l ∷ ms) same other e ih =
    let s = ih l ms same in
    let line_is : b ∷ l ≡ line = head_is (b ∷ l) line ms lines e in
    record {
      rest = s.rest;
      parts = subst (λ x. b ∷ bytes ≡ x ++ (line_end ++ s.rest)) line_is (ap (λ (xs : List ℕ). b ∷ xs) s.parts);
      later = sym (tail_is (b ∷ l) line ms lines e) ∙ s.later;
      one = subst (λ x. has_end x ≡ false) line_is (one_more b bytes l s.rest other s.parts s.one);
    }

pub first_of_lines : (bytes line : List ℕ) (lines : List (List ℕ)) → lines_of bytes ≡ line ∷ lines → StartsWith bytes line lines
first_of_lines [] line lines e = absurd (let none = no_lines in cc)
first_of_lines (b ∷ bytes) line lines e = elim (tested (is_end (b ∷ bytes))) [
  | inl t ↦ at_end (b ∷ bytes) line lines t e
  | inr other ↦ passed b bytes line lines (lines_of bytes) refl other (sym (lines_of-other b bytes other) ∙ e) (first_of_lines bytes)
]

and_false : (b : Bool) → (b && false) ≡ false
and_false true = refl
and_false false = refl

no_end_here : (b : ℕ) (line rest : List ℕ) → has_end (b ∷ line) ≡ false → is_end (b ∷ (line ++ (line_end ++ rest))) ≡ false
no_end_here b [] rest e = and_false (b == 13)
no_end_here b (c ∷ line) rest e = (or_parts (is_end (b ∷ c ∷ line)) (has_end (c ∷ line)) e).0

-- a line before a line end is the first
pub lines_of-line : (line rest : List ℕ) → has_end line ≡ false → lines_of (line ++ (line_end ++ rest)) ≡ line ∷ lines_of rest
lines_of-line [] rest e = lines_of-end (line_end ++ rest) refl
lines_of-line (b ∷ line) rest e =
    lines_of-other b (line ++ (line_end ++ rest)) (no_end_here b line rest e)
    ∙ ap (onto b) (lines_of-line line rest (or_parts (is_end (b ∷ line)) (has_end line) e).1)

-- ---- lines that have no line end in them

none_between : (line before after : List ℕ) → has_end line ≡ false → line ≡ before ++ (line_end ++ after) → ⊥
none_between line [] after e parts = let there : has_end line ≡ true = ap has_end parts in cc
none_between [] (b ∷ before) after e parts = cc
none_between (c ∷ line) (b ∷ before) after e parts =
    let tail : line ≡ before ++ (line_end ++ after) = cc in
    none_between line before after (or_parts (is_end (c ∷ line)) (has_end line) e).1 tail

pub record HasEnd (line : List ℕ) : Type 0 where
  pub front : List ℕ
  pub back : List ℕ
  pub parts : line ≡ front ++ (line_end ++ back)

end_found : (line : List ℕ) → has_end line ≡ true → HasEnd line
end_found [] e = absurd cc
end_found (b ∷ line) e = elim (tested (is_end (b ∷ line))) [
  | inl t ↦ record { front = []; back = drop 2 (b ∷ line); parts = end_is (b ∷ line) t }
  | inr other ↦
      let later : has_end line ≡ true = sym (ap (λ t. t || has_end line) other) ∙ e in
      let h = end_found line later in
      record { front = b ∷ h.front; back = h.back; parts = ap (λ (xs : List ℕ). b ∷ xs) h.parts }
]

pub is_line : (b : ℕ) (line : List ℕ) → has_end (b ∷ line) ≡ false → IsLine (b ∷ line)
is_line b line e = record { some = λ empty. cc; one = λ before after parts. none_between (b ∷ line) before after e parts }

pub no_end : (line : List ℕ) → IsLine line → has_end line ≡ false
no_end line h = elim (tested (has_end line)) [
  | inl t ↦ absurd (let w = end_found line t in h.one w.front w.back w.parts)
  | inr e ↦ e
]

-- ---- header parts

part-append : (line : List ℕ) (lines : List (List ℕ)) (rest : List ℕ) → part (line ∷ lines) ++ rest ≡ line ++ (line_end ++ (part lines ++ rest))
part-append line lines rest = append_assoc line (line_end ++ part lines) rest

some_is : (a b : List (List ℕ)) → Some a ≡ Some b → a ≡ b
some_is a b e = cc

behind_line : (b : ℕ) (line bytes : List ℕ) (ls header : List (List ℕ)) (found : Option (List (List ℕ))) → (s : StartsWith bytes (b ∷ line) ls) → option_map (λ h. (b ∷ line) ∷ h) found ≡ Some header
    → ((h : List (List ℕ)) → found ≡ Some h → HasPart s.rest h) → HasPart bytes header
behind_line b line bytes ls header None s e ih = absurd cc
behind_line b line bytes ls header (Some h) s e ih =
    let p = ih h refl in
    let is : (b ∷ line) ∷ h ≡ header = some_is ((b ∷ line) ∷ h) header e in
    subst (HasPart bytes) is (record {
      rest = p.rest;
      are = (is_line b line s.one, p.are);
      parts = s.parts ∙ ap (λ (x : List ℕ). (b ∷ line) ++ (line_end ++ x)) p.parts ∙ sym (part-append (b ∷ line) h p.rest);
    })

has_part : (ls header : List (List ℕ)) (bytes : List ℕ) → lines_of bytes ≡ ls → before_empty ls ≡ Some header → HasPart bytes header
has_part [] header bytes e f = absurd cc
has_part ([] ∷ ls) header bytes e f =
    let s = first_of_lines bytes [] ls e in
    subst (HasPart bytes) (some_is [] header f) (record { rest = s.rest; are = tt; parts = s.parts })
has_part ((b ∷ line) ∷ ls) header bytes e f =
    let s = first_of_lines bytes (b ∷ line) ls e in
    behind_line b line bytes ls header (before_empty ls) s f (λ h g. has_part ls h s.rest (sym s.later) g)

-- a header's lines are those of a header part in front
pub header_has_part : (bytes : List ℕ) (header : List (List ℕ)) → header_lines bytes ≡ Some header → HasPart bytes header
header_has_part bytes header e = has_part (lines_of bytes) header bytes refl e

-- and a header part in front gives its lines
pub part_is_header : (lines : List (List ℕ)) (rest : List ℕ) → AreLines lines → header_lines (part lines ++ rest) ≡ Some lines
part_is_header [] rest h = ap before_empty (lines_of-end (line_end ++ rest) refl)
part_is_header ([] ∷ lines) rest h = absurd (h.0.some refl)
part_is_header ((b ∷ line) ∷ lines) rest h =
    ap header_lines (part-append (b ∷ line) lines rest)
    ∙ ap before_empty (lines_of-line (b ∷ line) (part lines ++ rest) (no_end (b ∷ line) h.0))
    ∙ ap (option_map (λ header. (b ∷ line) ∷ header)) (part_is_header lines rest h.1)

-- what follows doesn't change a header
pub header_stays : (bytes more : List ℕ) (header : List (List ℕ)) → header_lines bytes ≡ Some header → header_lines (bytes ++ more) ≡ Some header
header_stays bytes more header e =
    let p = header_has_part bytes header e in
    ap header_lines (ap (λ (s : List ℕ). s ++ more) p.parts ∙ append_assoc (part header) p.rest more) ∙ part_is_header header (p.rest ++ more) p.are

pub part_within : (bytes : List ℕ) (header : List (List ℕ)) → header_lines bytes ≡ Some header → length (part header) ≤ length bytes
part_within bytes header e =
    let p = header_has_part bytes header e in
    omega (arith, ap length p.parts, length-append (part header) p.rest)

pub part_has_header : (bytes : List ℕ) (lines : List (List ℕ)) → HasPart bytes lines → header_lines bytes ≡ Some lines
part_has_header bytes lines p = ap header_lines p.parts ∙ part_is_header lines p.rest p.are
