-- Lines, one after another.
use Rattle.std.proofs.Common.{◌≡◌, ℕ, ◌+◌, ◌-◌, ◌<◌, ◌≤◌, true, false, List, [], ◌∷◌, ◌++◌, length, get_or, take, drop, refl, sym, ap, ◌∙◌, append_assoc, arith, length-append, length-drop}
use Rattle.std.proofs.lemmas.List.{append-nil, take_more, take_all, drop_more, drop_all, drop-drop, length-take-le}
use Rattle.message_framing.specs.Lines.{is_end, onto, lines_of}

-- bytes in front of the first line
abbrev pub onto_all : List ℕ → List (List ℕ) → List (List ℕ)
onto_all bytes [] = []
onto_all bytes (line ∷ lines) = (bytes ++ line) ∷ lines

pub onto_none : (lines : List (List ℕ)) → onto_all [] lines ≡ lines
onto_none [] = refl
onto_none (line ∷ lines) = refl

onto_all-onto : (bytes : List ℕ) (b : ℕ) (lines : List (List ℕ)) → onto_all bytes (onto b lines) ≡ onto_all (bytes ++ b ∷ []) lines
onto_all-onto bytes b [] = refl
onto_all-onto bytes b (line ∷ lines) = ap (λ (l : List ℕ). l ∷ lines) (sym (append_assoc bytes (b ∷ []) line))

pub lines_of-end : (bytes : List ℕ) → is_end bytes ≡ true → lines_of bytes ≡ [] ∷ lines_of (drop 2 bytes)
unfolding lines_of
lines_of-end [] e = absurd cc
lines_of-end (b ∷ []) e = absurd cc
lines_of-end (b ∷ c ∷ bytes) e = rw e refl

pub end_within : (bytes : List ℕ) → is_end bytes ≡ true → 2 ≤ length bytes
end_within [] e = absurd cc
end_within (b ∷ []) e = absurd cc
end_within (b ∷ c ∷ bytes) e = omega arith

pub lines_of-other : (b : ℕ) (bytes : List ℕ) → is_end (b ∷ bytes) ≡ false → lines_of (b ∷ bytes) ≡ onto b (lines_of bytes)
unfolding lines_of
lines_of-other b [] e = refl
lines_of-other b (c ∷ bytes) e = rw e refl

pub no_lines : lines_of [] ≡ []
unfolding lines_of
no_lines = refl

-- the lines of bytes, of which so many in front hold no line end
abbrev pub Passed : List ℕ → ℕ → Type 0
Passed bytes i = lines_of bytes ≡ onto_all (take i bytes) (lines_of (drop i bytes))

-- what a slice from an index on holds
abbrev pub from : ℕ → List ℕ → List ℕ
from i bytes = take (length bytes - i) (drop i bytes)

from_is : (i : ℕ) (bytes : List ℕ) → from i bytes ≡ drop i bytes
from_is i bytes = take_all (length bytes - i) (drop i bytes) (omega (arith, length-drop i bytes))

-- a byte at which no line end stands is one of the line
pub lines-more : (bytes : List ℕ) (i : ℕ) → i < length bytes → Passed bytes i → is_end (from i bytes) ≡ false → Passed bytes (i + 1)
lines-more bytes i lt h e =
    let b = get_or bytes i 0 in
    let more = drop (i + 1) bytes in
    let here : drop i bytes ≡ b ∷ more = drop_more bytes i 0 lt in
    let other : is_end (b ∷ more) ≡ false = sym (ap is_end (from_is i bytes ∙ here)) ∙ e in
    h ∙ ap (λ (s : List ℕ). onto_all (take i bytes) (lines_of s)) here
    ∙ ap (onto_all (take i bytes)) (lines_of-other b more other)
    ∙ onto_all-onto (take i bytes) b (lines_of more)
    ∙ ap (λ (s : List ℕ). onto_all s (lines_of more)) (sym (take_more bytes i 0 lt))

-- at a line end the first line is whole
pub lines-found : (bytes : List ℕ) (i : ℕ) → i < length bytes → Passed bytes i → is_end (from i bytes) ≡ true → lines_of bytes ≡ take i bytes ∷ lines_of (from (i + 2) bytes)
lines-found bytes i lt h e =
    let ends : is_end (drop i bytes) ≡ true = sym (ap is_end (from_is i bytes)) ∙ e in
    h ∙ ap (onto_all (take i bytes)) (lines_of-end (drop i bytes) ends)
    ∙ ap (λ (s : List ℕ). s ∷ lines_of (drop 2 (drop i bytes))) (append-nil (take i bytes))
    ∙ ap (λ (s : List ℕ). take i bytes ∷ lines_of s) (drop-drop 2 i bytes ∙ sym (from_is (i + 2) bytes))

pub end_fits : (bytes : List ℕ) (i : ℕ) → is_end (from i bytes) ≡ true → i + 2 ≤ length bytes
end_fits bytes i e =
    let ends : is_end (drop i bytes) ≡ true = sym (ap is_end (from_is i bytes)) ∙ e in
    omega (arith, end_within (drop i bytes) ends, length-drop i bytes)

pub line_sizes : (bytes : List ℕ) (i : ℕ) → i + 2 ≤ length bytes → length bytes ≡ length (take i bytes) + 2 + length (from (i + 2) bytes)
line_sizes bytes i h = rw (from_is (i + 2) bytes) (omega (arith, length-drop (i + 2) bytes, length-take-le i bytes (omega arith)))

pub lines-none : (bytes : List ℕ) (i : ℕ) → length bytes ≤ i → Passed bytes i → lines_of bytes ≡ []
lines-none bytes i h passed = passed ∙ ap (λ (s : List ℕ). onto_all (take i bytes) (lines_of s)) (drop_all i bytes h) ∙ ap (onto_all (take i bytes)) no_lines

pub ruleset firsts = (onto_none, end_fits)

-- all bytes are as many as may be
pub all_taken : (n : ℕ) (bytes : List ℕ) → length bytes ≤ n → bytes ≡ take n bytes
all_taken n bytes h = sym (take_all n bytes h)

-- ---- the lines of a header

pub ruleset headers = (length-append)
