-- A text and its lines.
use Rattle.std.specs.Prelude.{if◌then◌else◌}
use Rattle.std.proofs.Common.{◌≡◌, ℕ, Bool, true, false, cond, eqb, eqb-true, not, List, [], ◌∷◌, ◌++◌, map, append_assoc, refl, sym, ap, ◌∙◌, inl, inr}
use Rattle.std.specs.List.{list_all, flat_map}
use Rattle.std.specs.Str.{is_utf8}
use Rattle.std.proofs.lemmas.Bool.{and_parts}
use Rattle.script.specs.Spelling.{ended}
use Rattle.text_words.specs.Bytes.{line_feed_byte}
use Rattle.text_words.specs.Written.{line_feed, stands_in_line, is_line_text}
use Rattle.script.specs.Lines.{TextLine, lines_of, onto_line, whole_line}
use Rattle.text_words.proofs.ByteTests.{tested}

not_false : (b : Bool) → not b ≡ true → b ≡ false
not_false true h = cc
not_false false h = refl

-- a line in front of a text
pub lines_of-front : (text rest : List ℕ) → list_all stands_in_line text ≡ true → lines_of (ended text ++ rest) ≡ record { text = text; has_end = true } ∷ lines_of rest
lines_of-front [] rest h = refl
lines_of-front (b ∷ text) rest h =
    let p = and_parts (stands_in_line b) (list_all stands_in_line text) h in
    rw (not_false (eqb b line_feed_byte) p.0, lines_of-front text rest p.1) refl

-- the bytes of a line
abbrev line_bytes : TextLine → List ℕ
line_bytes line = if line.has_end then line.text ++ line_feed else line.text

onto_bytes : (b : ℕ) (lines : List TextLine) → flat_map line_bytes (onto_line b lines) ≡ b ∷ flat_map line_bytes lines
onto_bytes b [] = refl
onto_bytes b (line ∷ lines) = by_end line.has_end line.text lines
  where
    by_end : (e : Bool) (text : List ℕ) (lines : List TextLine) → cond e (ended (b ∷ text)) (b ∷ text) ++ flat_map line_bytes lines ≡ b ∷ (cond e (ended text) text ++ flat_map line_bytes lines)
    by_end true text lines = refl
    by_end false text lines = refl

-- a text is the bytes of its lines
flat_map-lines_of : (bytes : List ℕ) → flat_map line_bytes (lines_of bytes) ≡ bytes
flat_map-lines_of [] = refl
flat_map-lines_of (b ∷ bytes) = elim (tested (eqb b line_feed_byte)) [
  | inl e ↦ rw (e, eqb-true b line_feed_byte e) (ap (λ bs. line_feed_byte ∷ bs) (flat_map-lines_of bytes))
  | inr e ↦ rw e (onto_bytes b (lines_of bytes) ∙ ap (λ bs. b ∷ bs) (flat_map-lines_of bytes))
]

-- no line feed in a line
abbrev pub lacks_feed : TextLine → Bool
lacks_feed line = list_all stands_in_line line.text

onto_lacks : (b : ℕ) (lines : List TextLine) → eqb b line_feed_byte ≡ false → list_all lacks_feed lines ≡ true → list_all lacks_feed (onto_line b lines) ≡ true
onto_lacks b [] e h = rw e refl
onto_lacks b (line ∷ lines) e h = rw e h

pub lines_of-lack : (bytes : List ℕ) → list_all lacks_feed (lines_of bytes) ≡ true
lines_of-lack [] = refl
lines_of-lack (b ∷ bytes) = elim (tested (eqb b line_feed_byte)) [
  | inl e ↦ rw e (lines_of-lack bytes)
  | inr e ↦ rw e (onto_lacks b (lines_of bytes) e (lines_of-lack bytes))
]

-- lines in front of a text
pub lines_of-lines : (texts : List (List ℕ)) (rest : List ℕ) → list_all is_line_text texts ≡ true → lines_of (flat_map ended texts ++ rest) ≡ map whole_line texts ++ lines_of rest
lines_of-lines [] rest h = refl
lines_of-lines (text ∷ texts) rest h =
    let p = and_parts (is_line_text text) (list_all is_line_text texts) h in
    let l = and_parts (is_utf8 text) (list_all stands_in_line text) p.0 in
    ap lines_of (append_assoc (ended text) (flat_map ended texts) rest)
    ∙ (lines_of-front text (flat_map ended texts ++ rest) l.1 ∙ ap (λ lines. whole_line text ∷ lines) (lines_of-lines texts rest p.1))

flat_map-whole : (texts : List (List ℕ)) → flat_map line_bytes (map whole_line texts) ≡ flat_map ended texts
flat_map-whole [] = refl
flat_map-whole (text ∷ texts) = ap (λ bytes. ended text ++ bytes) (flat_map-whole texts)

-- and the text that they are
pub text_of-lines : (texts : List (List ℕ)) (bytes : List ℕ) → lines_of bytes ≡ map whole_line texts → bytes ≡ flat_map ended texts
text_of-lines texts bytes is = sym (flat_map-lines_of bytes) ∙ (ap (flat_map line_bytes) is ∙ flat_map-whole texts)
