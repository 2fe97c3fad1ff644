-- The line of a step, written and read.
use Rattle.std.proofs.Common.{◌≡◌, ℕ, ◌+◌, ◌<◌, ◌≤◌, Bool, true, false, cond, ltb, leb, List, refl, Result, Ok, Err, sym, ap, ◌∙◌, arith}
use Rattle.std.specs.List.{list_all, join_with_byte}
use Rattle.std.specs.Str.{is_utf8}
use Rattle.std.proofs.lemmas.Bool.{and_parts}
use Rattle.std.proofs.lemmas.Bool.Decides.{nat_tests}
use Rattle.std.proofs.lemmas.List.Splits.{join_with_byte-slice_split}
use Rattle.std.proofs.lemmas.Str.{IsUtf8-from_is_utf8}
use Rattle.text_words.specs.Bytes.{space}
use Rattle.text_words.specs.Reading.{words_of}
use Rattle.text_words.specs.Written.{is_line_text, stands_in_line}
use Rattle.text_words.proofs.ByteTests.{and_true}
use Rattle.text_words.proofs.Joined.{joined-text, joined-words, line-words}
use Rattle.script.specs.declared.line_step.LineStep.{LineStep}
use Rattle.script.specs.declared.reason.ScriptReason.{ScriptReason}
use Rattle.script.specs.declared.reason.ScriptReason.TheVariants as reason
use Rattle.script.specs.Limits.{most_steps, most_filled}
use Rattle.script.specs.Lines.{TextLine, whole_line}
use Rattle.script.specs.Spelling.{StepLine, meant_by, line_text, line_words, is_spellable, is_worded, filled_by}
use Rattle.script.specs.Steps.{on_ok, text_in, filling, step_in, step_after}
use Rattle.script.proofs.TextLemmas.{text_in-ended}
use Rattle.script.proofs.LineTexts.{lacks_feed}
use Rattle.script.proofs.StepWords.{worded, line_words-texts, step_in-good, Meant, unknown, bad_word, malformed, means, meant}

pub line_text-text : (line : StepLine) → is_worded line ≡ true → is_line_text (line_text line) ≡ true
line_text-text line h = joined-text (line_words line) (line_words-texts line h)

line_text-words : (line : StepLine) → is_worded line ≡ true → words_of (line_text line) ≡ line_words line
line_text-words line h = joined-words _ _ (line_words-texts line h)

text_in-line : (line : StepLine) → is_worded line ≡ true → text_in (whole_line (line_text line)) ≡ Ok (line_text line)
text_in-line line h =
    text_in-ended (whole_line (line_text line)) (IsUtf8-from_is_utf8 (line_text line) (and_parts (is_utf8 (line_text line)) (list_all stands_in_line (line_text line)) (line_text-text line h)).0) refl

-- the words of a text that is a line
pub words_of_text : (text : List ℕ) (line : StepLine) → is_worded line ≡ true → line_text line ≡ text → words_of text ≡ line_words line
words_of_text text line h same = ap words_of (sym same) ∙ line_text-words line h

-- a line with these words
pub line_of_words : (text : List ℕ) (line : StepLine) → words_of text ≡ line_words line → line_text line ≡ text
line_of_words text line e = sym (sym (join_with_byte-slice_split space text) ∙ ap (join_with_byte space) e)

filling-ok : (filled : ℕ) (l : LineStep) → filled + l.filled ≤ most_filled → filling filled l ≡ Ok l
unfolding filling
filling-ok filled l h =
    let room : leb (filled + l.filled) most_filled ≡ true = grind (arith, nat_tests) in
    rw room refl

-- the line of a step that may stand there
pub step_after-line : (steps filled : ℕ) (line : StepLine) → is_spellable line ≡ true → steps < most_steps → filled + filled_by line ≤ most_filled
    → step_after steps filled (whole_line (line_text line)) ≡ Ok (meant_by line)
unfolding step_after
step_after-line steps filled line h few within =
    let room : ltb steps most_steps ≡ true = grind (arith, nat_tests) in
    let w = worded line h in
    let read : step_in (words_of (line_text line)) ≡ Ok (meant_by line) = ap step_in (line_text-words line w) ∙ step_in-good line h in
    rw (text_in-line line w, room, read) (filling-ok filled (meant_by line) within)

pub on_ok-ok : {X Y : Type 0} (r : Result X ScriptReason) (f : X → Result Y ScriptReason) (y : Y) → on_ok r f ≡ Ok y → (x : X) × (r ≡ Ok x) × (f x ≡ Ok y)
on_ok-ok (Ok x) f y h = (x, refl, h)
on_ok-ok (Err e) f y h = cc h

-- a whole line
pub record IsWhole (line : TextLine) (text : List ℕ) : Type 0 where
  pub utf8 : is_utf8 text ≡ true
  pub end : line.has_end ≡ true
  pub same : line.text ≡ text

whole : (b e : Bool) (t text : List ℕ) → cond b (cond e (Ok t) (Err reason.NoLineEnd)) (Err reason.NotUtf8) ≡ Ok text → (b ≡ true) × (e ≡ true) × (t ≡ text)
whole true true t text h = (refl, refl, cc)
whole true false t text h = cc h
whole false e t text h = cc h

pub text_in-ok : (line : TextLine) (text : List ℕ) → text_in line ≡ Ok text → IsWhole line text
unfolding text_in
text_in-ok line text h =
    let p = whole (is_utf8 line.text) line.has_end line.text text h in
    let same = p.2 in
    record { utf8 = rw same at (p.0); end = p.1; same = same }

room_parts : {X : Type 0} (b : Bool) (r : Result X ScriptReason) (full : ScriptReason) (x : X) → cond b r (Err full) ≡ Ok x → (b ≡ true) × (r ≡ Ok x)
room_parts true r full x h = (refl, h)
room_parts false r full x h = cc h

-- the step of a line that was read
pub record IsStepLine (steps filled : ℕ) (line : TextLine) (l : LineStep) : Type 0 where
  pub spelled : StepLine
  pub end : line.has_end ≡ true
  pub text : line.text ≡ line_text spelled
  pub spellable : is_spellable spelled ≡ true
  pub means : meant_by spelled ≡ l
  pub few : steps < most_steps
  pub within : filled + l.filled ≤ most_filled

below : (steps : ℕ) → ltb steps most_steps ≡ true → steps < most_steps
below steps h = grind (arith, nat_tests)

filling_parts : (filled : ℕ) (l m : LineStep) → filling filled l ≡ Ok m → (l ≡ m) × (filled + l.filled ≤ most_filled)
unfolding filling
filling_parts filled l m h =
    let p = room_parts (leb (filled + l.filled) most_filled) (Ok l) reason.BadWord m h in
    let fits = p.0 in
    let given : Ok l ≡ Ok m = p.1 in
    (cc, grind (arith, nat_tests))

-- words that mean a step are those of its line
pub record IsRead (words : List (List ℕ)) (l : LineStep) : Type 0 where
  pub line : StepLine
  pub is : words ≡ line_words line
  pub spellable : is_spellable line ≡ true
  pub means : meant_by line ≡ l

is_read : (words : List (List ℕ)) (l : LineStep) → step_in words ≡ Ok l → Meant words → IsRead words l
is_read words l h (unknown b e) = cc (sym e ∙ h)
is_read words l h (bad_word b e) = cc (sym e ∙ h)
is_read words l h (malformed line is w bad e) = cc (sym e ∙ h)
is_read words l h (means line is spelled e) =
    let same : Ok (meant_by line) ≡ Ok l = sym e ∙ h in
    record { line = line; is = is; spellable = spelled; means = cc }

pub step_after-ok : (steps filled : ℕ) (line : TextLine) (l : LineStep) → lacks_feed line ≡ true → step_after steps filled line ≡ Ok l → IsStepLine steps filled line l
unfolding step_after
step_after-ok steps filled line l lacks h =
    let t = on_ok-ok (text_in line) _ l h in
    let w = text_in-ok line t.0 t.1 in
    let room = room_parts (ltb steps most_steps) _ reason.TooManySteps l t.2 in
    let r = on_ok-ok (step_in (words_of t.0)) (filling filled) l room.1 in
    let f = filling_parts filled r.0 l r.2 in
    let same : r.0 ≡ l = f.0 in
    let lacks_text : list_all stands_in_line t.0 ≡ true = rw (w.same) at lacks in
    let texts = line-words t.0 (and_true (is_utf8 t.0) (list_all stands_in_line t.0) w.utf8 lacks_text) in
    let read = is_read (words_of t.0) r.0 r.1 (meant (words_of t.0) texts) in
    record {
      spelled = read.line;
      end = w.end;
      text = w.same ∙ (sym (join_with_byte-slice_split space t.0) ∙ ap (join_with_byte space) read.is);
      spellable = read.spellable;
      means = read.means ∙ same;
      few = below steps room.0;
      within = rw same at (f.1);
    }
