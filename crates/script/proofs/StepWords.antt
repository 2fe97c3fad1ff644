-- The words of a line, written and read.
use Rattle.std.proofs.Common.{◌≡◌, ◌≢◌, ℕ, Bool, true, false, cond, ◌⊎◌, inl, inr, List, [], ◌∷◌, ◌++◌, refl, Option, Some, None, Result, Ok, Err, sym, ap, ◌∙◌}
use Rattle.std.specs.List.{list_all, list_any}
use Rattle.std.specs.Str.{bytes_eq}
use Rattle.std.proofs.lemmas.Bool.{and_parts}
use Rattle.std.proofs.lemmas.List.Folds.{list_all-append}
use Rattle.text_words.specs.Forms.{FormValues, read_front, write_forms, are_values}
use Rattle.text_words.specs.Written.{is_text_word}
use Rattle.text_words.proofs.ByteTests.{tested, same_from_bytes_eq, and_true}
use Rattle.text_words.proofs.Texts.{is_visible_word, visible_word}
use Rattle.text_words.proofs.FormLaws.{read_front-written, read_front-some, write_forms-texts}
use Rattle.script.specs.declared.line_step.LineStep.{LineStep}
use Rattle.script.specs.declared.reason.ScriptReason.{ScriptReason}
use Rattle.script.specs.declared.reason.ScriptReason.TheVariants as reason
use Rattle.script.specs.declared.step_word.StepWord.{StepWord}
use Rattle.script.specs.declared.step_word.StepWord.TheVariants as word
use Rattle.script.specs.Rests.{RestValue, write_rest, is_there, is_of_form, is_rest}
use Rattle.script.specs.Table.{word_text, forms_of, rest_of, meaning, step_words}
use Rattle.script.specs.Spelling.{StepLine, meant_by, filled_by, line_words, is_spellable, is_worded}
use Rattle.script.specs.Steps.{word_among, step_word_in, step_with, step_from, step_by, step_in, begins_step}
use Rattle.script.proofs.RestTexts.{write_rest-texts, read_rest-written, IsThere, rest_or_bad_word}

-- ---- step words

visible : (w : StepWord) → is_visible_word (word_text w) ≡ true
visible word.Offer = refl
visible word.Accept = refl
visible word.Write = refl
visible word.Fill = refl
visible word.Read = refl
visible word.Complete = refl
visible word.Terminate = refl
visible word.Attach = refl
visible word.Request = refl
visible word.Notify = refl
visible word.Result = refl
visible word.Object = refl
visible word.Sequence = refl
visible word.Fault = refl
visible word.Cancel = refl
visible word.Report = refl
visible word.Reports = refl
visible word.Next = refl
visible word.Abort = refl
visible word.Invoke = refl
visible word.Release = refl
visible word.Outcome = refl
visible word.Forget = refl
visible word.Deliver = refl
visible word.End = refl

step_word_in-text : (w : StepWord) → step_word_in (word_text w) ≡ Some w
unfolding step_word_in
step_word_in-text word.Offer = refl
step_word_in-text word.Accept = refl
step_word_in-text word.Write = refl
step_word_in-text word.Fill = refl
step_word_in-text word.Read = refl
step_word_in-text word.Complete = refl
step_word_in-text word.Terminate = refl
step_word_in-text word.Attach = refl
step_word_in-text word.Request = refl
step_word_in-text word.Notify = refl
step_word_in-text word.Result = refl
step_word_in-text word.Object = refl
step_word_in-text word.Sequence = refl
step_word_in-text word.Fault = refl
step_word_in-text word.Cancel = refl
step_word_in-text word.Report = refl
step_word_in-text word.Reports = refl
step_word_in-text word.Next = refl
step_word_in-text word.Abort = refl
step_word_in-text word.Invoke = refl
step_word_in-text word.Release = refl
step_word_in-text word.Outcome = refl
step_word_in-text word.Forget = refl
step_word_in-text word.Deliver = refl
step_word_in-text word.End = refl

-- a text among those of step words is that of one
begun_by : (ws : List StepWord) (text : List ℕ) → list_any (λ v. bytes_eq text (word_text v)) ws ≡ true → (w : StepWord) × (word_among ws text ≡ Some w) × (text ≡ word_text w)
begun_by [] text h = cc h
begun_by (v ∷ ws) text h = elim (tested (bytes_eq text (word_text v))) [
  | inl e ↦ (v, rw e refl, same_from_bytes_eq text (word_text v) e)
  | inr e ↦ let p = begun_by ws text (rw e at h) in (p.0, rw e p.1, p.2)
]

none_among : (ws : List StepWord) (text : List ℕ) → list_any (λ w. bytes_eq text (word_text w)) ws ≡ false → word_among ws text ≡ None
none_among [] text h = refl
none_among (w ∷ ws) text h = elim (tested (bytes_eq text (word_text w))) [
  | inl e ↦ cc (rw e at h)
  | inr e ↦ rw e (none_among ws text (rw e at h))
]

begins_by : (ws : List StepWord) (text : List ℕ) (w : StepWord) → word_among ws text ≡ Some w → list_any (λ v. bytes_eq text (word_text v)) ws ≡ true
begins_by [] text w h = cc h
begins_by (v ∷ ws) text w h = elim (tested (bytes_eq text (word_text v))) [
  | inl e ↦ rw e refl
  | inr e ↦ rw e (begins_by ws text w (rw e at h))
]

-- ---- what is written is read

-- the words of a line are of their forms, and so is its rest
pub worded : (line : StepLine) → is_spellable line ≡ true → is_worded line ≡ true
worded line h =
    let p = and_parts (are_values (forms_of line.word) line.values) (is_rest (rest_of line.word) line.rest) h in
    let q = and_parts (is_there (rest_of line.word) line.rest) (is_of_form (rest_of line.word) line.rest) p.1 in
    and_true (are_values (forms_of line.word) line.values) (is_there (rest_of line.word) line.rest) p.0 q.0

well_formed : (line : StepLine) → is_spellable line ≡ true → is_of_form (rest_of line.word) line.rest ≡ true
well_formed line h =
    let p = and_parts (are_values (forms_of line.word) line.values) (is_rest (rest_of line.word) line.rest) h in
    (and_parts (is_there (rest_of line.word) line.rest) (is_of_form (rest_of line.word) line.rest) p.1).1

spellable : (line : StepLine) → is_worded line ≡ true → is_of_form (rest_of line.word) line.rest ≡ true → is_spellable line ≡ true
spellable line h good =
    let p = and_parts (are_values (forms_of line.word) line.values) (is_there (rest_of line.word) line.rest) h in
    and_true (are_values (forms_of line.word) line.values) (is_rest (rest_of line.word) line.rest) p.0
    (and_true (is_there (rest_of line.word) line.rest) (is_of_form (rest_of line.word) line.rest) p.1 good)

pub line_words-texts : (line : StepLine) → is_worded line ≡ true → list_all is_text_word (line_words line) ≡ true
line_words-texts line h =
    let p = and_parts (are_values (forms_of line.word) line.values) (is_there (rest_of line.word) line.rest) h in
    let front = write_forms (forms_of line.word) line.values in
    let rest = write_rest (rest_of line.word) line.rest in
    let texts : list_all is_text_word (front ++ rest) ≡ true =
    list_all-append is_text_word front rest ∙ and_true (list_all is_text_word front) (list_all is_text_word rest) (write_forms-texts (forms_of line.word) line.values p.0) (write_rest-texts (rest_of line.word) line.rest p.1) in
    and_true (is_text_word (word_text line.word)) (list_all is_text_word (front ++ rest)) (visible_word (word_text line.word) (visible line.word)) texts

-- what the words of a line mean
abbrev meant_if : StepLine → Bool → Result LineStep ScriptReason
meant_if line good = step_with line.word line.values (cond good (Ok line.rest) (Err reason.BadJson))

step_in-words : (line : StepLine) → is_worded line ≡ true → step_in (line_words line) ≡ meant_if line (is_of_form (rest_of line.word) line.rest)
unfolding step_in step_by
step_in-words line h =
    let p = and_parts (are_values (forms_of line.word) line.values) (is_there (rest_of line.word) line.rest) h in
    rw (step_word_in-text line.word, read_front-written (forms_of line.word) line.values (write_rest (rest_of line.word) line.rest) p.0, read_rest-written (rest_of line.word) line.rest) refl

-- those of a line whose rest is of its form
pub step_in-good : (line : StepLine) → is_spellable line ≡ true → step_in (line_words line) ≡ Ok (meant_by line)
step_in-good line h = step_in-words line (worded line h) ∙ ap (meant_if line) (well_formed line h)

-- and of one whose rest isn't
step_in-malformed : (line : StepLine) → is_worded line ≡ true → is_of_form (rest_of line.word) line.rest ≡ false → step_in (line_words line) ≡ Err reason.BadJson
step_in-malformed line h bad = step_in-words line h ∙ ap (meant_if line) bad

-- ---- what is read is written so

-- the words are those of a line whose words are of their forms, whatever its rest is
record IsLine (words : List (List ℕ)) : Type 0 where
  pub line : StepLine
  pub is : words ≡ line_words line
  pub worded : is_worded line ≡ true

line_from : (w : StepWord) (xs : FormValues (forms_of w)) (words left : List (List ℕ)) → words ≡ write_forms (forms_of w) xs ++ left → are_values (forms_of w) xs ≡ true → IsThere (rest_of w) left
    → IsLine (word_text w ∷ words)
line_from w xs words left is good there = record {
  line = record { word = w; values = xs; rest = there.rest };
  is = ap (λ ws. word_text w ∷ ws) (is ∙ ap (λ ws. write_forms (forms_of w) xs ++ ws) there.is);
  worded = and_true (are_values (forms_of w) xs) (is_there (rest_of w) there.rest) good there.there;
}

-- behind the words of the forms stands the rest of a line, or a bad word
line_behind : (w : StepWord) (words : List (List ℕ)) (o : Option (FormValues (forms_of w) × List (List ℕ))) → list_all is_text_word words ≡ true → read_front (forms_of w) words ≡ o
    → (step_from w o ≡ Err reason.BadWord) ⊎ IsLine (word_text w ∷ words)
line_behind w words None t e = inl refl
line_behind w words (Some front) t e =
    let read = read_front-some (forms_of w) words front.0 front.1 t e in
    let fronts = write_forms (forms_of w) front.0 in
    let texts = and_parts (list_all is_text_word fronts) (list_all is_text_word front.1) (sym (list_all-append is_text_word fronts front.1) ∙ (ap (list_all is_text_word) (sym read.0) ∙ t)) in
    elim (rest_or_bad_word (rest_of w) front.1 texts.1) [
      | inl bad ↦ inl (rw bad refl)
      | inr there ↦ inr (line_from w front.0 words front.1 read.0 read.1 there)
    ]

line_by : (w : StepWord) (words : List (List ℕ)) → list_all is_text_word words ≡ true → (step_by w words ≡ Err reason.BadWord) ⊎ IsLine (word_text w ∷ words)
unfolding step_by
line_by w words t = line_behind w words (read_front (forms_of w) words) t refl

line_or_bad_word : (words : List (List ℕ)) → list_all is_text_word words ≡ true → begins_step words ≡ true → (step_in words ≡ Err reason.BadWord) ⊎ IsLine words
unfolding step_in step_word_in
line_or_bad_word [] t h = cc h
line_or_bad_word (first ∷ words) t h =
    let p = begun_by step_words first h in
    elim (line_by p.0 words (and_parts (is_text_word first) (list_all is_text_word words) t).1) [
      | inl bad ↦ inl (rw (p.1) bad)
      | inr line ↦ inr (record { line = line.line; is = ap (λ w. w ∷ words) p.2 ∙ line.is; worded = line.worded })
    ]

pub step_in-other : (words : List (List ℕ)) → begins_step words ≡ false → step_in words ≡ Err reason.UnknownStep
unfolding step_in step_word_in
step_in-other [] none = refl
step_in-other (first ∷ words) none = rw (none_among step_words first none) refl

-- the words of a line begin with its step word
begins-words : (line : StepLine) → begins_step (line_words line) ≡ true
unfolding step_word_in
begins-words line = begins_by step_words (word_text line.word) line.word (step_word_in-text line.word)

-- ---- all that words can mean

-- they begin with no step word; a word behind their step word is bad; or they are those of a line: its rest isn't of its form, or they mean its step
pub data Meant (words : List (List ℕ)) : Type 0 where
  unknown : begins_step words ≡ false → step_in words ≡ Err reason.UnknownStep → Meant words
  bad_word : begins_step words ≡ true → step_in words ≡ Err reason.BadWord → Meant words
  malformed : (line : StepLine) → words ≡ line_words line → is_worded line ≡ true → is_of_form (rest_of line.word) line.rest ≡ false → step_in words ≡ Err reason.BadJson → Meant words
  means : (line : StepLine) → words ≡ line_words line → is_spellable line ≡ true → step_in words ≡ Ok (meant_by line) → Meant words

meant_line : (words : List (List ℕ)) → IsLine words → Meant words
meant_line words p = elim (tested (is_of_form (rest_of p.line.word) p.line.rest)) [
  | inr bad ↦ malformed p.line p.is p.worded bad (ap step_in p.is ∙ step_in-malformed p.line p.worded bad)
  | inl good ↦ let spelled = spellable p.line p.worded good in means p.line p.is spelled (ap step_in p.is ∙ step_in-good p.line spelled)
]

pub meant : (words : List (List ℕ)) → list_all is_text_word words ≡ true → Meant words
meant words t = elim (tested (begins_step words)) [
  | inl begins ↦ elim (line_or_bad_word words t begins) [
    | inl bad ↦ bad_word begins bad
    | inr line ↦ meant_line words line
  ]
  | inr none ↦ unknown none (step_in-other words none)
]

-- a line that words are
pub line_begins : (words : List (List ℕ)) (line : StepLine) → words ≡ line_words line → begins_step words ≡ true
line_begins words line e = ap begins_step e ∙ begins-words line

-- what a line with these words can mean: it has no bad word
pub no_bad_word : (line : StepLine) → is_worded line ≡ true → step_in (line_words line) ≢ Err reason.BadWord
no_bad_word line h e = elim (tested (is_of_form (rest_of line.word) line.rest)) [
  | inr bad ↦ let is = step_in-malformed line h bad in cc
  | inl good ↦ let is = step_in-good line (spellable line h good) in cc
]

-- where its rest is of its form, it isn't refused for it
pub no_bad_json : (line : StepLine) → is_spellable line ≡ true → step_in (line_words line) ≢ Err reason.BadJson
no_bad_json line h e = cc (sym (step_in-good line h) ∙ e)

-- where its rest isn't, it is
pub bad_json : (line : StepLine) → is_worded line ≡ true → (is_spellable line ≡ true → ⊥) → step_in (line_words line) ≡ Err reason.BadJson
bad_json line h none = elim (tested (is_of_form (rest_of line.word) line.rest)) [
  | inr bad ↦ step_in-malformed line h bad
  | inl good ↦ absurd (none (spellable line h good))
]

-- a line whose words mean a step means it
pub same_step : (line : StepLine) (l : LineStep) → is_worded line ≡ true → step_in (line_words line) ≡ Ok l → meant_by line ≡ l
same_step line l h e = elim (tested (is_of_form (rest_of line.word) line.rest)) [
  | inr bad ↦ let is = step_in-malformed line h bad in cc
  | inl good ↦
      let same : Ok (meant_by line) ≡ Ok l = sym (step_in-good line (spellable line h good)) ∙ e in
      cc
]

-- ---- what lines fill in that mean nothing

malformed_fills : (w : StepWord) (xs : FormValues (forms_of w)) (x : RestValue (rest_of w)) → is_of_form (rest_of w) x ≡ false → (meaning w xs x).filled ≡ 0
malformed_fills word.Fill xs x h = cc h
malformed_fills w xs x h = refl

pub malformed_fills_nothing : (line : StepLine) → is_of_form (rest_of line.word) line.rest ≡ false → filled_by line ≡ 0
malformed_fills_nothing line h = malformed_fills line.word line.values line.rest h
