-- The rule that the line of a step breaks.
use Rattle.std.proofs.Common.{◌≡◌, ◌≢◌, ℕ, ◌+◌, ◌<◌, ◌≤◌, true, false, leb, ltb, inl, inr, List, length, refl, Ok, Err, sym, ap, subst, ◌∙◌, arith}
use Rattle.std.specs.List.{list_all}
use Rattle.std.specs.Str.{is_utf8}
use Rattle.std.proofs.lemmas.Bool.Decides.{nat_tests}
use Rattle.text_words.specs.Reading.{words_of}
use Rattle.text_words.specs.Written.{stands_in_line}
use Rattle.text_words.proofs.ByteTests.{tested, and_true}
use Rattle.text_words.proofs.Joined.{line-words}
use Rattle.script.specs.declared.line_step.LineStep.{LineStep}
use Rattle.script.specs.declared.reason.ScriptReason.{ScriptReason}
use Rattle.script.specs.declared.reason.ScriptReason.TheVariants as reason
use Rattle.script.specs.Limits.{most_steps, most_filled}
use Rattle.script.specs.Lines.{TextLine}
use Rattle.script.specs.Spelling.{StepLine, meant_by, line_text, line_words, is_spellable, is_worded, filled_by, filled_in}
use Rattle.script.specs.Steps.{on_ok, text_in, filling, step_in, step_after, begins_step}
use Rattle.script.specs.Rules.{MayBeStep, IsWorded, BreaksStepRule}
use Rattle.script.proofs.HeadLines.{err_same}
use Rattle.script.proofs.LineTexts.{lacks_feed}
use Rattle.script.proofs.StepLines.{words_of_text, line_of_words}
use Rattle.script.proofs.StepWords.{worded, Meant, unknown, bad_word, malformed, means, meant, line_begins, no_bad_word, no_bad_json, bad_json, same_step, step_in-other, malformed_fills_nothing}

-- ---- why a text means nothing

-- what a text means that is a line
text_means : (text : List ℕ) (line : StepLine) → is_worded line ≡ true → line_text line ≡ text → step_in (words_of text) ≡ step_in (line_words line)
text_means text line h same = ap step_in (words_of_text text line h same)

no_line_of : (text : List ℕ) → step_in (words_of text) ≡ Err reason.BadWord → (line : StepLine) → is_worded line ≡ true → line_text line ≢ text
no_line_of text e line h same = no_bad_word line h (sym (text_means text line h same) ∙ e)

no_spellable_line_of : (text : List ℕ) → step_in (words_of text) ≡ Err reason.BadJson → (line : StepLine) → is_spellable line ≡ true → line_text line ≢ text
no_spellable_line_of text e line h same = no_bad_json line h (sym (text_means text line (worded line h) same) ∙ e)

pub has_bad_word : (text : List ℕ) → Meant (words_of text) → step_in (words_of text) ≡ Err reason.BadWord
    → (begins_step (words_of text) ≡ true) × ((line : StepLine) → is_worded line ≡ true → line_text line ≢ text)
has_bad_word text (unknown b e) h = cc (sym e ∙ h)
has_bad_word text (bad_word b e) h = (b, no_line_of text e)
has_bad_word text (malformed line is w bad e) h = cc (sym e ∙ h)
has_bad_word text (means line is spelled e) h = cc (sym e ∙ h)

pub gives_bad_word : (text : List ℕ) → begins_step (words_of text) ≡ true → ((line : StepLine) → is_worded line ≡ true → line_text line ≢ text) → Meant (words_of text)
    → step_in (words_of text) ≡ Err reason.BadWord
gives_bad_word text begins none (unknown b e) = cc (sym b ∙ begins)
gives_bad_word text begins none (bad_word b e) = e
gives_bad_word text begins none (malformed line is w bad e) = absurd (none line w (line_of_words text line is))
gives_bad_word text begins none (means line is spelled e) = absurd (none line (worded line spelled) (line_of_words text line is))

pub has_bad_json : (text : List ℕ) → Meant (words_of text) → step_in (words_of text) ≡ Err reason.BadJson
    → IsWorded text × ((line : StepLine) → is_spellable line ≡ true → line_text line ≢ text)
has_bad_json text (unknown b e) h = cc (sym e ∙ h)
has_bad_json text (bad_word b e) h = cc (sym e ∙ h)
has_bad_json text (malformed line is w bad e) h = ((line, w, line_of_words text line is), no_spellable_line_of text e)
has_bad_json text (means line is spelled e) h = cc (sym e ∙ h)

pub gives_bad_json : (text : List ℕ) → IsWorded text → ((line : StepLine) → is_spellable line ≡ true → line_text line ≢ text) → step_in (words_of text) ≡ Err reason.BadJson
gives_bad_json text p none = text_means text p.0 p.1 p.2 ∙ bad_json p.0 p.1 (λ spelled. none p.0 spelled p.2)

-- ---- the rule of a line

overfilled : (filled : ℕ) (l : LineStep) (why : ScriptReason) → filling filled l ≡ Err why → (why ≡ reason.BadWord) × (most_filled < filled + l.filled)
unfolding filling
overfilled filled l why h = elim (tested (leb (filled + l.filled) most_filled)) [
  | inl room ↦ cc (rw room at h)
  | inr room ↦ (err_same reason.BadWord why _ refl (rw room at h), grind (arith, nat_tests))
]

filling-over : (filled : ℕ) (l : LineStep) → most_filled < filled + l.filled → filling filled l ≡ Err reason.BadWord
unfolding filling
filling-over filled l h =
    let room : leb (filled + l.filled) most_filled ≡ false = grind (arith, nat_tests) in
    rw room refl

-- what the words of a line mean is what its step fills in
same_filled : (text : List ℕ) (l : LineStep) (line : StepLine) → step_in (words_of text) ≡ Ok l → is_worded line ≡ true → line_text line ≡ text → filled_by line ≡ l.filled
same_filled text l line e h same = ap (λ (x : LineStep). x.filled) (same_step line l h (sym (text_means text line h same) ∙ e))

-- the step of a line fills in too much
over_by : (before : List StepLine) (line : TextLine) (spelled : StepLine) → MayBeStep before line → begins_step (words_of line.text) ≡ true
    → step_in (words_of line.text) ≡ Ok (meant_by spelled) → most_filled < filled_in before + filled_by spelled → BreaksStepRule reason.BadWord before line
over_by before line spelled may begins e most = (
  may,
  begins,
  λ step h same.
      let filled = same_filled line.text (meant_by spelled) step e h same in
      omega arith,
)

-- words that mean nothing, or fill in too much
broken_step : (why : ScriptReason) (line : TextLine) (before : List StepLine) → MayBeStep before line → on_ok (step_in (words_of line.text)) (filling (filled_in before)) ≡ Err why
    → Meant (words_of line.text) → BreaksStepRule why before line
broken_step why line before may h (unknown b e) =
    let P : ScriptReason → Type 0 = λ why. BreaksStepRule why before line in
    subst P (sym (err_same reason.UnknownStep why _ refl (rw e at h))) (may, b)
broken_step why line before may h (bad_word b e) =
    let P : ScriptReason → Type 0 = λ why. BreaksStepRule why before line in
    subst P (sym (err_same reason.BadWord why _ refl (rw e at h))) (may, b, λ step w same. absurd (no_line_of line.text e step w same))
broken_step why line before may h (malformed spelled is w bad e) =
    let P : ScriptReason → Type 0 = λ why. BreaksStepRule why before line in
    subst P (sym (err_same reason.BadJson why _ refl (rw e at h))) (may, (spelled, w, line_of_words line.text spelled is), no_spellable_line_of line.text e)
broken_step why line before may h (means spelled is good e) =
    let over = overfilled (filled_in before) (meant_by spelled) why (rw e at h) in
    let P : ScriptReason → Type 0 = λ why. BreaksStepRule why before line in
    subst P (sym over.0) (over_by before line spelled may (line_begins (words_of line.text) spelled is) e over.1)

-- the words of a text without a line feed
line_meant : (line : TextLine) → lacks_feed line ≡ true → is_utf8 line.text ≡ true → Meant (words_of line.text)
line_meant line lacks u = meant (words_of line.text) (line-words line.text (and_true (is_utf8 line.text) (list_all stands_in_line line.text) u lacks))

-- a line that isn't read breaks the rule of its reason
pub breaks_step : (why : ScriptReason) (line : TextLine) (before : List StepLine) → lacks_feed line ≡ true → length before ≤ most_steps → step_after (length before) (filled_in before) line ≡ Err why
    → BreaksStepRule why before line
unfolding step_after text_in
breaks_step why line before lacks few h =
    let P : ScriptReason → Type 0 = λ why. BreaksStepRule why before line in
    elim (tested (is_utf8 line.text)) [
      | inr u ↦ subst P (sym (err_same reason.NotUtf8 why _ refl (rw u at h))) u
      | inl u ↦ elim (tested line.has_end) [
        | inr e ↦ subst P (sym (err_same reason.NoLineEnd why _ refl (rw (u, e) at h))) (u, e)
        | inl e ↦ elim (tested (ltb (length before) most_steps)) [
          | inr full ↦ subst P (sym (err_same reason.TooManySteps why _ refl (rw (u, e, full) at h))) ((u, e), grind (arith, nat_tests))
          | inl room ↦ broken_step why line before ((u, e), grind (arith, nat_tests)) (rw (u, e, room) at h) (line_meant line lacks u)
        ]
      ]
    ]

-- behind these lines the words of a line decide
words_decide : (line : TextLine) (before : List StepLine) → MayBeStep before line → step_after (length before) (filled_in before) line ≡ on_ok (step_in (words_of line.text)) (filling (filled_in before))
unfolding step_after text_in
words_decide line before may =
    let few = may.1 in
    let room : ltb (length before) most_steps ≡ true = grind (arith, nat_tests) in
    rw (may.0.0, may.0.1, room) refl

-- a line that fills in nothing isn't too much
not_over : (before : List StepLine) (line : StepLine) → filled_in before ≤ most_filled → filled_by line ≡ 0 → most_filled < filled_in before + filled_by line → ⊥
not_over before line within none over = omega arith

bad_step : (line : TextLine) (before : List StepLine) → filled_in before ≤ most_filled → ((step : StepLine) → is_worded step ≡ true → line_text step ≡ line.text → most_filled < filled_in before + filled_by step)
    → begins_step (words_of line.text) ≡ true → Meant (words_of line.text) → on_ok (step_in (words_of line.text)) (filling (filled_in before)) ≡ Err reason.BadWord
bad_step line before within over begins (unknown b e) = cc (sym b ∙ begins)
bad_step line before within over begins (bad_word b e) = rw e refl
bad_step line before within over begins (malformed spelled is w bad e) =
    absurd (not_over before spelled within (malformed_fills_nothing spelled bad) (over spelled w (line_of_words line.text spelled is)))
bad_step line before within over begins (means spelled is good e) = rw e (filling-over (filled_in before) (meant_by spelled) (over spelled (worded spelled good) (line_of_words line.text spelled is)))

-- and such a line isn't read
pub step_refused : (why : ScriptReason) (line : TextLine) (before : List StepLine) → lacks_feed line ≡ true → filled_in before ≤ most_filled → BreaksStepRule why before line
    → step_after (length before) (filled_in before) line ≡ Err why
unfolding step_after text_in
step_refused reason.NotUtf8 line before lacks within b = rw b refl
step_refused reason.NoLineEnd line before lacks within b = rw (b.0, b.1) refl
step_refused reason.TooManySteps line before lacks within b =
    let count = b.1 in
    let full : ltb (length before) most_steps ≡ false = grind (arith, nat_tests) in
    rw (b.0.0, b.0.1, full) refl
step_refused reason.UnknownStep line before lacks within b = words_decide line before b.0 ∙ rw (step_in-other (words_of line.text) b.1) refl
step_refused reason.BadWord line before lacks within b = words_decide line before b.0 ∙ bad_step line before within b.2 b.1 (line_meant line lacks b.0.0.0)
step_refused reason.BadJson line before lacks within b = words_decide line before b.0 ∙ rw (gives_bad_json line.text b.1 b.2) refl
step_refused reason.BadHead line before lacks within b = absurd b
