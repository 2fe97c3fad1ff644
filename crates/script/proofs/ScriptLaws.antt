-- Scripts and their texts.
use Rattle.std.proofs.Common.{◌≡◌, ◌≢◌, ℕ, ◌+◌, ◌≤◌, ◌⊎◌, inl, inr, true, List, [], ◌∷◌, ◌++◌, length, length-append, map, refl, Err, sym, ap, ap₂, subst, ◌∙◌, arith, append_assoc}
use Rattle.std.specs.Prelude.{◌↔◌}
use Rattle.std.specs.List.{list_all}
use Rattle.std.proofs.lemmas.Bool.{and_parts}
use Rattle.std.proofs.lemmas.List.{append-nil, length-map, map-append}
use Rattle.std.proofs.lemmas.List.Folds.{list_all-append}
use Rattle.mux_run.specs.Run.{Terms}
use Rattle.endpoint_run.specs.declared.steps.Step.{Step}
use Rattle.script.specs.declared.reason.ScriptReason.{ScriptReason}
use Rattle.script.specs.declared.reason.ScriptReason.TheVariants as reason
use Rattle.text_words.specs.Written.{is_line_text}
use Rattle.text_words.specs.Reading.{words_of}
use Rattle.text_words.proofs.ByteTests.{and_true}
use Rattle.text_words.proofs.Joined.{line-words}
use Rattle.script.specs.Spelling.{StepLine, AreTerms, AreScripted, is_spellable, is_worded, step_of, line_text, steps_of, filled_in, script_lines, script_text, head_lines, head_text}
use Rattle.script.specs.Lines.{TextLine, lines_of, whole_line}
use Rattle.script.specs.Steps.{step_in, begins_step}
use Rattle.script.specs.Rules.{IsHeadRefused, IsStepRefused, IsWorded}
use Rattle.script.specs.Found.{reads, breaks, steps_from, script_from, script_in, IsScriptOf}
use Rattle.script.proofs.LineTexts.{lacks_feed, lines_of-lack, lines_of-lines, text_of-lines}
use Rattle.script.proofs.StepLines.{line_text-text}
use Rattle.script.proofs.StepWords.{worded, Meant, meant}
use Rattle.script.proofs.StepRules.{has_bad_word, gives_bad_word, has_bad_json, gives_bad_json, breaks_step, step_refused}
use Rattle.script.proofs.HeadLines.{head_lines-texts}
use Rattle.script.proofs.HeadRules.{refused_within, refused_once, refused_headless}
use Rattle.script.proofs.Heads.{head_goes_on, head_cases}
use Rattle.script.proofs.Scripts.{whole_lines, from_lines-lines, from_lines-reads, from_lines-breaks}

none_scripted : AreScripted []
none_scripted = record { spellable = refl; few = omega arith; within = omega arith }

step_texts : (lines : List StepLine) → list_all is_spellable lines ≡ true → list_all is_line_text (map line_text lines) ≡ true
step_texts [] h = refl
step_texts (line ∷ lines) h =
    let p = and_parts (is_spellable line) (list_all is_spellable lines) h in
    and_true (is_line_text (line_text line)) (list_all is_line_text (map line_text lines)) (line_text-text line (worded line p.0)) (step_texts lines p.1)

script_lines-texts : (terms : Terms) (lines : List StepLine) → AreTerms terms → list_all is_spellable lines ≡ true → list_all is_line_text (script_lines terms lines) ≡ true
script_lines-texts terms lines h spelled = rw (list_all-append is_line_text (head_lines terms) (map line_text lines), head_lines-texts terms h, step_texts lines spelled) refl

-- the lines of steps behind those of a head
behind_head : (terms : Terms) (lines : List StepLine) (rest : List TextLine) → map whole_line (script_lines terms lines) ++ rest ≡ map whole_line (head_lines terms) ++ (whole_lines lines ++ rest)
behind_head terms lines rest = ap (λ ls. ls ++ rest) (map-append whole_line (head_lines terms) (map line_text lines)) ∙ append_assoc (map whole_line (head_lines terms)) (whole_lines lines) rest

length-script_lines : (terms : Terms) (lines : List StepLine) → length (script_lines terms lines) ≡ length (head_lines terms) + length lines
length-script_lines terms lines = length-append (head_lines terms) (map line_text lines) ∙ ap (λ n. length (head_lines terms) + n) (length-map lines line_text)

-- behind the lines of a script the next line decides
lines_go_on : (terms : Terms) (lines : List StepLine) (rest : List TextLine) → AreTerms terms → AreScripted lines
    → script_from (map whole_line (script_lines terms lines) ++ rest) ≡ steps_from terms (steps_of lines) (filled_in lines) (length lines + length (head_lines terms) + 1) rest
lines_go_on terms lines rest h scripted =
    let first = length (head_lines terms) + 1 in
    let place : first + length lines ≡ length lines + length (head_lines terms) + 1 = omega arith in
    ap script_from (behind_head terms lines rest)
    ∙ (head_goes_on terms (whole_lines lines ++ rest) h
    ∙ (from_lines-lines terms [] lines first rest scripted ∙ ap (λ number. steps_from terms (steps_of lines) (filled_in lines) number rest) place))

-- behind the text of a script the next line decides
pub goes_on : (terms : Terms) (lines : List StepLine) (rest : List ℕ) → AreTerms terms → AreScripted lines
    → script_in (script_text terms lines ++ rest) ≡ steps_from terms (steps_of lines) (filled_in lines) (length lines + length (head_lines terms) + 1) (lines_of rest)
goes_on terms lines rest h scripted =
    ap script_from (lines_of-lines (script_lines terms lines) rest (script_lines-texts terms lines h scripted.spellable)) ∙ lines_go_on terms lines (lines_of rest) h scripted

-- what is written is read
pub written : (terms : Terms) (lines : List StepLine) → AreTerms terms → AreScripted lines → script_in (script_text terms lines) ≡ reads terms (steps_of lines)
written terms lines h scripted = sym (ap script_in (append-nil (script_text terms lines))) ∙ goes_on terms lines [] h scripted

lacks_behind : (texts : List (List ℕ)) (rest : List TextLine) → list_all lacks_feed (map whole_line texts ++ rest) ≡ true → list_all lacks_feed rest ≡ true
lacks_behind texts rest h =
    (and_parts (list_all lacks_feed (map whole_line texts)) (list_all lacks_feed rest) (sym (list_all-append lacks_feed (map whole_line texts) rest) ∙ h)).1

no_reads : (terms : Terms) (steps : List Step) (number : ℕ) (fault : ScriptReason) → breaks number fault ≢ reads terms steps
no_reads terms steps number fault h = cc h

-- what is read is written so
pub is_read : (bytes : List ℕ) (terms : Terms) (steps : List Step) → script_in bytes ≡ reads terms steps → IsScriptOf bytes terms steps
is_read bytes terms steps h = elim (head_cases (lines_of bytes)) [
  | inr none ↦ absurd (no_reads terms steps none.number none.fault (sym none.is ∙ h))
  | inl head ↦
      let all = sym (ap script_from head.is ∙ head_goes_on head.terms head.rest head.terms_are) ∙ h in
      let lacks = lacks_behind (head_lines head.terms) head.rest (rw head.is at (lines_of-lack bytes)) in
      let read = from_lines-reads head.terms [] (length (head_lines head.terms) + 1) head.rest terms steps none_scripted lacks all in
      let lines : lines_of bytes ≡ map whole_line (script_lines head.terms read.more) =
      head.is ∙ (ap (λ rest. map whole_line (head_lines head.terms) ++ rest) read.is ∙ sym (map-append whole_line (head_lines head.terms) (map line_text read.more))) in (
        read.more,
        read.steps_are,
        record {
          terms_are = subst AreTerms read.terms_are head.terms_are;
          scripted = read.scripted;
          text = text_of-lines (script_lines head.terms read.more) bytes lines ∙ ap (λ t. script_text t read.more) read.terms_are;
        },
      )
]

-- the first broken line is one of a head's, or what stands before it is a script
pub is_refused : (bytes : List ℕ) (number : ℕ) (why : ScriptReason) → script_in bytes ≡ breaks number why → IsHeadRefused (lines_of bytes) number why ⊎ IsStepRefused (lines_of bytes) number why
is_refused bytes number why h = elim (head_cases (lines_of bytes)) [
  | inr none ↦
      let same : breaks none.number none.fault ≡ breaks number why = sym none.is ∙ h in
      let line : none.number ≡ number = cc in
      let reason : none.fault ≡ why = cc in
      let P : ℕ → ScriptReason → Type 0 = λ n r. IsHeadRefused (lines_of bytes) n r in
      inl (subst (P number) reason (subst (λ n. P n none.fault) line none.refused))
  | inl head ↦
      let all = sym (ap script_from head.is ∙ head_goes_on head.terms head.rest head.terms_are) ∙ h in
      let lacks = lacks_behind (head_lines head.terms) head.rest (rw head.is at (lines_of-lack bytes)) in
      let broken = from_lines-breaks head.terms [] (length (head_lines head.terms) + 1) head.rest number why none_scripted lacks all in
      let place = broken.place in
      let counted = length-script_lines head.terms broken.more in
      let lacks_line = lacks_behind (map line_text broken.more) (broken.line ∷ broken.later) (rw (broken.is) at lacks) in
      inr (record {
        terms = head.terms;
        before = broken.more;
        line = broken.line;
        rest = broken.later;
        terms_are = head.terms_are;
        scripted = broken.scripted;
        is = head.is ∙ (ap (λ rest. map whole_line (head_lines head.terms) ++ rest) broken.is ∙ sym (behind_head head.terms broken.more (broken.line ∷ broken.later)));
        place = omega arith;
        breaks_rule = breaks_step why broken.line broken.more (and_parts (lacks_feed broken.line) (list_all lacks_feed broken.later) lacks_line).0 broken.scripted.few broken.broken;
      })
]

refuses_head : (lines : List TextLine) (number : ℕ) (why : ScriptReason) → IsHeadRefused lines number why → script_from lines ≡ breaks number why
refuses_head lines number why h = elim (head_cases lines) [
  | inl head ↦ absurd (refused_headless lines number why h head.terms head.rest head.terms_are head.is)
  | inr none ↦ let same = refused_once lines none.number number none.fault why none.refused h in none.is ∙ ap₂ breaks same.0 same.1
]

refuses_step : (bytes : List ℕ) (number : ℕ) (why : ScriptReason) → IsStepRefused (lines_of bytes) number why → script_in bytes ≡ breaks number why
refuses_step bytes number why h =
    let lacks = lacks_behind (script_lines h.terms h.before) (h.line ∷ h.rest) (rw (h.is) at (lines_of-lack bytes)) in
    let line = and_parts (lacks_feed h.line) (list_all lacks_feed h.rest) lacks in
    let broken = step_refused why h.line h.before line.0 h.scripted.within h.breaks_rule in
    let steps = length-map h.before step_of in
    let counted = length-script_lines h.terms h.before in
    let place : length h.before + length (head_lines h.terms) + 1 ≡ number = omega (arith, h.place) in
    ap script_from h.is ∙ (lines_go_on h.terms h.before (h.line ∷ h.rest) h.terms_are h.scripted ∙ rw (steps, broken) (ap (λ n. breaks n why) place))

-- and such a line is refused
pub refuses : (bytes : List ℕ) (number : ℕ) (why : ScriptReason) → IsHeadRefused (lines_of bytes) number why ⊎ IsStepRefused (lines_of bytes) number why → script_in bytes ≡ breaks number why
refuses bytes number why (inl head) = refuses_head (lines_of bytes) number why head
refuses bytes number why (inr step) = refuses_step bytes number why step

-- a text that is refused in its head begins with none
pub headless : (bytes : List ℕ) (number : ℕ) (why : ScriptReason) → IsHeadRefused (lines_of bytes) number why → (number ≤ 4) × ((terms : Terms) (rest : List ℕ) → AreTerms terms → bytes ≢ head_text terms ++ rest)
headless bytes number why h = (
  refused_within (lines_of bytes) number why h,
  λ terms rest are same.
      refused_headless (lines_of bytes) number why h terms (lines_of rest) are (ap lines_of same ∙ lines_of-lines (head_lines terms) rest (head_lines-texts terms are)),
)

-- ---- why a line means nothing

words_meant : (text : List ℕ) → is_line_text text ≡ true → Meant (words_of text)
words_meant text is_line = meant (words_of text) (line-words text is_line)

-- a line has a bad word exactly if it begins with a step word and no step with such words has its text
pub bad_word : (text : List ℕ) → is_line_text text ≡ true → (step_in (words_of text) ≡ Err reason.BadWord)
    ↔ ((begins_step (words_of text) ≡ true) × ((line : StepLine) → is_worded line ≡ true → line_text line ≢ text))
bad_word text is_line = (has_bad_word text (words_meant text is_line), λ p. gives_bad_word text p.0 p.1 (words_meant text is_line))

-- a line is refused for its rest exactly if its words are of their forms and it is the text of no step
pub bad_json : (text : List ℕ) → is_line_text text ≡ true → (step_in (words_of text) ≡ Err reason.BadJson)
    ↔ (IsWorded text × ((line : StepLine) → is_spellable line ≡ true → line_text line ≢ text))
bad_json text is_line = (has_bad_json text (words_meant text is_line), λ p. gives_bad_json text p.0 p.1)
