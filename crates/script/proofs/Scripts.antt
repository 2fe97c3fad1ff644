-- The lines of steps, written and read.
use Rattle.std.proofs.Common.{◌≡◌, ℕ, suc, ◌+◌, true, List, [], ◌∷◌, ◌++◌, length, map, refl, Result, Ok, Err, sym, ap, ap₂, subst, ◌∙◌, arith, append_assoc, add-zero}
use Rattle.std.specs.List.{list_all}
use Rattle.std.proofs.lemmas.Bool.{and_parts}
use Rattle.std.proofs.lemmas.List.{append-nil, length-map, map-append}
use Rattle.endpoint_run.specs.declared.steps.Step.{Step}
use Rattle.mux_run.specs.Run.{Terms}
use Rattle.script.specs.declared.line_step.LineStep.{LineStep}
use Rattle.script.specs.declared.reason.ScriptReason.{ScriptReason}
use Rattle.script.specs.Lines.{TextLine, whole_line}
use Rattle.script.specs.Spelling.{StepLine, AreScripted, line_text, step_of, steps_of, filled_by, filled_in}
use Rattle.script.specs.Steps.{step_after}
use Rattle.script.specs.Found.{Found, reads, breaks, behind, steps_from}
use Rattle.script.proofs.Counts.{filled_in-append, MayStand, one_more, next_stands}
use Rattle.script.proofs.LineTexts.{lacks_feed}
use Rattle.script.proofs.StepLines.{step_after-line, IsStepLine, step_after-ok}

-- the lines of a text, from this number on, behind these lines
abbrev pub from_lines : Terms → List StepLine → ℕ → List TextLine → Found
from_lines terms lines number rest = steps_from terms (steps_of lines) (filled_in lines) number rest

-- what the line behind these lines means
abbrev pub after_lines : List StepLine → TextLine → Result LineStep ScriptReason
after_lines lines line = step_after (length lines) (filled_in lines) line

steps_of-push : (lines : List StepLine) (line : StepLine) → steps_of lines ++ step_of line ∷ [] ≡ steps_of (lines ++ line ∷ [])
steps_of-push lines line = sym (map-append step_of lines (line ∷ []))

filled_in-push : (lines : List StepLine) (line : StepLine) → filled_in lines + filled_by line ≡ filled_in (lines ++ line ∷ [])
filled_in-push lines line = let e = filled_in-append lines (line ∷ []) in omega arith

length-steps_of : (lines : List StepLine) → length (steps_of lines) ≡ length lines
length-steps_of lines = length-map lines step_of

-- a line that means a step, and those behind it
from_line : (terms : Terms) (lines : List StepLine) (line : StepLine) (number : ℕ) (rest : List TextLine)
    → steps_from terms (steps_of lines ++ step_of line ∷ []) (filled_in lines + filled_by line) number rest ≡ from_lines terms (lines ++ line ∷ []) number rest
from_line terms lines line number rest = ap₂ (λ steps filled. steps_from terms steps filled number rest) (steps_of-push lines line) (filled_in-push lines line)

-- the first of these lines decides
from_first : (terms : Terms) (lines : List StepLine) (number : ℕ) (first : TextLine) (rest : List TextLine)
    → from_lines terms lines number (first ∷ rest) ≡ behind number (after_lines lines first) (λ l. steps_from terms (steps_of lines ++ l.step ∷ []) (filled_in lines + l.filled) (number + 1) rest)
from_first terms lines number first rest = rw (length-steps_of lines) refl

line_is : (line : TextLine) {text : List ℕ} → line.text ≡ text → line.has_end ≡ true → line ≡ whole_line text
line_is line same end = ap₂ (λ t e. record { text = t; has_end = e }) same end

regroup : (lines more : List StepLine) (line : StepLine) → (lines ++ line ∷ []) ++ more ≡ lines ++ line ∷ more
regroup lines more line = append_assoc lines (line ∷ []) more

-- the lines of steps
abbrev pub whole_lines : List StepLine → List TextLine
whole_lines lines = map whole_line (map line_text lines)

-- behind the lines of steps the lines after them decide
pub from_lines-lines : (terms : Terms) (lines more : List StepLine) (number : ℕ) (rest : List TextLine) → AreScripted (lines ++ more)
    → from_lines terms lines number (whole_lines more ++ rest) ≡ from_lines terms (lines ++ more) (number + length more) rest
from_lines-lines terms lines [] number rest h = rw (append-nil lines, add-zero) refl
from_lines-lines terms lines (line ∷ more) number rest h =
    let stands = next_stands lines more line h in
    let first = step_after-line (length lines) (filled_in lines) line stands.spellable stands.few stands.within in
    let scripted : AreScripted ((lines ++ line ∷ []) ++ more) = rw (regroup lines more line) h in
    let ih = from_lines-lines terms (lines ++ line ∷ []) more (number + 1) rest scripted in
    let place : number + 1 + length more ≡ number + suc (length more) = omega arith in
    from_first terms lines number (whole_line (line_text line)) (whole_lines more ++ rest)
    ∙ (ap (λ r. behind number r (λ l. steps_from terms (steps_of lines ++ l.step ∷ []) (filled_in lines + l.filled) (number + 1) (whole_lines more ++ rest))) first
    ∙ (from_line terms lines line (number + 1) (whole_lines more ++ rest)
    ∙ (ih ∙ rw (regroup lines more line, place) refl)))

behind_reads : {X : Type 0} (number : ℕ) (r : Result X ScriptReason) (f : X → Found) (terms : Terms) (steps : List Step) → behind number r f ≡ reads terms steps
    → (x : X) × (r ≡ Ok x) × (f x ≡ reads terms steps)
behind_reads number (Ok x) f terms steps h = (x, refl, h)
behind_reads number (Err e) f terms steps h = cc h

-- what a line that was read adds to those before it
may_stand : (lines : List StepLine) (line : TextLine) (l : LineStep) → (d : IsStepLine (length lines) (filled_in lines) line l) → MayStand lines d.spelled
may_stand lines line l d =
    let filled : filled_by d.spelled ≡ l.filled = ap (λ (x : LineStep). x.filled) d.means in
    let within = d.within in
    record { spellable = d.spellable; few = d.few; within = omega arith }

-- what stands behind a line that was read
moved_on : (terms : Terms) (lines : List StepLine) (line : TextLine) (l : LineStep) (number : ℕ) (rest : List TextLine) → (d : IsStepLine (length lines) (filled_in lines) line l)
    → steps_from terms (steps_of lines ++ l.step ∷ []) (filled_in lines + l.filled) number rest ≡ from_lines terms (lines ++ d.spelled ∷ []) number rest
moved_on terms lines line l number rest d =
    ap (λ (x : LineStep). steps_from terms (steps_of lines ++ x.step ∷ []) (filled_in lines + x.filled) number rest) (sym d.means) ∙ from_line terms lines d.spelled number rest

-- the lines of steps that were read, behind others
pub record HasRead (given terms : Terms) (lines : List StepLine) (steps : List Step) (rest : List TextLine) : Type 0 where
  pub terms_are : given ≡ terms
  pub more : List StepLine
  pub steps_are : steps ≡ steps_of (lines ++ more)
  pub scripted : AreScripted (lines ++ more)
  pub is : rest ≡ whole_lines more

pub from_lines-reads : (given : Terms) (lines : List StepLine) (number : ℕ) (rest : List TextLine) (terms : Terms) (steps : List Step) → AreScripted lines → list_all lacks_feed rest ≡ true
    → from_lines given lines number rest ≡ reads terms steps → HasRead given terms lines steps rest
from_lines-reads given lines number [] terms steps h lacks e =
    record { terms_are = cc; more = []; steps_are = rw (append-nil lines) cc; scripted = rw (append-nil lines) h; is = refl }
from_lines-reads given lines number (line ∷ rest) terms steps h lacks e =
    let p = and_parts (lacks_feed line) (list_all lacks_feed rest) lacks in
    let b = behind_reads number (after_lines lines line) _ terms steps (sym (from_first given lines number line rest) ∙ e) in
    let d = step_after-ok (length lines) (filled_in lines) line b.0 p.0 b.1 in
    let ih = from_lines-reads given (lines ++ d.spelled ∷ []) (number + 1) rest terms steps (one_more lines d.spelled h (may_stand lines line b.0 d)) p.1
    (sym (moved_on given lines line b.0 (number + 1) rest d) ∙ b.2) in
    record {
      terms_are = ih.terms_are;
      more = d.spelled ∷ ih.more;
      steps_are = ih.steps_are ∙ ap steps_of (regroup lines ih.more d.spelled);
      scripted = subst AreScripted (regroup lines ih.more d.spelled) ih.scripted;
      is = ap₂ (λ l ls. l ∷ ls) (line_is line d.text d.end) ih.is;
    }

-- the line behind these lines is broken
pub record IsBroken (lines : List StepLine) (number : ℕ) (rest : List TextLine) (at : ℕ) (fault : ScriptReason) : Type 0 where
  pub more : List StepLine
  pub line : TextLine
  pub later : List TextLine
  pub scripted : AreScripted (lines ++ more)
  pub is : rest ≡ whole_lines more ++ line ∷ later
  pub place : at ≡ number + length more
  pub broken : after_lines (lines ++ more) line ≡ Err fault

broken_later : (lines : List StepLine) (spelled : StepLine) (number : ℕ) (line : TextLine) (rest : List TextLine) (at : ℕ) (fault : ScriptReason) → line ≡ whole_line (line_text spelled)
    → IsBroken (lines ++ spelled ∷ []) (number + 1) rest at fault → IsBroken lines number (line ∷ rest) at fault
broken_later lines spelled number line rest at fault same b =
    let place = b.place in
    record {
      more = spelled ∷ b.more;
      line = b.line;
      later = b.later;
      scripted = subst AreScripted (regroup lines b.more spelled) b.scripted;
      is = ap₂ (λ l ls. l ∷ ls) same b.is;
      place = omega arith;
      broken = ap (λ all. after_lines all b.line) (sym (regroup lines b.more spelled)) ∙ b.broken;
    }

-- where what follows a part of a line breaks
behind_breaks : {X P : Type 0} (number : ℕ) (r : Result X ScriptReason) (f : X → Found) (at : ℕ) (fault : ScriptReason) → behind number r f ≡ breaks at fault
    → (r ≡ Err fault → number ≡ at → P) → ((x : X) → r ≡ Ok x → f x ≡ breaks at fault → P) → P
behind_breaks number (Ok x) f at fault h bad good = good x refl h
behind_breaks number (Err e) f at fault h bad good =
    let same : e ≡ fault = cc in
    bad (ap Err same) cc

pub from_lines-breaks : (terms : Terms) (lines : List StepLine) (number : ℕ) (rest : List TextLine) (at : ℕ) (fault : ScriptReason) → AreScripted lines → list_all lacks_feed rest ≡ true
    → from_lines terms lines number rest ≡ breaks at fault → IsBroken lines number rest at fault
from_lines-breaks terms lines number [] at fault h lacks e = cc e
from_lines-breaks terms lines number (line ∷ rest) at fault h lacks e =
    let p = and_parts (lacks_feed line) (list_all lacks_feed rest) lacks in
    behind_breaks number (after_lines lines line) _ at fault (sym (from_first terms lines number line rest) ∙ e)
    (λ bad place. record {
      more = [];
      line = line;
      later = rest;
      scripted = rw (append-nil lines) h;
      is = refl;
      place = omega arith;
      broken = rw (append-nil lines) bad;
    })
    (λ l good b.
    let d = step_after-ok (length lines) (filled_in lines) line l p.0 good in
    broken_later lines d.spelled number line rest at fault (line_is line d.text d.end)
    (from_lines-breaks terms (lines ++ d.spelled ∷ []) (number + 1) rest at fault (one_more lines d.spelled h (may_stand lines line l d)) p.1
    (sym (moved_on terms lines line l (number + 1) rest d) ∙ b)))
