-- The rules that the lines of a script keep, and the first line that breaks one.
use Rattle.std.specs.Prelude.{◌≡◌, ◌≢◌, ℕ, ◌+◌, ◌<◌, List, [], ◌∷◌, ◌++◌, true, false, length, map}
use Rattle.std.specs.Str.{is_utf8}
use Rattle.mux_run.specs.Run.{Terms}
use Rattle.text_words.specs.Reading.{words_of}
use Rattle.script.specs.declared.reason.ScriptReason.{ScriptReason}
use Rattle.script.specs.declared.reason.ScriptReason.TheVariants as reason
use Rattle.script.specs.Limits.{most_steps, most_filled}
use Rattle.script.specs.Lines.{TextLine, whole_line}
use Rattle.script.specs.Spelling.{StepLine, AreTerms, AreScripted, head_lines, script_lines, line_text, is_spellable, is_worded, filled_by, filled_in}
use Rattle.script.specs.Steps.{begins_step}

-- these texts are the first lines of some head
pub record BeginsHead (texts : List (List ℕ)) : Type 0 where
  pub terms : Terms
  pub later : List (List ℕ)
  pub terms_are : AreTerms terms
  pub is : head_lines terms ≡ texts ++ later

-- behind these first lines a head has one more
abbrev pub IsLineDue : List (List ℕ) → Type 0
IsLineDue first = (text : List ℕ) × BeginsHead (first ++ text ∷ [])

-- a line that is UTF-8 and has its end
abbrev pub IsWholeText : TextLine → Type 0
IsWholeText line = (is_utf8 line.text ≡ true) × (line.has_end ≡ true)

-- the line that is due behind these stands there, is UTF-8, has an end, and begins a head with them; for each reason, which of these rules it breaks
abbrev pub BreaksHeadRule : ScriptReason → (first : List (List ℕ)) → (rest : List TextLine) → Type 0
BreaksHeadRule reason.NotUtf8 first (line ∷ rest) = is_utf8 line.text ≡ false
BreaksHeadRule reason.NoLineEnd first (line ∷ rest) = (is_utf8 line.text ≡ true) × (line.has_end ≡ false)
BreaksHeadRule reason.BadHead first (line ∷ rest) = IsWholeText line × ¬ BeginsHead (first ++ line.text ∷ [])
BreaksHeadRule reason.BadHead first [] = Unit {0}
BreaksHeadRule why first rest = ⊥

-- the line with this number is the first of these that breaks a rule of the head: those before it begin one, and another is due
pub record IsHeadRefused (lines : List TextLine) (number : ℕ) (why : ScriptReason) : Type 0 where
  pub first : List (List ℕ)
  pub rest : List TextLine
  pub is : lines ≡ map whole_line first ++ rest
  pub place : number ≡ length first + 1
  pub due : IsLineDue first
  pub breaks_rule : BreaksHeadRule why first rest

-- a line behind those of steps that is UTF-8, has an end and is none too many
abbrev pub MayBeStep : List StepLine → TextLine → Type 0
MayBeStep before line = IsWholeText line × (length before < most_steps)

-- the text is the line of a step whose words are of their forms, whatever the rest of it is
abbrev pub IsWorded : List ℕ → Type 0
IsWorded text = (step : StepLine) × (is_worded step ≡ true) × (line_text step ≡ text)

-- such a line begins with a step word; its words are of their forms, and so is the rest of it; and it fills in no more bytes than are left; for each
-- reason, which of these rules a line breaks
abbrev pub BreaksStepRule : ScriptReason → (before : List StepLine) → TextLine → Type 0
BreaksStepRule reason.NotUtf8 before line = is_utf8 line.text ≡ false
BreaksStepRule reason.NoLineEnd before line = (is_utf8 line.text ≡ true) × (line.has_end ≡ false)
BreaksStepRule reason.TooManySteps before line = IsWholeText line × (length before ≡ most_steps)
BreaksStepRule reason.UnknownStep before line = MayBeStep before line × (begins_step (words_of line.text) ≡ false)
BreaksStepRule reason.BadWord before line = MayBeStep before line × (begins_step (words_of line.text) ≡ true)
    × ((step : StepLine) → is_worded step ≡ true → line_text step ≡ line.text → most_filled < filled_in before + filled_by step)
BreaksStepRule reason.BadJson before line = MayBeStep before line × IsWorded line.text
    × ((step : StepLine) → is_spellable step ≡ true → line_text step ≢ line.text)
BreaksStepRule why before line = ⊥

-- the line with this number is the first of these that breaks a rule, and those before it are the lines of a script
pub record IsStepRefused (lines : List TextLine) (number : ℕ) (why : ScriptReason) : Type 0 where
  pub terms : Terms
  pub before : List StepLine
  pub line : TextLine
  pub rest : List TextLine
  pub terms_are : AreTerms terms
  pub scripted : AreScripted before
  pub is : lines ≡ map whole_line (script_lines terms before) ++ line ∷ rest
  pub place : number ≡ length (script_lines terms before) + 1
  pub breaks_rule : BreaksStepRule why before line
