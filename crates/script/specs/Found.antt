-- The script that bytes are, or its first broken line.
use Rattle.std.specs.Prelude.{◌≡◌, ℕ, ◌+◌, List, [], ◌∷◌, ◌++◌, Result, Ok, Err, length, if◌then◌else◌}
use Rattle.mux_run.specs.Run.{Terms}
use Rattle.mux_run.specs.declared.steps.Side.TheVariants.{A, B}
use Rattle.endpoint_run.specs.declared.steps.Step.{Step}
use Rattle.wire_base.specs.declared.frame.Version.{Version}
use Rattle.script.specs.declared.reason.ScriptReason.{ScriptReason}
use Rattle.script.specs.declared.reason.ScriptReason.TheVariants as reason
use Rattle.script.specs.Lines.{TextLine, lines_of}
use Rattle.script.specs.Spelling.{StepLine, AreTerms, AreScripted, script_text, steps_of, has_nonces, no_nonce}
use Rattle.script.specs.Steps.{on_ok, text_in, step_after, format_in, version_in, nonce_line_in}

-- what bytes are as a script; lines are counted from 1
pub data Found : Type 0 where
  reads : Terms → List Step → Found
  breaks : ℕ → ScriptReason → Found

-- what the lines after this one make of what it stands for
abbrev pub behind : {X : Type 0} → ℕ → Result X ScriptReason → (X → Found) → Found
behind number (Ok x) found = found x
behind number (Err fault) found = breaks number fault

-- the lines from this number on, behind these steps, which filled in so many bytes
abbrev pub steps_from : Terms → List Step → (filled : ℕ) → ℕ → List TextLine → Found
steps_from terms steps filled number [] = reads terms steps
steps_from terms steps filled number (line ∷ lines) =
    behind number (step_after (length steps) filled line) (λ l. steps_from terms (steps ++ l.step ∷ []) (filled + l.filled) (number + 1) lines)

-- a head line with this number, which a script has, and what the lines after it make of what it stands for
abbrev pub head_from : {X : Type 0} → ℕ → (List ℕ → Result X ScriptReason) → (X → List TextLine → Found) → List TextLine → Found
head_from number read found [] = breaks number reason.BadHead
head_from number read found (line ∷ lines) = behind number (on_ok (text_in line) read) (λ x. found x lines)

-- the lines from the fourth on, behind A's nonce
abbrev pub nonce_b_from : Version → (nonce_a : List ℕ) → List TextLine → Found
nonce_b_from v a lines = head_from 4 (nonce_line_in B) (λ b. steps_from (record { version = v; nonce_a = a; nonce_b = b }) [] 0 5) lines

-- the lines from the third on: the nonces, where the version has any, and the steps
abbrev pub nonces_from : Version → List TextLine → Found
nonces_from v lines =
    if has_nonces v
    then head_from 3 (nonce_line_in A) (nonce_b_from v) lines
    else steps_from (record { version = v; nonce_a = no_nonce; nonce_b = no_nonce }) [] 0 3 lines

-- the lines from the second on
abbrev pub version_from : List TextLine → Found
version_from lines = head_from 2 version_in nonces_from lines

-- all lines
abbrev pub script_from : List TextLine → Found
script_from lines = head_from 1 format_in (λ _. version_from) lines

-- the script that the bytes are, or the first line that breaks it and why
abbrev pub script_in : List ℕ → Found
script_in bytes = script_from (lines_of bytes)

-- the bytes are the text of these terms and lines, which a script may have
pub record IsScript (bytes : List ℕ) (terms : Terms) (lines : List StepLine) : Type 0 where
  pub terms_are : AreTerms terms
  pub scripted : AreScripted lines
  pub text : bytes ≡ script_text terms lines

-- the bytes are the text of a script with these terms and steps
abbrev pub IsScriptOf : List ℕ → Terms → List Step → Type 0
IsScriptOf bytes terms steps = (lines : List StepLine) × (steps ≡ steps_of lines) × IsScript bytes terms lines
