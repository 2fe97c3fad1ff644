-- What the exact answer says.
use Rattle.std.proofs.Common.{◌≡◌, ℕ, List, Result, Ok, Err, subst, ◌∙◌, ap}
use Rattle.std.specs.Prelude.{IfOk}
use Rattle.mux_run.specs.Run.{Terms, terms_of}
use Rattle.script.specs.declared.fault.ScriptFault.{ScriptFault}
use Rattle.script.specs.declared.reading.Script.{Script}
use Rattle.script.specs.Found.{Found, reads, script_in, IsScriptOf}
use Rattle.script.specs.Given.{Answers, script_seen}
use Rattle.script.specs.Spelling.{StepLine, AreTerms, AreScripted, script_text, steps_of}
use Rattle.script.proofs.ScriptLaws.{is_read, written}

pub text : (bytes : List ℕ) (r : Result Script ScriptFault) → Answers script_seen r (script_in bytes) → IfOk r (λ s. IsScriptOf bytes (terms_of s.version s.nonces) s.steps)
text bytes (Ok s) h = is_read bytes (terms_of s.version s.nonces) s.steps h
text bytes (Err fault) h = tt

pub only : (bytes : List ℕ) (r : Result Script ScriptFault) → Answers script_seen r (script_in bytes)
    → (terms : Terms) (lines : List StepLine) → AreTerms terms → AreScripted lines → bytes ≡ script_text terms lines → Answers script_seen r (reads terms (steps_of lines))
only bytes r h terms lines are scripted same =
    let P : Found → Type 0 = λ found. Answers script_seen r found in
    subst P (ap script_in same ∙ written terms lines are scripted) h
