-- What the parts of the reader answer.
use Rattle.std.specs.Prelude.{◌≡◌, ℕ, List, Result, Ok, Err}
use Rattle.mux_run.specs.Run.{terms_of}
use Rattle.script.specs.declared.reason.ScriptReason.{ScriptReason}
use Rattle.script.specs.declared.fault.LineFault.{LineFault}
use Rattle.script.specs.declared.fault.LineFault.TheVariants as line_fault
use Rattle.script.specs.declared.fault.ScriptFault.{ScriptFault}
use Rattle.script.specs.declared.fault.ScriptFault.TheVariants as script_fault
use Rattle.script.specs.declared.lines.Line.{Line}
use Rattle.script.specs.declared.reading.Script.{Script}
use Rattle.script.specs.Lines.{TextLine}
use Rattle.script.specs.Found.{Found, reads, breaks}

-- a part of a line has this fault, unless memory ran out
abbrev pub Fails : {Y : Type 0} → LineFault → Result Y ScriptReason → Type 0
Fails (line_fault.Refused reason) found = found ≡ Err reason
Fails line_fault.OutOfMemory found = Unit {0}

-- what a part of a line was read as is, seen by view, what it stands for
abbrev pub Gives : {X Y : Type 0} → (X → Y) → Result X LineFault → Result Y ScriptReason → Type 0
Gives view (Ok x) found = found ≡ Ok (view x)
Gives view (Err fault) found = Fails fault found

-- what the rest of a line was read as is what its text says
abbrev pub GivesRest : {X : Type 0} → (said : List ℕ → X) → Result X LineFault → Result (List ℕ) ScriptReason → Type 0
GivesRest said (Ok x) found = (text : List ℕ) × (found ≡ Ok text) × (said text ≡ x)
GivesRest said (Err fault) found = Fails fault found

-- a line as its definition sees it
abbrev pub line_seen : Line → TextLine
line_seen line = record { text = line.text.now; has_end = line.has_end }

-- the fault of the line with this number
abbrev pub fault_at : ℕ → LineFault → ScriptFault
fault_at number (line_fault.Refused reason) = script_fault.Refused number reason
fault_at number line_fault.OutOfMemory = script_fault.OutOfMemory

-- the bytes have this fault, unless memory ran out
abbrev pub Stops : ScriptFault → Found → Type 0
Stops (script_fault.Refused number reason) found = found ≡ breaks number reason
Stops script_fault.OutOfMemory found = Unit {0}

-- what the reader answers is what the bytes are, unless memory ran out
abbrev pub Answers : {X : Type 0} → (X → Found) → Result X ScriptFault → Found → Type 0
Answers seen (Ok x) found = found ≡ seen x
Answers seen (Err fault) found = Stops fault found

-- a script as its definition sees it
abbrev pub script_seen : Script → Found
script_seen s = reads (terms_of s.version s.nonces) s.steps
