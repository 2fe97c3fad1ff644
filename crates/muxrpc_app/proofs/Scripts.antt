-- A script that was read.
use Rattle.std.proofs.Common.{◌≡◌, ◌≤◌, ℕ, List, length, true}
use Rattle.mux_run.specs.Run.{terms_of}
use Rattle.script.specs.declared.reading.Script.{Script}
use Rattle.script.specs.Found.{script_in}
use Rattle.script.specs.Given.{script_seen}
use Rattle.muxrpc_app.specs.Streams.{SourceState, WasRead, HoldsNothing, most_input}
use Rattle.muxrpc_app.specs.Outcome.{ReadScript}

abbrev pub script_read : {old new : SourceState} (bytes : List ℕ) (s : Script) → WasRead old.held new.held bytes → length bytes ≤ most_input → new.ended ≡ true → HoldsNothing new.held
    → script_in bytes ≡ script_seen s → ReadScript old new
script_read bytes s was within ended at_end is = record {
  bytes = bytes;
  terms = terms_of s.version s.nonces;
  steps = s.steps;
  was_read = was;
  within = within;
  ended = ended;
  at_end = at_end;
  is_script = is;
}
