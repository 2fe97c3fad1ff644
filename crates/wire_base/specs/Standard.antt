-- What became of the calls of a source and a sink over the system.
use Rattle.std.specs.Prelude.{ℕ, List, Bool, Option, None}
use Rattle.wire_base.specs.declared.standard.StdSource.{StdSource}
use Rattle.wire_base.specs.declared.standard.StdSink.{StdSink}

-- it doesn't tell what it holds
abbrev pub std_source_held : {R : Type 0} → StdSource R → Option (List ℕ)
std_source_held s = None

-- the reader that it reads from
abbrev pub std_source_inner : {R : Type 0} → StdSource R → R
std_source_inner s = s.inner

-- how many reads failed
abbrev pub std_source_faults : {R : Type 0} → StdSource R → ℕ
std_source_faults s = s.faults

-- whether the last read answered 0
abbrev pub std_source_ended : {R : Type 0} → StdSource R → Bool
std_source_ended s = s.ended

-- it doesn't tell what it was given
abbrev pub std_sink_given : {W : Type 0} → StdSink W → Option (List ℕ)
std_sink_given s = None

-- the writer that it writes to
abbrev pub std_sink_inner : {W : Type 0} → StdSink W → W
std_sink_inner s = s.inner

-- how many writes and flushes failed
abbrev pub std_sink_faults : {W : Type 0} → StdSink W → ℕ
std_sink_faults s = s.faults

-- whether the last call was a flush that answered Ok
abbrev pub std_sink_flushed : {W : Type 0} → StdSink W → Bool
std_sink_flushed s = s.flushed
