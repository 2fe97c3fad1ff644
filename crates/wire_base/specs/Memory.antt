-- What a source and a sink in memory hold, and what became of their calls.
use Rattle.std.specs.Prelude.{ℕ, ◌+◌, ◌-◌, ◌^◌, min, List, drop, Bool, Option, Some}
use Rattle.wire_base.specs.declared.in_memory.MemSource.{MemSource}
use Rattle.wire_base.specs.declared.in_memory.MemSink.{MemSink}

-- the bytes that were not read yet
abbrev pub source_held : MemSource → Option (List ℕ)
source_held s = Some (drop s.at s.bytes)

-- how many reads were made
abbrev pub source_calls : MemSource → ℕ
source_calls s = s.calls

-- the numbers of the reads that fail
abbrev pub source_failing : MemSource → List ℕ
source_failing s = s.failing

-- how many reads failed
abbrev pub source_faults : MemSource → ℕ
source_faults s = s.faults

-- whether the last read answered 0
abbrev pub source_ended : MemSource → Bool
source_ended s = s.ended

-- the bytes that were written
abbrev pub sink_given : MemSink → Option (List ℕ)
sink_given s = Some s.given.items

-- how many writes and flushes were made
abbrev pub sink_calls : MemSink → ℕ
sink_calls s = s.calls

-- the numbers of the writes and flushes that fail
abbrev pub sink_failing : MemSink → List ℕ
sink_failing s = s.failing

-- how many writes and flushes failed
abbrev pub sink_faults : MemSink → ℕ
sink_faults s = s.faults

-- whether the last call was a flush that answered Ok
abbrev pub sink_flushed : MemSink → Bool
sink_flushed s = s.flushed

-- a count with one more, which stops at its type's end; also the number of the call that comes after so many
abbrev pub one_more : ℕ → ℕ
one_more n = min (n + 1) (2 ^ 64 - 1)
