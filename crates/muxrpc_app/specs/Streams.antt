-- What was read from a source and written to a sink.
use Rattle.std.specs.Prelude.{◌≡◌, ◌≤◌, ℕ, ◌+◌, List, [], length, take, Bool, false, Option, IfSome}
use Rattle.std.specs.Io.KnownBytes.{prepend_known, append_known}
use Rattle.wire_base.specs.Causes.{Rose}
use Rattle.muxrpc_app.specs.declared.input.InputFault.{InputFault}
use Rattle.muxrpc_app.specs.declared.input.InputFault.TheVariants as fault

-- the most bytes of an input
abbrev pub most_input : ℕ
most_input = 67108864

-- these bytes were read of what a source held, where it tells that
abbrev pub WasRead : (old new : Option (List ℕ)) → List ℕ → Type 0
WasRead old new bytes = old ≡ prepend_known bytes new

-- where a source tells what it holds, that is nothing
abbrev pub HoldsNothing : Option (List ℕ) → Type 0
HoldsNothing held = IfSome held (λ bytes. bytes ≡ [])

-- some bytes were read, of a number that the limit allows
abbrev pub ReadWithin : (old new : Option (List ℕ)) → Type 0
ReadWithin old new = (bytes : List ℕ) × WasRead old new bytes × (length bytes ≤ most_input)

-- one byte past the limit was read
abbrev pub ReadPast : (old new : Option (List ℕ)) → Type 0
ReadPast old new = (bytes : List ℕ) × WasRead old new bytes × (length bytes ≡ most_input + 1)

-- a source: what it holds, its count of faults, and whether its last read answered 0
pub record SourceState : Type 0 where
  pub held : Option (List ℕ)
  pub faults : ℕ
  pub ended : Bool

-- a sink: what it was given, its count of faults, and whether its last call was a flush that answered Ok
pub record SinkState : Type 0 where
  pub given : Option (List ℕ)
  pub faults : ℕ
  pub flushed : Bool

-- why reading an input failed
abbrev pub InputFails : (old new : SourceState) → InputFault → Type 0
InputFails old new fault.Failed = Rose old.faults new.faults × ReadWithin old.held new.held × (new.ended ≡ false)
InputFails old new fault.TooLong = ReadPast old.held new.held
InputFails old new fault.OutOfMemory = Unit {0}

-- a front of these bytes was written
abbrev pub WroteFront : (old new : Option (List ℕ)) → List ℕ → Type 0
WroteFront old new bytes = (count : ℕ) × (new ≡ append_known old (take count bytes))
