-- What calls of a table answer, and what they leave.
use Rattle.std.specs.Prelude.{◌≡◌, ℕ, length, Bool, true, false, not, ◌&&◌, nat_le, is_none, slice_get, if◌then◌else◌, Option, Some, None, Result, Ok, Err}
use Rattle.wire_base.specs.Tree.{Tree}
use Rattle.wire_base.specs.declared.fault.CallFault.{CallFault}
use Rattle.wire_base.specs.declared.fault.CallFault.TheVariants as fault
use Rattle.wire_base.specs.declared.out_of_memory.OutOfMemory.{OutOfMemory}
use Rattle.wire_base.specs.declared.refusal.Refusal.{Refusal}
use Rattle.wire_base.specs.declared.refusal.Refusal.TheVariants as refusal
use Rattle.wire_base.specs.declared.text.Id.{Id}
use Rattle.rpc_items.specs.Arguments.{most_drawn}
use Rattle.rpc_items.specs.Drawn.{with_number}
use Rattle.call_table.specs.declared.answers.Heard.{Heard}
use Rattle.call_table.specs.declared.answers.Heard.TheVariants as heard
use Rattle.call_table.specs.declared.entry.Entry.{Entry}
use Rattle.call_table.specs.declared.entry.Kept.{Kept}
use Rattle.call_table.specs.declared.entry.Kept.TheVariants.{Forgotten}
use Rattle.call_table.specs.Table.{TableValue, left_in, waits_for, with_report, with_taken}

-- a call is refused exactly so, and then changes nothing; else the table becomes this
abbrev pub Does : {A : Type 0} → Option Refusal → (old new now : TableValue) → Result A Refusal → Type 0
Does None old new now (Ok done) = new ≡ now
Does None old new now (Err r') = ⊥
Does (Some r) old new now (Ok done) = ⊥
Does (Some r) old new now (Err r') = (r' ≡ r) × (new ≡ old)

-- a call is refused exactly so, and then changes nothing; else it draws this number and the table becomes this, or
-- memory runs out and nothing changes
abbrev pub Draws : Option Refusal → ℕ → (old new now : TableValue) → Result ℕ CallFault → Type 0
Draws None number old new now (Ok n) = (n ≡ number) × (new ≡ now)
Draws None number old new now (Err fault.OutOfMemory) = new ≡ old
Draws (Some r) number old new now (Err (fault.Refused r')) = (r' ≡ r) × (new ≡ old)
Draws refused number old new now answer = ⊥

-- whether no more requests can be drawn, and why
abbrev pub full_refusal : TableValue → Option Refusal
full_refusal table = if nat_le most_drawn (length table.requests) then Some refusal.TooManyRequests else None

-- there is no such request, unless there is
abbrev pub unless_there : Bool → Option Refusal
unless_there there = if there then None else Some refusal.NoRequest

-- a request of the peer is new and the table becomes this, or one with this id waits already, or memory runs out;
-- in the last two cases nothing changes
abbrev pub Hears : (waits : Bool) → Id → (old new now : TableValue) → Heard → Type 0
Hears false id old new now heard.New = new ≡ now
Hears true id old new now (heard.Duplicate again) = (again ≡ id) × (new ≡ old)
Hears false id old new now heard.OutOfMemory = new ≡ old
Hears waits id old new now answer = ⊥

-- whether there is a request, and it was cancelled here
abbrev pub was_cancelled : Option Entry → Bool
was_cancelled (Some entry) = entry.cancelled
was_cancelled None = false

-- why a request that there may be can't be cancelled, where it waits for a response or not
abbrev pub cancelling_refusal : (waits : Bool) → Option Entry → Option Refusal
cancelling_refusal waits entry = if not waits then Some refusal.NoRequest else if was_cancelled entry then Some refusal.AlreadyCancelled else None

-- why request n can't be cancelled
abbrev pub cancel_refusal : ℕ → TableValue → Option Refusal
cancel_refusal n table = cancelling_refusal (is_none table.rest && waits_for (with_number n table.requests)) (with_number n table.requests)

-- why no report can be taken of which this is kept, and that asked for reports or not
abbrev pub taking_refusal : Kept → (progress : Bool) → Option Refusal
taking_refusal Forgotten progress = Some refusal.NoRequest
taking_refusal kept progress = if progress then None else Some refusal.NoToken

-- why no report can be taken of a request that there may be
abbrev pub entry_refusal : Option Entry → Option Refusal
entry_refusal (Some entry) = taking_refusal entry.kept entry.progress
entry_refusal None = Some refusal.NoRequest

-- why no report can be taken of request n
abbrev pub take_refusal : ℕ → TableValue → Option Refusal
take_refusal n table = entry_refusal (with_number n table.requests)

-- a call is refused exactly so, and then changes nothing; else it answers the oldest report on request n, where one is
-- left, and takes it
abbrev pub Takes : Option Refusal → ℕ → (old new : TableValue) → Result (Option Tree) Refusal → Type 0
Takes None n old new (Ok report) = (report ≡ slice_get (left_in n old) 0) × (new ≡ with_taken n old)
Takes None n old new (Err r') = ⊥
Takes (Some r) n old new (Ok report) = ⊥
Takes (Some r) n old new (Err r') = (r' ≡ r) × (new ≡ old)

-- a report is kept for this request, or there is none that it is for and nothing changes, or memory runs out and nothing
-- changes
abbrev pub KeepsReport : Option ℕ → Tree → (old new : TableValue) → Result Bool OutOfMemory → Type 0
KeepsReport (Some n) value old new (Ok true) = new ≡ with_report n value old
KeepsReport None value old new (Ok false) = new ≡ old
KeepsReport (Some n) value old new (Err e) = new ≡ old
KeepsReport n value old new answer = ⊥
