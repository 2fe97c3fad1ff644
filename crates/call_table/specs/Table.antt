-- What a table keeps, and what its calls make of it.
use Rattle.std.specs.Prelude.{ℕ, ◌-◌, pos, List, [], ◌∷◌, ◌++◌, Bool, true, false, not, ◌&&◌, drop, filter, is_none, if◌then◌else◌, Option, Some, None}
use Rattle.std.specs.List.{list_any}
use Rattle.wire_base.specs.Lists.{changed_at}
use Rattle.wire_base.specs.Options.{or_else}
use Rattle.wire_base.specs.Tree.{Tree}
use Rattle.wire_base.specs.declared.text.Id.{Id}
use Rattle.wire_base.specs.declared.text.Id.TheVariants.{Number}
use Rattle.rpc_items.specs.declared.calls.Expect.{Expect}
use Rattle.rpc_items.specs.declared.calls.Outcome.{Outcome}
use Rattle.rpc_items.specs.Ids.{same_id}
use Rattle.rpc_items.specs.Drawn.{with_number}
use Rattle.rpc_items.specs.Outcomes.{Look, Known, NotYet, NoRequest}
use Rattle.call_table.specs.declared.entry.Entry.{Entry}
use Rattle.call_table.specs.declared.entry.Kept.{Kept}
use Rattle.call_table.specs.declared.entry.Kept.TheVariants.{Waiting, Answered, Forgotten}
use Rattle.call_table.specs.declared.answers.Look as rust_look
use Rattle.call_table.specs.declared.answers.Look.TheVariants as answers
use Rattle.call_table.specs.declared.answers.Settled.{Settled}
use Rattle.call_table.specs.declared.answers.Settled.TheVariants.{First, Stray}

-- own requests in the order of their numbers, what becomes of those that have no response, and the ids of the peer's
-- requests that wait
pub record TableValue : Type 0 where
  pub requests : List Entry
  pub rest : Option Outcome
  pub waiting : List Id

-- a table with nothing in it
abbrev pub empty : TableValue
empty = record { requests = []; rest = None; waiting = [] }

-- an answer as it is kept
abbrev pub kept_by : Option Outcome → Kept
kept_by (Some outcome) = Answered outcome
kept_by None = Waiting

-- whether no response came
abbrev pub is_waiting_kept : Kept → Bool
is_waiting_kept Waiting = true
is_waiting_kept kept = false

-- whether there is a request, and it has no response
abbrev pub waits_for : Option Entry → Bool
waits_for (Some entry) = is_waiting_kept entry.kept
waits_for None = false

-- the own request without a response that an id names, where one can come
abbrev pub named_in : Id → TableValue → Option ℕ
named_in (Number (pos n)) table = if is_none table.rest && waits_for (with_number n table.requests) then Some n else None
named_in id table = None

-- what a response is that names this request
abbrev pub settled_by : Option ℕ → Option Entry → Settled
settled_by (Some n) (Some entry) = First n entry.expect
settled_by n entry = Stray

-- the request with a number that there may be
abbrev pub entry_of : Option ℕ → TableValue → Option Entry
entry_of (Some n) table = with_number n table.requests
entry_of None table = None

-- what a response with this id is
abbrev pub settled_in : Id → TableValue → Settled
settled_in id table = settled_by (named_in id table) (entry_of (named_in id table) table)

-- what can be told of what is kept of a request, where this becomes of those that have no response
abbrev pub look_of : Kept → (rest : Option Outcome) → Look
look_of Waiting (Some outcome) = Known outcome
look_of Waiting None = NotYet
look_of (Answered outcome) rest = Known outcome
look_of Forgotten rest = NoRequest

-- what can be told of a request that there may be
abbrev pub look_at_entry : Option Entry → (rest : Option Outcome) → Look
look_at_entry (Some entry) rest = look_of entry.kept rest
look_at_entry None rest = NoRequest

-- what can be told of request n
abbrev pub look_in : ℕ → TableValue → Look
look_in n table = look_at_entry (with_number n table.requests) table.rest

-- the same as the table's answer
abbrev pub shown : rust_look.Look → Look
shown (answers.Known outcome) = Known outcome.now
shown answers.NotYet = NotYet
shown answers.NoRequest = NoRequest

-- a request that is begun
abbrev pub new_entry : Expect → (progress : Bool) → Entry
new_entry expect progress = record { expect = expect; progress = progress; kept = Waiting; cancelled = false; reports = [] }

-- one more request
abbrev pub begun : Expect → (progress : Bool) → TableValue → TableValue
begun expect progress table = record table { requests = table.requests ++ (new_entry expect progress ∷ []) }

-- request n becomes another
abbrev pub with_changed : ℕ → (Entry → Entry) → TableValue → TableValue
with_changed n change table = record table { requests = changed_at (n - 1) change table.requests }

-- another thing is kept of a request
abbrev pub keeping : Kept → Entry → Entry
keeping kept entry = record entry { kept = kept }

-- nothing is kept of a request, nor of what was reported on it
abbrev pub forgetting : Entry → Entry
forgetting entry = record entry { kept = Forgotten; reports = [] }

-- a request is cancelled
abbrev pub cancelling : Entry → Entry
cancelling entry = record entry { cancelled = true }

-- one more report is kept of a request
abbrev pub reporting : Tree → Entry → Entry
reporting value entry = record entry { reports = entry.reports ++ (value ∷ []) }

-- the oldest report is taken
abbrev pub taking : Entry → Entry
taking entry = record entry { reports = drop 1 entry.reports }

-- another thing is kept of request n
abbrev pub with_kept : ℕ → Kept → TableValue → TableValue
with_kept n kept table = with_changed n (keeping kept) table

-- request n is forgotten
abbrev pub with_forgotten : ℕ → TableValue → TableValue
with_forgotten n table = with_changed n forgetting table

-- request n is cancelled
abbrev pub with_cancelled : ℕ → TableValue → TableValue
with_cancelled n table = with_changed n cancelling table

-- a report on request n is kept
abbrev pub with_report : ℕ → Tree → TableValue → TableValue
with_report n value table = with_changed n (reporting value) table

-- the oldest report on request n is taken
abbrev pub with_taken : ℕ → TableValue → TableValue
with_taken n table = with_changed n taking table

-- whether there is a request, and it asked for reports of progress
abbrev pub asked_progress : Option Entry → Bool
asked_progress (Some entry) = entry.progress
asked_progress None = false

-- this request, where it asked for reports of progress
abbrev pub if_reporting : ℕ → Option Entry → Option ℕ
if_reporting n entry = if asked_progress entry then Some n else None

-- the request that there may be, where it asked for reports of progress
abbrev pub reporting_of : Option ℕ → TableValue → Option ℕ
reporting_of (Some n) table = if_reporting n (with_number n table.requests)
reporting_of None table = None

-- the own request without a response for which a report with this token is kept
abbrev pub reported_in : Id → TableValue → Option ℕ
reported_in token table = reporting_of (named_in token table) table

-- after a report that is kept for this request, or for none
abbrev pub reported : Option ℕ → Tree → TableValue → TableValue
reported (Some n) value table = with_report n value table
reported None value table = table

-- the reports that are kept of a request that there may be, oldest first
abbrev pub left_at_entry : Option Entry → List Tree
left_at_entry (Some entry) = entry.reports
left_at_entry None = []

-- the reports that are kept of request n
abbrev pub left_in : ℕ → TableValue → List Tree
left_in n table = left_at_entry (with_number n table.requests)

-- after a response that is this
abbrev pub settled : Settled → Outcome → TableValue → TableValue
settled (First n expect) outcome table = with_kept n (Answered outcome) table
settled Stray outcome table = table

-- whether the peer's request of this id waits
abbrev pub waits_in : Id → TableValue → Bool
waits_in id table = list_any (same_id id) table.waiting

-- one more request of the peer
abbrev pub heard : Id → TableValue → TableValue
heard id table = record table { waiting = table.waiting ++ (id ∷ []) }

-- the peer's request of this id is answered
abbrev pub answered : Id → TableValue → TableValue
answered id table = record table { waiting = filter (λ waiting. not (same_id waiting id)) table.waiting }

-- requests that have no response get none any more, and this becomes of them
abbrev pub over : Outcome → TableValue → TableValue
over outcome table = record table { rest = or_else table.rest (Some outcome) }
