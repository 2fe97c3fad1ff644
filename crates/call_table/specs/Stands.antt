-- When a table stands for a list of items.
use Rattle.std.specs.Prelude.{◌≡◌, ℕ, ◌+◌, List, [], ◌∷◌, length, Bool, true, false, not, ◌&&◌, is_none, slice_get, option_map, if◌then◌else◌, Option, Some, None}
use Rattle.wire_base.specs.Tree.{Tree}
use Rattle.wire_base.specs.declared.text.Id.{Id}
use Rattle.rpc_items.specs.declared.calls.Expect.{Expect}
use Rattle.rpc_items.specs.declared.calls.Outcome.{Outcome}
use Rattle.rpc_items.specs.declared.calls.Outcome.TheVariants.{Replied, Failed, Lost, Starved}
use Rattle.rpc_items.specs.declared.messages.Message.{Message}
use Rattle.rpc_items.specs.declared.messages.Message.TheVariants.{Request, Notification}
use Rattle.rpc_items.specs.declared.messages.Message.TheVariants as message
use Rattle.rpc_items.specs.declared.methods.Meaning.TheVariants.{Reports}
use Rattle.rpc_items.specs.Meanings.{meaning}
use Rattle.rpc_items.specs.Items.{RpcItem, Did, RpcCall, is_running}
use Rattle.rpc_items.specs.Drawn.{Asked, asked, asked_by, asked_at, drawn, is_drawn, is_forgotten, is_cancelled}
use Rattle.rpc_items.specs.Outcomes.{answer_to, request_named}
use Rattle.rpc_items.specs.Reports.{reports}
use Rattle.rpc_items.specs.Waiting.{is_waiting}
use Rattle.call_table.specs.declared.answers.Settled.{Settled}
use Rattle.call_table.specs.declared.answers.Settled.TheVariants.{First, Stray}
use Rattle.call_table.specs.declared.entry.Entry.{Entry}
use Rattle.call_table.specs.declared.entry.Kept.{Kept}
use Rattle.call_table.specs.declared.entry.Kept.TheVariants.{Forgotten}
use Rattle.call_table.specs.Table.{TableValue, kept_by, waits_in}

-- what is kept of a request, forgotten or not
abbrev pub kept_unless : (forgotten : Bool) → Option Outcome → Kept
kept_unless forgotten answer = if forgotten then Forgotten else kept_by answer

-- what is kept of request n
abbrev pub kept_of : ℕ → List RpcItem → Kept
kept_of n items = kept_unless (is_forgotten n items) (answer_to n items)

-- the reports that are kept of a request, forgotten or not
abbrev pub left_unless : (forgotten : Bool) → List Tree → List Tree
left_unless forgotten left = if forgotten then [] else left

-- the reports that are kept of request n
abbrev pub left_of : ℕ → List RpcItem → List Tree
left_of n items = left_unless (is_forgotten n items) (reports n items)

-- a request with what is kept of it
abbrev pub entry_as : Asked → Kept → (cancelled : Bool) → (left : List Tree) → Entry
entry_as asked kept cancelled left = record { expect = asked.expect; progress = asked.progress; kept = kept; cancelled = cancelled; reports = left }

-- a request with what is kept of it as request n
abbrev pub entry_after : ℕ → List RpcItem → Asked → Entry
entry_after n items asked = entry_as asked (kept_of n items) (is_cancelled n items) (left_of n items)

-- the request at a place, where request 1 stands at 0
abbrev pub entry_at : (place : ℕ) → List RpcItem → Option Entry
entry_at place items = option_map (entry_after (place + 1) items) (slice_get (asked items) place)

-- what becomes of requests without a response, on a connection that runs or not, and stopped or not
abbrev pub rest_by : (running stopped : Bool) → Option Outcome
rest_by running stopped = if not running then Some Lost else if stopped then Some Starved else None

-- whether a request can still get a response, where this is its answer
abbrev pub can_come : (running : Bool) → (answer : Option Outcome) → Bool
can_come running answer = running && is_none answer

-- the table is as these items leave it, on a connection that stopped or not
pub record TableStands (stopped : Bool) (table : TableValue) (items : List RpcItem) : Type 0 where
  pub count : length table.requests ≡ drawn items
  pub each : (place : ℕ) → slice_get table.requests place ≡ entry_at place items
  pub rest : table.rest ≡ rest_by (is_running items) stopped
  pub waiting : (id : Id) → waits_in id table ≡ is_waiting id items
  pub forgotten : (n : ℕ) → is_forgotten n items ≡ true → (is_drawn n items ≡ true) × (can_come (is_running items) (answer_to n items) ≡ false)
  pub cancelled : (n : ℕ) → is_cancelled n items ≡ true → is_drawn n items ≡ true

-- a request that was asked so
abbrev pub asked_as : Expect → (progress : Bool) → (page_of : Option ℕ) → Asked
asked_as expect progress page_of = record { expect = expect; progress = progress; page_of = page_of }

-- the table stands for the items with any call after them that draws a request so
abbrev pub StandsDrawn : Expect → (progress : Bool) → TableValue → List RpcItem → Type 0
StandsDrawn expect progress table items = (call : RpcCall) (page_of : Option ℕ) → asked_by (Did call) ≡ asked_as expect progress page_of ∷ [] → TableStands false table (Did call ∷ items)

-- the response with this id that tells this
abbrev pub response_of : Id → Outcome → Option Message
response_of id (Replied value) = Some (message.Result id value)
response_of id (Failed code text more) = Some (message.Error (Some id) code text more)
response_of id outcome = None

-- a response that answers this request, which was asked so
abbrev pub settling_by : Option ℕ → Option Asked → Settled
settling_by (Some n) (Some asked) = First n asked.expect
settling_by n asked = Stray

-- the request with a number that there may be
abbrev pub asked_of : Option ℕ → List RpcItem → Option Asked
asked_of (Some n) items = asked_at n items
asked_of None items = None

-- what a response with this id is after these items
abbrev pub settling : Id → List RpcItem → Settled
settling id items = settling_by (request_named id items) (asked_of (request_named id items) items)

-- a message that reports this by this token, and is no request with the id of one that waits
abbrev pub IsReport : Id → Tree → Message → List RpcItem → Type 0
IsReport token value (Request id method params) items = (meaning method params ≡ Reports token value) × (is_waiting id items ≡ false)
IsReport token value (Notification method params) items = meaning method params ≡ Reports token value
IsReport token value message items = ⊥
