-- Reports of progress on own requests.
use Rattle.std.specs.Prelude.{ℕ, ◌+◌, ◌-◌, min, List, [], ◌∷◌, ◌++◌, length, drop, Bool, false, ◌&&◌, ◌==◌, if◌then◌else◌, Option, Some, None}
use Rattle.wire_base.specs.Tree.{Tree}
use Rattle.rpc_items.specs.declared.messages.Message.{Message}
use Rattle.rpc_items.specs.declared.messages.Message.TheVariants.{Request, Notification}
use Rattle.rpc_items.specs.Ids.{same_id, numbered_id}
use Rattle.rpc_items.specs.declared.methods.Meaning.{Meaning}
use Rattle.rpc_items.specs.declared.methods.Meaning.TheVariants.{Reports}
use Rattle.rpc_items.specs.Meanings.{meaning}
use Rattle.rpc_items.specs.Items.{TakeReport, RpcItem, Did, Got}
use Rattle.rpc_items.specs.Drawn.{Asked, asked_at}
use Rattle.rpc_items.specs.Outcomes.{is_unanswered}

-- whether a request asked for progress
abbrev pub progress_of : Option Asked → Bool
progress_of (Some asked) = asked.progress
progress_of None = false

-- whether request n asked for progress
abbrev pub has_progress : ℕ → List RpcItem → Bool
has_progress n items = progress_of (asked_at n items)

-- the value that is reported on request n by this meaning
abbrev pub report_by : ℕ → Meaning → List Tree
report_by n (Reports token value) = if same_id token (numbered_id n) then value ∷ [] else []
report_by n meaning = []

-- the value that a message reports on request n
abbrev pub report_in : ℕ → Message → List Tree
report_in n (Request id method params) = report_by n (meaning method params)
report_in n (Notification method params) = report_by n (meaning method params)
report_in n message = []

-- all reports that were kept, oldest first: one is kept while its request is unanswered and asked for progress
abbrev pub kept_reports : ℕ → List RpcItem → List Tree
kept_reports n [] = []
kept_reports n (Got place message ∷ items) = if is_unanswered n items && has_progress n items then kept_reports n items ++ report_in n message else kept_reports n items
kept_reports n (item ∷ items) = kept_reports n items

-- how many were taken: each call takes one where one is left
abbrev pub taken_reports : ℕ → List RpcItem → ℕ
taken_reports n [] = 0
taken_reports n (Did (TakeReport m) ∷ items) = if m == n then taken_reports n items + min 1 (length (kept_reports n items) - taken_reports n items) else taken_reports n items
taken_reports n (item ∷ items) = taken_reports n items

-- the reports that are left, oldest first
abbrev pub reports : ℕ → List RpcItem → List Tree
reports n items = drop (taken_reports n items) (kept_reports n items)
