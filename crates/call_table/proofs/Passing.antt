-- Items that leave a table as it is.
use Rattle.std.specs.Prelude.{Bool, false}
use Rattle.std.proofs.Common.{◌≡◌, ℕ, ℤ, List, [], ◌∷◌, refl, Option, None}
use Rattle.wire_base.specs.Tree.{Tree}
use Rattle.wire_base.specs.declared.text.Id.{Id}
use Rattle.rpc_items.specs.declared.calls.Arguments.{Arguments}
use Rattle.rpc_items.specs.declared.calls.HandleKey.{HandleKey}
use Rattle.rpc_items.specs.declared.messages.Message.{Message}
use Rattle.rpc_items.specs.declared.messages.Message.TheVariants.{Request, Notification, Error}
use Rattle.rpc_items.specs.declared.messages.Params.{Params}
use Rattle.rpc_items.specs.Meanings.{meaning}
use Rattle.rpc_items.specs.Items.{RpcItem, Did, Got, RpcCall, Tell, Report, Abort, Release}
use Rattle.rpc_items.specs.Drawn.{asked_by, is_cancelled, is_forgotten}
use Rattle.rpc_items.specs.Outcomes.{response_in}
use Rattle.rpc_items.specs.Reports.{report_by, report_in, reports}
use Rattle.rpc_items.specs.Waiting.{asks, is_waiting}
use Rattle.rpc_items.proofs.Settling.{other}
use Rattle.call_table.specs.Table.{TableValue}
use Rattle.call_table.specs.Stands.{TableStands}
use Rattle.call_table.proofs.Answering.{unasked_waits}
use Rattle.rpc_items.proofs.Reported.{reports_nothing}
use Rattle.rpc_items.proofs.Undrawn.{call_same}
use Rattle.call_table.proofs.Standing.{passed}

-- a call that neither draws a request nor forgets or cancels one, nor takes a report or answers a request of the peer
pub record IsQuietCall (call : RpcCall) : Type 0 where
  pub asked : asked_by (Did call) ≡ []
  pub forgotten : (n : ℕ) (items : List RpcItem) → is_forgotten n (Did call ∷ items) ≡ is_forgotten n items
  pub cancelled : (n : ℕ) (items : List RpcItem) → is_cancelled n (Did call ∷ items) ≡ is_cancelled n items
  pub reported : (n : ℕ) (items : List RpcItem) → reports n (Did call ∷ items) ≡ reports n items
  pub waiting : (id : Id) (items : List RpcItem) → is_waiting id (Did call ∷ items) ≡ is_waiting id items

pub call_leaves : (stopped : Bool) (table : TableValue) (call : RpcCall) (items : List RpcItem) → IsQuietCall call → TableStands stopped table items → TableStands stopped table (Did call ∷ items)
call_leaves stopped table call items q s =
    passed stopped table (Did call) items (record { asked = q.asked; forgotten = λ n. q.forgotten n items; answers = λ n. call_same n call items; cancelled = λ n. q.cancelled n items; reported = λ n. q.reported n items; running = refl }) (λ id. q.waiting id items) s

pub tell_leaves : (stopped : Bool) (table : TableValue) (method : List ℕ) (args : Arguments) (items : List RpcItem) → TableStands stopped table items → TableStands stopped table (Did (Tell method args) ∷ items)
tell_leaves stopped table method args items s = call_leaves stopped table (Tell method args) items (record { asked = refl; forgotten = λ n later. refl; cancelled = λ n later. refl; reported = λ n later. refl; waiting = λ id later. refl }) s

pub report_leaves : (stopped : Bool) (table : TableValue) (id token : Id) (value : Tree) (items : List RpcItem) → TableStands stopped table items → TableStands stopped table (Did (Report id token value) ∷ items)
report_leaves stopped table id token value items s = call_leaves stopped table (Report id token value) items (record { asked = refl; forgotten = λ n later. refl; cancelled = λ n later. refl; reported = λ n later. refl; waiting = λ i later. refl }) s

pub abort_leaves : (stopped : Bool) (table : TableValue) (n : ℕ) (items : List RpcItem) → TableStands stopped table items → TableStands stopped table (Did (Abort n) ∷ items)
abort_leaves stopped table n items s = call_leaves stopped table (Abort n) items (record { asked = refl; forgotten = λ m later. refl; cancelled = λ m later. refl; reported = λ m later. refl; waiting = λ id later. refl }) s

pub release_leaves : (stopped : Bool) (table : TableValue) (key : HandleKey) (items : List RpcItem) → TableStands stopped table items → TableStands stopped table (Did (Release key) ∷ items)
release_leaves stopped table key items s = call_leaves stopped table (Release key) items (record { asked = refl; forgotten = λ m later. refl; cancelled = λ m later. refl; reported = λ m later. refl; waiting = λ id later. refl }) s

-- a message that is a response to no request, and reports nothing
pub message_leaves : (stopped : Bool) (table : TableValue) (place : ℕ) (message : Message) (items : List RpcItem) → ((n : ℕ) → response_in n message ≡ None) → ((n : ℕ) → report_in n message ≡ [])
    → ((id : Id) → is_waiting id (Got place message ∷ items) ≡ is_waiting id items) → TableStands stopped table items → TableStands stopped table (Got place message ∷ items)
message_leaves stopped table place message items none nothing w s =
    passed stopped table (Got place message) items
    (record {
      asked = refl;
      forgotten = λ n. refl;
      answers = λ n. other n place message items (none n);
      cancelled = λ n. refl;
      reported = λ n. reports_nothing n place message items (nothing n);
      running = refl;
    }) w s

pub notification_leaves : (stopped : Bool) (table : TableValue) (place : ℕ) (method : List ℕ) (params : Params) (items : List RpcItem) → ((n : ℕ) → report_by n (meaning method params) ≡ []) → TableStands stopped table items → TableStands stopped table (Got place (Notification method params) ∷ items)
notification_leaves stopped table place method params items nothing s = message_leaves stopped table place (Notification method params) items (λ n. refl) nothing (λ id. refl) s

pub nameless_error_leaves : (stopped : Bool) (table : TableValue) (place : ℕ) (code : ℤ) (text : List ℕ) (more : Option Tree) (items : List RpcItem) → TableStands stopped table items → TableStands stopped table (Got place (Error None code text more) ∷ items)
nameless_error_leaves stopped table place code text more items s = message_leaves stopped table place (Error None code text more) items (λ n. refl) (λ n. refl) (λ id. refl) s

-- a request that the service needn't answer, and that reports nothing, where none with its id waits
pub unasked_leaves : (stopped : Bool) (table : TableValue) (place : ℕ) (id : Id) (method : List ℕ) (params : Params) (items : List RpcItem) → asks (meaning method params) items ≡ false → ((n : ℕ) → report_by n (meaning method params) ≡ []) → is_waiting id items ≡ false
    → TableStands stopped table items → TableStands stopped table (Got place (Request id method params) ∷ items)
unasked_leaves stopped table place id method params items unasked nothing free s = message_leaves stopped table place (Request id method params) items (λ n. refl) nothing (unasked_waits place id method params items unasked free) s
