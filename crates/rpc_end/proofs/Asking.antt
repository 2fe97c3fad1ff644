-- What an end is after requests, notifications, cancellations, reports and releases, and what refuses these.
use Rattle.std.specs.Prelude.{ℕ, ◌+◌, List, [], ◌∷◌, true, false, nat_le, if◌then◌else◌, Option, Some, None}
use Rattle.std.proofs.Common.{◌≡◌, refl, sym, ◌∙◌, ap, subst}
use Rattle.call_table.specs.Replies.{cancel_refusal, unless_there}
use Rattle.call_table.specs.Stands.{TableStands, asked_as}
use Rattle.call_table.specs.Table.{TableValue, begun, waits_in, with_cancelled}
use Rattle.call_table.proofs.After.{begun_after, cancelled_after}
use Rattle.call_table.proofs.Passing.{release_leaves, report_leaves, tell_leaves}
use Rattle.enumerables.proofs.Passing.{call_leaves_consumer, call_leaves_producer, is_page_call}
use Rattle.marshalled_handles.specs.declared.own_handle.OwnHandle.{OwnHandle}
use Rattle.marshalled_handles.specs.Arguments.{offered_all}
use Rattle.marshalled_handles.specs.Both.{end_in, holder_released, owner_released}
use Rattle.marshalled_handles.specs.Holder as holders
use Rattle.marshalled_handles.specs.Replies.{seen_refusal}
use Rattle.marshalled_handles.specs.Stands.{OwnerStands}
use Rattle.marshalled_handles.proofs.Arguments.{args_as, asked_stands, invoked_stands, told_stands}
use Rattle.marshalled_handles.proofs.Owning.{is_release_call}
use Rattle.marshalled_handles.proofs.Passing.{call_leaves_holder, call_leaves_owner, is_end_call}
use Rattle.marshalled_handles.proofs.Reading.{held_as, refused_as}
use Rattle.marshalled_handles.proofs.Sides.{holder_let_go_after, owner_let_go_after, refused}
use Rattle.rpc_items.specs.declared.calls.Arguments.{Arguments}
use Rattle.rpc_items.specs.declared.calls.Expect.{Expect}
use Rattle.rpc_items.specs.declared.calls.HandleKey.{HandleKey}
use Rattle.rpc_items.specs.declared.messages.Message.TheVariants.{Request, Notification}
use Rattle.rpc_items.specs.Arguments.{args_refusal, most_drawn}
use Rattle.rpc_items.specs.Drawn.{arg_list, asked_by, drawn, has_progress_arg}
use Rattle.rpc_items.specs.Ids.{numbered_id}
use Rattle.rpc_items.specs.Items.{RpcCall, Ask, Tell, Cancel, Report, Invoke, Release, RpcItem, Did, is_running}
use Rattle.rpc_items.specs.Keys.{peer_key}
use Rattle.rpc_items.specs.Made.{made_by}
use Rattle.rpc_items.specs.Produced.{produced_by}
use Rattle.rpc_items.specs.Refusals.{handle_refusal, number_refusal, reserved_refusal, state_refusal}
use Rattle.rpc_items.specs.Saying.{asks_next, params_of, said}
use Rattle.wire_base.specs.Tree.{Tree}
use Rattle.wire_base.specs.declared.refusal.Refusal.{Refusal}
use Rattle.wire_base.specs.declared.refusal.Refusal.TheVariants as refusal
use Rattle.wire_base.specs.declared.text.Id.{Id}
use Rattle.wire_base.specs.Options.{or_else}
use Rattle.rpc_end.specs.Calls.{arguments_refusal, asking_refusal, drawing_refusal, invoking_refusal, needs_refusal, next_notification, next_number, next_request, told_refusal, with_objects, with_released, with_request}
use Rattle.rpc_end.specs.Ends.{with_owner, with_table}
use Rattle.rpc_end.specs.Stands.{RpcStands, RpcValue}
use Rattle.rpc_end.proofs.Answering.{KeepsFor}

-- a call that draws no token, asks for no page and ends no handle
pub record IsPlain (call : RpcCall) : Type 0 where
  pub tokens : produced_by (Did call) ≡ []
  pub pages : is_page_call call ≡ false
  pub ends : is_end_call call ≡ false
  pub releases : is_release_call call ≡ false

module _ (old : RpcValue) (items : List RpcItem) (at : ℕ) (rest : List ℕ) (s : RpcStands old items at rest) where
  -- such a call changes no more than requests and own handles
  plain_keeps : (call : RpcCall) (table : TableValue) (handles : List OwnHandle) → IsPlain call → TableStands false table (Did call ∷ items) → OwnerStands handles (Did call ∷ items) → KeepsFor (with_owner handles (with_table table old)) (Did call ∷ items)
  plain_keeps call table handles plain t o = record {
    table = t;
    producer = call_leaves_producer old.producer call items plain.tokens s.producer;
    consumer = call_leaves_consumer old.consumer call items plain.pages s.consumer;
    owner = o;
    holder = call_leaves_holder old.holder call items plain.ends s.holder;
  }

  -- one that makes no handle changes no more than requests
  pub table_keeps : (call : RpcCall) (table : TableValue) → IsPlain call → made_by (drawn items + 1) (Did call) ≡ [] → TableStands false table (Did call ∷ items) → KeepsFor (with_table table old) (Did call ∷ items)
  table_keeps call table plain none t = plain_keeps call table old.owner plain t (call_leaves_owner old.owner call items none plain.releases s.owner)

  arguments_early : (args : Arguments) → arguments_refusal args old ≡ args_refusal args items
  arguments_early args = sym (args_as args old.owner old.holder items s.owner s.holder)

  -- requests

  drawing_early : (args : Arguments) → drawing_refusal args old ≡ or_else (args_refusal args items) (number_refusal items)
  drawing_early args = λ i. or_else (arguments_early args i) (if nat_le most_drawn (s.table.count i) then Some refusal.TooManyRequests else None)

  pub ask_early : (method : List ℕ) (args : Arguments) (expect : Expect) → asking_refusal method args old ≡ state_refusal (Ask method args expect) items
  ask_early method args expect = ap (or_else (reserved_refusal method)) (drawing_early args)

  handle_early : (handle : ℕ) → seen_refusal (holders.end_in handle old.holder) ≡ handle_refusal (peer_key handle) items
  handle_early handle = ap seen_refusal (held_as handle old.holder items s.holder) ∙ refused_as (peer_key handle) items

  pub invoke_early : (handle : ℕ) (method : List ℕ) (args : Arguments) (expect : Expect) → invoking_refusal handle args old ≡ state_refusal (Invoke handle method args expect) items
  invoke_early handle method args expect = λ i. or_else (handle_early handle i) (drawing_early args i)

  pub request_says : (method : List ℕ) (args : Arguments) → next_request method args old ≡ asks_next (drawn items + 1) method args items
  request_says method args = λ i. Request (numbered_id (s.table.count i + 1)) method (params_of (s.table.count i + 1) (s.owner.count i) args) ∷ []

  request_keeps : (call : RpcCall) (args : Arguments) (expect : Expect) → IsPlain call → asked_by (Did call) ≡ asked_as expect (has_progress_arg (arg_list args)) None ∷ [] → OwnerStands (offered_all (Some (drawn items + 1)) (arg_list args) old.owner) (Did call ∷ items)
      → KeepsFor (with_request args expect old) (Did call ∷ items)
  request_keeps call args expect plain asks o =
      let table : TableValue = begun expect (has_progress_arg (arg_list args)) old.table in
      plain_keeps call table (offered_all (Some (next_number old)) (arg_list args) old.owner) plain (begun_after expect (has_progress_arg (arg_list args)) None call old.table table items refl s.table asks)
      (subst (λ (n : ℕ). OwnerStands (offered_all (Some (n + 1)) (arg_list args) old.owner) (Did call ∷ items)) (sym s.table.count) o)

  pub ask_keeps : (method : List ℕ) (args : Arguments) (expect : Expect) → is_running items ≡ true → KeepsFor (with_request args expect old) (Did (Ask method args expect) ∷ items)
  ask_keeps method args expect runs = request_keeps (Ask method args expect) args expect (record { tokens = refl; pages = refl; ends = refl; releases = refl }) refl (asked_stands method args expect old.owner items runs s.owner)

  pub invoke_keeps : (handle : ℕ) (method : List ℕ) (args : Arguments) (expect : Expect) → is_running items ≡ true → KeepsFor (with_request args expect old) (Did (Invoke handle method args expect) ∷ items)
  invoke_keeps handle method args expect runs =
      request_keeps (Invoke handle method args expect) args expect (record { tokens = refl; pages = refl; ends = refl; releases = refl }) refl (invoked_stands handle method args expect old.owner items runs s.owner)

  -- notifications

  pub tell_early : (method : List ℕ) (args : Arguments) → told_refusal method args old ≡ state_refusal (Tell method args) items
  tell_early method args = ap (λ (o : Option Refusal). or_else (reserved_refusal method) (or_else (needs_refusal args) o)) (arguments_early args)

  pub tell_says : (method : List ℕ) (args : Arguments) → next_notification method args old ≡ said (Did (Tell method args)) items
  tell_says method args = λ i. Notification method (params_of 0 (s.owner.count i) args) ∷ []

  pub tell_keeps : (method : List ℕ) (args : Arguments) → is_running items ≡ true → KeepsFor (with_objects None args old) (Did (Tell method args) ∷ items)
  tell_keeps method args runs =
      plain_keeps (Tell method args) old.table (offered_all None (arg_list args) old.owner) (record { tokens = refl; pages = refl; ends = refl; releases = refl }) (tell_leaves false old.table method args items s.table) (told_stands method args old.owner items runs s.owner)

  -- cancellations and reports

  pub cancel_keeps : (n : ℕ) → cancel_refusal n old.table ≡ None → KeepsFor (with_table (with_cancelled n old.table) old) (Did (Cancel n) ∷ items)
  cancel_keeps n free = table_keeps (Cancel n) (with_cancelled n old.table) (record { tokens = refl; pages = refl; ends = refl; releases = refl }) refl (cancelled_after n old.table (with_cancelled n old.table) items refl free s.table)

  pub report_early : (id token : Id) (value : Tree) → unless_there (waits_in id old.table) ≡ state_refusal (Report id token value) items
  report_early id token value = λ i. if s.table.waiting id i then None else Some refusal.NoRequest

  pub report_keeps : (id token : Id) (value : Tree) → KeepsFor old (Did (Report id token value) ∷ items)
  report_keeps id token value = table_keeps (Report id token value) old.table (record { tokens = refl; pages = refl; ends = refl; releases = refl }) refl (report_leaves false old.table id token value items s.table)

  -- releases

  pub release_early : (key : HandleKey) → seen_refusal (end_in key old.owner old.holder) ≡ state_refusal (Release key) items
  release_early key = refused old.owner old.holder items s.owner s.holder key

  pub release_keeps : (key : HandleKey) → KeepsFor (with_released key old) (Did (Release key) ∷ items)
  release_keeps key = record {
    table = release_leaves false old.table key items s.table;
    producer = call_leaves_producer old.producer (Release key) items refl s.producer;
    consumer = call_leaves_consumer old.consumer (Release key) items refl s.consumer;
    owner = owner_let_go_after key old.owner (owner_released key old.owner) items refl s.owner;
    holder = holder_let_go_after key old.holder (holder_released key old.holder) items refl s.holder;
  }
