-- What the calls of a running end are refused for, and what they make of it.
use Rattle.std.specs.Prelude.{◌≡◌, ℕ, ◌+◌, List, [], ◌∷◌, length, drop, if◌then◌else◌, Option, Some, None, Result, Ok, Err}
use Rattle.std.specs.List.{list_any}
use Rattle.call_table.specs.Replies.{full_refusal}
use Rattle.call_table.specs.Table.{answered, begun, waits_in}
use Rattle.enumerables.specs.declared.followed.Followed.{Followed}
use Rattle.enumerables.specs.Consumer.{found, token_at}
use Rattle.enumerables.specs.Producer.{produce_refusal, with_sequence}
use Rattle.marshalled_handles.specs.Arguments.{handed_refusal, objects_refusal, offered_all}
use Rattle.marshalled_handles.specs.Both.{holder_released, owner_released}
use Rattle.marshalled_handles.specs.Holder as holders
use Rattle.marshalled_handles.specs.Owner.{offered, room_refusal}
use Rattle.marshalled_handles.specs.Replies.{seen_refusal}
use Rattle.message_body.specs.Written.{encoder}
use Rattle.rpc_items.specs.Arguments.{has_reserved, needs_request}
use Rattle.rpc_items.specs.Bodies.{first_refusal, sequence_refusal}
use Rattle.rpc_items.specs.Drawn.{arg_list, has_progress_arg}
use Rattle.rpc_items.specs.Ids.{numbered_id}
use Rattle.rpc_items.specs.Objects.{object_value}
use Rattle.rpc_items.specs.Pages.{page_values}
use Rattle.rpc_items.specs.Refusals.{answer_refusal, reserved_refusal}
use Rattle.rpc_items.specs.Saying.{abort_message, params_of, response, result_of_sequence, turn_message, with_token}
use Rattle.rpc_items.specs.Writing.{message_value}
use Rattle.rpc_items.specs.declared.calls.Answer.{Answer}
use Rattle.rpc_items.specs.declared.calls.Answer.TheVariants as answer
use Rattle.rpc_items.specs.declared.calls.Arguments.{Arguments}
use Rattle.rpc_items.specs.declared.calls.Expect.{Expect}
use Rattle.rpc_items.specs.declared.calls.HandleKey.{HandleKey}
use Rattle.rpc_items.specs.declared.calls.Lifetime.TheVariants.{Explicit}
use Rattle.rpc_items.specs.declared.messages.Message.{Message}
use Rattle.rpc_items.specs.declared.messages.Message.TheVariants.{Request, Notification}
use Rattle.rpc_items.specs.declared.messages.Message.TheVariants as message
use Rattle.wire_base.specs.declared.fault.CallFault.{CallFault}
use Rattle.wire_base.specs.declared.fault.CallFault.TheVariants as fault
use Rattle.wire_base.specs.declared.refusal.Refusal.{Refusal}
use Rattle.wire_base.specs.declared.refusal.Refusal.TheVariants as refusal
use Rattle.wire_base.specs.declared.state.EndState.{EndState}
use Rattle.wire_base.specs.declared.state.EndState.TheVariants as state
use Rattle.wire_base.specs.declared.text.Id.{Id}
use Rattle.wire_base.specs.Options.{or_else}
use Rattle.rpc_end.specs.Ends.{Makes, with_holder, with_owner, with_producer, with_said, with_stop, with_table}
use Rattle.rpc_end.specs.Stands.{RpcValue}

-- why a call of an end in this state is refused
abbrev pub running_refusal : EndState → Option Refusal
running_refusal state.Running = None
running_refusal (state.Ended cause) = Some (refusal.Ended cause)
running_refusal state.Stopped = Some refusal.Stopped

-- why arguments are refused for the values among them
abbrev pub member_refusal : Arguments → Option Refusal
member_refusal args = if has_reserved args then Some refusal.ReservedMember else None

-- why arguments are refused
abbrev pub arguments_refusal : Arguments → RpcValue → Option Refusal
arguments_refusal args end = or_else (member_refusal args) (or_else (handed_refusal (arg_list args) end.holder) (objects_refusal (arg_list args) end.owner))

-- why a request is refused, behind what is wrong with its method or with the handle that it calls
abbrev pub drawing_refusal : Arguments → RpcValue → Option Refusal
drawing_refusal args end = or_else (arguments_refusal args end) (full_refusal end.table)

-- why a request to the service is refused
abbrev pub asking_refusal : (method : List ℕ) → Arguments → RpcValue → Option Refusal
asking_refusal method args end = or_else (reserved_refusal method) (drawing_refusal args end)

-- why a call on a handle of the peer is refused
abbrev pub invoking_refusal : (handle : ℕ) → Arguments → RpcValue → Option Refusal
invoking_refusal handle args end = or_else (seen_refusal (holders.end_in handle end.holder)) (drawing_refusal args end)

-- why arguments are refused that only a request may have
abbrev pub needs_refusal : Arguments → Option Refusal
needs_refusal args = if list_any needs_request (arg_list args) then Some refusal.NeedsRequest else None

-- why a notification is refused
abbrev pub told_refusal : (method : List ℕ) → Arguments → RpcValue → Option Refusal
told_refusal method args end = or_else (reserved_refusal method) (or_else (needs_refusal args) (arguments_refusal args end))

-- the number of the next request
abbrev pub next_number : RpcValue → ℕ
next_number end = length end.table.requests + 1

-- the next request
abbrev pub next_request : (method : List ℕ) → Arguments → RpcValue → List Message
next_request method args end = Request (numbered_id (next_number end)) method (params_of (next_number end) (length end.owner) args) ∷ []

-- a notification
abbrev pub next_notification : (method : List ℕ) → Arguments → RpcValue → List Message
next_notification method args end = Notification method (params_of 0 (length end.owner) args) ∷ []

-- the objects among arguments get handles, which may end with the response to this request
abbrev pub with_objects : (request : Option ℕ) → Arguments → RpcValue → RpcValue
with_objects request args end = with_owner (offered_all request (arg_list args) end.owner) end

-- a request draws its number, and its objects get handles
abbrev pub with_request : Arguments → Expect → RpcValue → RpcValue
with_request args expect end = with_objects (Some (next_number end)) args (with_table (begun expect (has_progress_arg (arg_list args)) end.table) end)

-- the response with an answer; a sequence gets the next token, and an object the next handle
abbrev pub response_by : Id → Answer → RpcValue → Message
response_by id (answer.Sequence values page first) end = message.Result id (result_of_sequence values first (length end.producer + 1))
response_by id (answer.Object object) end = message.Result id (object_value (length end.owner + 1) Explicit)
response_by id given end = response id given []

-- why an answer is refused
abbrev pub given_refusal : Answer → RpcValue → Option Refusal
given_refusal (answer.Sequence values page first) end = produce_refusal (length values) page first end.producer
given_refusal (answer.Object object) end = room_refusal 1 end.owner
given_refusal given end = answer_refusal given []

-- the same of an answer to a request, which has to wait
abbrev pub responding_refusal : Id → Answer → RpcValue → Option Refusal
responding_refusal id given end = if waits_in id end.table then given_refusal given end else Some refusal.NoRequest

-- why the response can't be written, or a later page of it
abbrev pub unwritten : Id → Answer → RpcValue → Option Refusal
unwritten id (answer.Sequence values page first) end =
    sequence_refusal (encoder end.terms.encoding) (message_value (response_by id (answer.Sequence values page first) end)) values (page_values (length values) page (drop first values))
unwritten id given end = first_refusal (encoder end.terms.encoding) (response_by id given end ∷ [])

-- what an answer adds: a sequence, or an object with its handle
abbrev pub with_given : Answer → RpcValue → RpcValue
with_given (answer.Sequence values page first) end = with_producer (with_sequence values page first end.producer) end
with_given (answer.Object object) end = with_owner (offered (record { object = object; until = None }) end.owner) end
with_given given end = end

-- a request of the peer is answered: it waits no more, and the handles end that do with its response
abbrev pub with_replied : Id → RpcValue → RpcValue
with_replied id end = with_holder (holders.responded id end.holder) (with_table (answered id end.table) end)

-- what a response makes of an end
abbrev pub with_response : Id → Answer → RpcValue → RpcValue
with_response id given end = with_said (response_by id given end ∷ []) (with_given given (with_replied id end))

-- a handle of either side ends
abbrev pub with_released : HandleKey → RpcValue → RpcValue
with_released key end = with_holder (holder_released key end.holder) (with_owner (owner_released key end.owner) end)

-- the request for the next page of the sequence that request n's result is, with this number
abbrev pub page_asked : (n number : ℕ) → List Followed → List Message
page_asked n number followed = with_token (token_at (found n followed)) (turn_message number)

-- the notification that gives this sequence up
abbrev pub pages_left : ℕ → List Followed → List Message
pages_left n followed = with_token (token_at (found n followed)) abort_message

-- a test is passed where nothing is refused, and else answers why
abbrev pub Tests : {A : Type 0} → Option Refusal → Result A CallFault → Type 0
Tests refused (Ok done) = refused ≡ None
Tests refused (Err (fault.Refused r)) = refused ≡ Some r
Tests refused (Err fault.OutOfMemory) = ⊥

-- what a call says is written unless it is refused, early or because of that; want of memory comes only after the
-- early refusals
abbrev pub Prepares : {A : Type 0} → (early late : Option Refusal) → Result A CallFault → Type 0
Prepares early late (Ok done) = (early ≡ None) × (late ≡ None)
Prepares early late (Err (fault.Refused r)) = or_else early late ≡ Some r
Prepares early late (Err fault.OutOfMemory) = early ≡ None

-- a call is refused early, or because of these messages; else it says them, makes this of the end, and answers so
abbrev pub Calls : {A : Type 0} → (old new : RpcValue) → (early : Option Refusal) → List Message → (now : RpcValue) → A → Result A CallFault → Type 0
Calls old new early messages now x result = Makes old new early (first_refusal (encoder old.terms.encoding) messages) (with_said messages now) x result

-- a response is said unless it is refused, and what is left of a sequence is kept
abbrev pub Responds : {A : Type 0} → (old new : RpcValue) → Id → Answer → A → Result A CallFault → Type 0
Responds old new id given x result = Makes old new (responding_refusal id given old) (unwritten id given old) (with_response id given old) x result

-- want of memory in a call stops an end
abbrev pub finished : {A : Type 0} → Result A CallFault → RpcValue → RpcValue
finished (Ok x) end = end
finished (Err (fault.Refused r)) end = end
finished (Err fault.OutOfMemory) end = with_stop end
