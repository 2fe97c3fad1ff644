-- Which calls and messages are refused, and why.
use Rattle.std.specs.Prelude.{ℕ, List, length, drop, ◌==◌, Bool, true, false, not, ◌&&◌, ◌||◌, nat_lt, nat_le, if◌then◌else◌, Option, Some, None}
use Rattle.std.specs.List.{list_any}
use Rattle.wire_base.specs.declared.state.Cause.{Cause}
use Rattle.wire_base.specs.declared.reason.Reason.{Reason}
use Rattle.wire_base.specs.declared.refusal.Refusal.{Refusal}
use Rattle.wire_base.specs.declared.text.Id.{Id}
use Rattle.wire_base.specs.declared.reason.Reason.TheVariants as reason
use Rattle.wire_base.specs.declared.refusal.Refusal.TheVariants as refusal
use Rattle.wire_base.specs.Options.{or_else}
use Rattle.rpc_items.specs.declared.calls.Answer.{Answer}
use Rattle.rpc_items.specs.declared.calls.HandleKey.{HandleKey}
use Rattle.rpc_items.specs.declared.messages.Message.{Message}
use Rattle.rpc_items.specs.declared.messages.Message.TheVariants.{Request}
use Rattle.rpc_items.specs.declared.calls.Answer.TheVariants as answer
use Rattle.rpc_items.specs.Writing.{message_value}
use Rattle.rpc_items.specs.Keys.{peer_key}
use Rattle.rpc_items.specs.Objects.{is_reserved_value}
use Rattle.rpc_items.specs.Methods.{is_reserved}
use Rattle.rpc_items.specs.Items.{RpcCall, Ask, Tell, Respond, Cancel, Report, TakeReport, Next, Abort, Invoke, Release, Forget, RpcItem, Did, ended}
use Rattle.rpc_items.specs.Drawn.{arg_list, drawn, is_drawn, is_forgotten, is_cancelled}
use Rattle.rpc_items.specs.Made.{last_handle}
use Rattle.rpc_items.specs.Produced.{last_token}
use Rattle.rpc_items.specs.Outcomes.{is_unanswered, outcome, is_known}
use Rattle.rpc_items.specs.Reports.{has_progress}
use Rattle.rpc_items.specs.Waiting.{is_waiting}
use Rattle.rpc_items.specs.Handles.{is_made, has_ended}
use Rattle.rpc_items.specs.Pages.{page_values}
use Rattle.rpc_items.specs.Sequences.{is_turning, sequence_of}
use Rattle.rpc_items.specs.Saying.{response, said}
use Rattle.rpc_items.specs.Bodies.{Encoder, first_refusal, sequence_refusal}
use Rattle.rpc_items.specs.Arguments.{most_drawn, args_refusal, needs_request}

-- why a call is refused that is made before the end alone
abbrev pub unless_ended : Option Cause → Option Refusal → Option Refusal
unless_ended (Some cause) otherwise = Some (refusal.Ended cause)
unless_ended None otherwise = otherwise

-- methods of the extensions can't be called as the service's
abbrev pub reserved_refusal : List ℕ → Option Refusal
reserved_refusal method = if is_reserved method then Some refusal.ReservedMethod else None

-- no more than so many requests are drawn
abbrev pub number_refusal : List RpcItem → Option Refusal
number_refusal items = if nat_le most_drawn (drawn items) then Some refusal.TooManyRequests else None

-- why a handle can't be called or released
abbrev pub handle_refusal : HandleKey → List RpcItem → Option Refusal
handle_refusal key items = if not (is_made key items) then Some refusal.NoHandle else if has_ended key items then Some refusal.Released else None

-- whether there is a token
abbrev pub has_sequence : Option Id → Bool
has_sequence (Some token) = true
has_sequence None = false

-- why no page can be asked for, nor the sequence given up
abbrev pub turn_refusal : ℕ → List RpcItem → Option Refusal
turn_refusal n items = if not (has_sequence (sequence_of n items)) then Some refusal.NoEnumerable else if is_turning n items then Some refusal.NextOutstanding else None

-- why an answer is refused
abbrev pub answer_refusal : Answer → List RpcItem → Option Refusal
answer_refusal (answer.Value value) items = if is_reserved_value value then Some refusal.ReservedMember else None
answer_refusal (answer.Object object) items = if nat_le most_drawn (last_handle items) then Some refusal.TooManyHandles else None
answer_refusal (answer.Sequence values page first) items =
    if page == 0 then Some refusal.BadPage
    else if nat_lt first (length values) && nat_le most_drawn (last_token items) then Some refusal.TooManySequences
    else None
answer_refusal (answer.Fault code text more) items = None

-- what is wrong with the state of the connection or with the call's arguments
abbrev pub state_refusal : RpcCall → List RpcItem → Option Refusal
state_refusal (Ask method args expect) items = or_else (reserved_refusal method) (or_else (args_refusal args items) (number_refusal items))
state_refusal (Tell method args) items =
    or_else (reserved_refusal method) (or_else (if list_any needs_request (arg_list args) then Some refusal.NeedsRequest else None) (args_refusal args items))
state_refusal (Respond id response) items = if is_waiting id items then answer_refusal response items else Some refusal.NoRequest
state_refusal (Cancel n) items = if not (is_unanswered n items) then Some refusal.NoRequest else if is_cancelled n items then Some refusal.AlreadyCancelled else None
state_refusal (Report id token value) items = if is_waiting id items then None else Some refusal.NoRequest
state_refusal (TakeReport n) items =
    if not (is_drawn n items) || is_forgotten n items then Some refusal.NoRequest else if has_progress n items then None else Some refusal.NoToken
state_refusal (Next n) items = or_else (turn_refusal n items) (number_refusal items)
state_refusal (Abort n) items = turn_refusal n items
state_refusal (Invoke handle method args expect) items = or_else (handle_refusal (peer_key handle) items) (or_else (args_refusal args items) (number_refusal items))
state_refusal (Release key) items = handle_refusal key items
state_refusal (Forget n) items = if is_known (outcome false n items) then None else Some refusal.NoRequest

-- what is wrong with what a call would say
abbrev pub said_refusal : Encoder → RpcCall → List RpcItem → Option Refusal
said_refusal k (Respond id (answer.Sequence values page first)) items =
    sequence_refusal k (message_value (response id (answer.Sequence values page first) items)) values (page_values (length values) page (drop first values))
said_refusal k call items = first_refusal k (said (Did call) items)

-- whether a call can be made after the end
abbrev pub is_of_the_past : RpcCall → Bool
is_of_the_past (TakeReport n) = true
is_of_the_past (Forget n) = true
is_of_the_past call = false

-- why a call is refused after these items, if it is
abbrev pub call_refusal : Encoder → RpcCall → List RpcItem → Option Refusal
call_refusal k call items =
    if is_of_the_past call then state_refusal call items
    else unless_ended (ended items) (or_else (state_refusal call items) (said_refusal k call items))

-- why a message is refused after these items, if it is: a request whose id is that of one that waits
abbrev pub message_refusal : Message → List RpcItem → Option Reason
message_refusal (Request id method params) items = if is_waiting id items then Some reason.DuplicateRequest else None
message_refusal message items = None
