-- What a call of an end with connections leaves, as one value and its reply.
use Rattle.std.specs.Prelude.{◌≡◌, ℕ, List, Option, Some, None, Result, Ok, Err}
use Rattle.wire_base.specs.declared.fault.CallFault.{CallFault}
use Rattle.wire_base.specs.declared.fault.CallFault.TheVariants as fault
use Rattle.wire_base.specs.declared.frame.Version.{Version}
use Rattle.wire_base.specs.declared.refusal.Refusal.{Refusal}
use Rattle.wire_base.specs.declared.refusal.Refusal.TheVariants as refusal
use Rattle.wire_base.specs.declared.state.EndState.TheVariants as state
use Rattle.endpoint_items.specs.declared.call.Call.{Call}
use Rattle.endpoint_items.specs.declared.reply.Reply.{Reply}
use Rattle.endpoint_items.specs.declared.reply.Reply.TheVariants as reply
use Rattle.rpc_items.specs.Outcomes.{Look}
use Rattle.endpoint_items.specs.Asked.{made_by, reply_to, look_reply}
use Rattle.endpoint_items.specs.Calls.{EndCall, call_refusal, item_of}
use Rattle.endpoint_items.specs.Items.{EndItem}
use Rattle.endpoint.specs.Replies.{Adds, early_refusal}
use Rattle.endpoint.specs.Value.{EndpointValue}

-- the item that an accepted call adds; a refused call and a question add none
abbrev pub item_unless : Option Refusal → EndItem → Option EndItem
item_unless (Some r) item = None
item_unless None item = Some item

abbrev pub item_made : Version → Option EndCall → List EndItem → Option EndItem
item_made v (Some c) items = item_unless (call_refusal v c items) (item_of v c items)
item_made v None items = None

-- why a call is refused before anything needs memory
abbrev pub early_made : Version → Option EndCall → List EndItem → Option Refusal
early_made v (Some c) items = early_refusal v c items
early_made v None items = None

-- the end stays as it is, or stands for one more item
abbrev pub Leaves : EndpointValue → EndpointValue → List EndItem → ℕ → List ℕ → Option EndItem → Type 0
Leaves old new items at rest None = new ≡ old
Leaves old new items at rest (Some item) = Adds old new items at rest item

-- a call is answered as the items say, and adds its item where it is made and not refused. Want of memory may come first only
-- where no refusal comes before what the call says is written, and stops the end
abbrev pub Applies : EndpointValue → EndpointValue → List EndItem → ℕ → List ℕ → Call → Reply → Type 0
Applies old new items at rest call reply.OutOfMemory = (early_made old.mux.version (made_by call) items ≡ None) × (new.state ≡ state.Stopped)
Applies old new items at rest call r = (r ≡ reply_to old.mux.version call items) × Leaves old new items at rest (item_made old.mux.version (made_by call) items)

-- a stopped end refuses every call, and stays as it is
abbrev pub StaysStopped : EndpointValue → EndpointValue → Reply → Type 0
StaysStopped old new r = old.state ≡ state.Stopped → (r ≡ reply.Refused refusal.Stopped) × (new ≡ old)

-- what a call answered, as a reply
abbrev pub as_reply : Result Reply CallFault → Reply
as_reply (Ok r) = r
as_reply (Err (fault.Refused r)) = reply.Refused r
as_reply (Err fault.OutOfMemory) = reply.OutOfMemory

-- what is told of a request, if memory doesn't run out
abbrev pub TellsOf : Look → Result Reply CallFault → Type 0
TellsOf look (Err fault.OutOfMemory) = Unit {0}
TellsOf look r = as_reply r ≡ look_reply look
