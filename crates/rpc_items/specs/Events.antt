-- What an applied message was to this end.
use Rattle.std.specs.Prelude.{ℕ, List, ◌&&◌, if◌then◌else◌, Option, Some, None}
use Rattle.wire_base.specs.declared.text.Id.{Id}
use Rattle.rpc_items.specs.declared.calls.RpcEvent.{RpcEvent}
use Rattle.rpc_items.specs.declared.calls.Target.{Target}
use Rattle.rpc_items.specs.declared.messages.Message.{Message}
use Rattle.rpc_items.specs.declared.messages.Message.TheVariants.{Request, Notification}
use Rattle.rpc_items.specs.declared.messages.Params.{Params}
use Rattle.rpc_items.specs.declared.calls.RpcEvent.TheVariants as event
use Rattle.rpc_items.specs.declared.calls.Target.TheVariants as target
use Rattle.rpc_items.specs.declared.messages.Message.TheVariants as message
use Rattle.rpc_items.specs.declared.methods.Meaning.{Meaning}
use Rattle.rpc_items.specs.declared.methods.Meaning.TheVariants.{Serves, Cancels, Reports, Releases, Calls}
use Rattle.rpc_items.specs.Meanings.{meaning}
use Rattle.rpc_items.specs.Items.{RpcItem}
use Rattle.rpc_items.specs.Made.{Made, made}
use Rattle.rpc_items.specs.Outcomes.{request_named}
use Rattle.rpc_items.specs.Reports.{has_progress}
use Rattle.rpc_items.specs.OwnHandles.{own_made, own_live}
use Rattle.rpc_items.specs.Waiting.{is_waiting}
use Rattle.rpc_items.specs.Handles.{is_live}

-- the object that a handle names
abbrev pub object_target : Option Made → ℕ → Target
object_target (Some made) handle = target.Object made.object handle
object_target None handle = target.Root

-- a response answers a request, or is a stray one
abbrev pub answered_event : Option ℕ → RpcEvent
answered_event (Some n) = event.Answered n
answered_event None = event.Stray

-- a report is told where it is kept
abbrev pub reported_event : Option ℕ → List ℕ → List RpcItem → RpcEvent
reported_event (Some n) method items = if has_progress n items then event.Reported n else event.Handled method
reported_event None method items = event.Handled method

-- the event of an extension, from a request and from a notification
abbrev pub handled_event : Meaning → List ℕ → List RpcItem → RpcEvent
handled_event (Cancels id) method items = if is_waiting id items then event.Cancelled id else event.Handled method
handled_event (Reports token value) method items = reported_event (request_named token items) method items
handled_event (Releases key) method items = if key.own && is_live key items then event.Released key else event.Handled method
handled_event meaning method items = event.Handled method

-- the event of a request
abbrev pub request_event : Id → Meaning → List ℕ → Params → List RpcItem → RpcEvent
request_event id Serves method params items = event.Asked id target.Root method params
request_event id (Calls handle called) method params items = if own_live handle items then event.Asked id (object_target (own_made handle items) handle) called params else event.Handled method
request_event id meaning method params items = handled_event meaning method items

-- the event of a notification
abbrev pub notification_event : Meaning → List ℕ → Params → List RpcItem → RpcEvent
notification_event Serves method params items = event.Told method params
notification_event meaning method params items = handled_event meaning method items

-- the event of an error, which may be without an id
abbrev pub error_event : Option Id → List RpcItem → RpcEvent
error_event (Some id) items = answered_event (request_named id items)
error_event None items = event.Stray

-- the event of a message that was applied after these items
abbrev pub event_of : Message → List RpcItem → RpcEvent
event_of (Request id method params) items = request_event id (meaning method params) method params items
event_of (Notification method params) items = notification_event (meaning method params) method params items
event_of (message.Result id value) items = answered_event (request_named id items)
event_of (message.Error id code text more) items = error_event id items
