-- What messages are to a running end, by what it holds.
use Rattle.std.specs.Prelude.{◌≡◌, ℕ, ◌+◌, List, [], ◌∷◌, take, drop, codes, Bool, true, false, ◌&&◌, is_some, if◌then◌else◌, Option, Some, None, Result, Ok, Err}
use Rattle.call_table.specs.Table.{TableValue, heard, reported, reported_in, settled, settled_in, waits_in}
use Rattle.call_table.specs.declared.answers.Settled.{Settled}
use Rattle.call_table.specs.declared.answers.Settled.TheVariants.{First, Stray}
use Rattle.enumerables.specs.declared.followed.Followed.{Followed}
use Rattle.enumerables.specs.declared.sequence.Sequence.{Sequence}
use Rattle.enumerables.specs.Consumer.{settled as followed_then}
use Rattle.enumerables.specs.Producer.{given_up, page_in, turned}
use Rattle.marshalled_handles.specs.declared.own_handle.OwnHandle.{OwnHandle}
use Rattle.marshalled_handles.specs.declared.peer_handle.PeerHandle.{PeerHandle}
use Rattle.marshalled_handles.specs.Both.{end_in, holder_released, owner_released}
use Rattle.marshalled_handles.specs.Holder.{adopting_all}
use Rattle.marshalled_handles.specs.Owner.{answered as handles_answered, object_in}
use Rattle.marshalled_handles.specs.Replies.{seen_living}
use Rattle.message_body.specs.AsRead.{AreMessages}
use Rattle.message_body.specs.Found.{body_in}
use Rattle.message_framing.specs.declared.front.Front.{Front}
use Rattle.message_framing.specs.declared.front.Front.TheVariants as fronts
use Rattle.rpc_items.specs.declared.calls.HandleKey.{HandleKey}
use Rattle.rpc_items.specs.declared.calls.Outcome.{Outcome}
use Rattle.rpc_items.specs.declared.calls.Outcome.TheVariants.{Replied, Failed}
use Rattle.rpc_items.specs.declared.calls.RpcEvent.{RpcEvent}
use Rattle.rpc_items.specs.declared.calls.RpcEvent.TheVariants as event
use Rattle.rpc_items.specs.declared.calls.Target.TheVariants as target
use Rattle.rpc_items.specs.declared.messages.Message.{Message}
use Rattle.rpc_items.specs.declared.messages.Message.TheVariants.{Request, Notification}
use Rattle.rpc_items.specs.declared.messages.Message.TheVariants as message
use Rattle.rpc_items.specs.declared.messages.Params.{Params}
use Rattle.rpc_items.specs.declared.methods.Meaning.{Meaning}
use Rattle.rpc_items.specs.declared.methods.Meaning.TheVariants.{Serves, Cancels, Reports, Turns, Aborts, Releases, Calls, Mistakes, Unknown}
use Rattle.rpc_items.specs.Automatic.{bad_arguments, done, fault, no_method, nothing_there}
use Rattle.rpc_items.specs.Fitting.{IsNamed}
use Rattle.rpc_items.specs.Meanings.{meaning}
use Rattle.rpc_items.specs.Objects.{whole_arguments}
use Rattle.wire_base.specs.Tree.{Tree}
use Rattle.wire_base.specs.declared.reason.Reason.{Reason}
use Rattle.wire_base.specs.declared.reason.Reason.TheVariants.{DuplicateRequest}
use Rattle.wire_base.specs.declared.state.EndState.TheVariants as state
use Rattle.wire_base.specs.declared.text.Id.{Id}
use Rattle.rpc_end.specs.declared.step.RpcStep.{RpcStep}
use Rattle.rpc_end.specs.declared.step.RpcStep.TheVariants as step
use Rattle.rpc_end.specs.Arrivals.{Arrival, Applies, Waits, Refuses, allowed_arrival}
use Rattle.rpc_end.specs.Ends.{with_applied, with_end, with_said}
use Rattle.rpc_end.specs.Replies.{refused_at}
use Rattle.rpc_end.specs.Stands.{RpcValue}

-- the event of a response, by what it is to the requests
abbrev pub settled_event : Settled → RpcEvent
settled_event (First n expect) = event.Answered n
settled_event Stray = event.Stray

-- the event of an error, which may be without an id
abbrev pub named_event : Option Id → TableValue → RpcEvent
named_event (Some id) table = settled_event (settled_in id table)
named_event None table = event.Stray

-- the table after an error that tells this
abbrev pub named_table : Option Id → Outcome → TableValue → TableValue
named_table (Some id) outcome table = settled (settled_in id table) outcome table
named_table None outcome table = table

-- a report is told where it is kept, by the request that it is kept for
abbrev pub report_event : Option ℕ → (method : List ℕ) → RpcEvent
report_event (Some n) method = event.Reported n
report_event None method = event.Handled method

-- whether the peer's release of a handle ends an object of this end
abbrev pub releases_object : HandleKey → List OwnHandle → List PeerHandle → Bool
releases_object key handles held = key.own && seen_living (end_in key handles held)

-- the event of an extension, by what it names: a request that waits, an own one that may be reported on, an object that lives
abbrev pub extension_event : Meaning → (method : List ℕ) → RpcValue → RpcEvent
extension_event (Cancels id) method end = if waits_in id end.table then event.Cancelled id else event.Handled method
extension_event (Reports token value) method end = report_event (reported_in token end.table) method
extension_event (Releases key) method end = if releases_object key end.owner end.holder then event.Released key else event.Handled method
extension_event meaning method end = event.Handled method

-- the event of a call on an object that there may be
abbrev pub object_event : Id → (object : Option ℕ) → (handle : ℕ) → (called method : List ℕ) → Params → RpcEvent
object_event id (Some object) handle called method params = event.Asked id (target.Object object handle) called params
object_event id None handle called method params = event.Handled method

-- the event of a request
abbrev pub request_event_by : Id → Meaning → (method : List ℕ) → Params → RpcValue → RpcEvent
request_event_by id Serves method params end = event.Asked id target.Root method params
request_event_by id (Calls handle called) method params end = object_event id (object_in handle end.owner) handle called method params
request_event_by id meaning method params end = extension_event meaning method end

-- the event of a notification
abbrev pub notification_event_by : Meaning → (method : List ℕ) → Params → RpcValue → RpcEvent
notification_event_by Serves method params end = event.Told method params
notification_event_by meaning method params end = extension_event meaning method end

-- the event of a message
abbrev pub event_by : Message → RpcValue → RpcEvent
event_by (Request id method params) end = request_event_by id (meaning method params) method params end
event_by (Notification method params) end = notification_event_by (meaning method params) method params end
event_by (message.Result id value) end = settled_event (settled_in id end.table)
event_by (message.Error id code text more) end = named_event id end.table

-- the answer to a request for a page: the page that there is, or that there is none
abbrev pub page_answer : Id → Option Tree → Message
page_answer id (Some page) = message.Result id page
page_answer id None = fault id nothing_there (codes "no sequence")

-- the answer to a call on an object that there may be: the service's, or that there is none
abbrev pub object_answers : Id → (object : Option ℕ) → List Message
object_answers id (Some object) = []
object_answers id None = fault id nothing_there (codes "no object") ∷ []

-- the answer that a request gets by itself
abbrev pub answers_by : Id → Meaning → RpcValue → List Message
answers_by id Serves end = []
answers_by id (Turns token) end = page_answer id (page_in token end.producer) ∷ []
answers_by id (Calls handle method) end = object_answers id (object_in handle end.owner)
answers_by id Mistakes end = fault id bad_arguments (codes "bad arguments") ∷ []
answers_by id Unknown end = fault id no_method (codes "no method") ∷ []
answers_by id meaning end = done id ∷ []

-- the messages that a message makes an end say
abbrev pub said_by : Message → RpcValue → List Message
said_by (Request id method params) end = answers_by id (meaning method params) end
said_by message end = []

-- whether a request with this meaning is for the service, or for an object that lives
abbrev pub asks_in : Meaning → List OwnHandle → Bool
asks_in Serves handles = true
asks_in (Calls handle method) handles = is_some (object_in handle handles)
asks_in meaning handles = false

-- the requests after an extension: a report may be kept
abbrev pub extended_by : Meaning → TableValue → TableValue
extended_by (Reports token value) table = reported (reported_in token table) value table
extended_by meaning table = table

-- the requests after a message: one may wait from now on
abbrev pub table_by : Message → RpcValue → TableValue
table_by (Request id method params) end = if asks_in (meaning method params) end.owner then heard id end.table else extended_by (meaning method params) end.table
table_by (Notification method params) end = extended_by (meaning method params) end.table
table_by (message.Result id value) end = settled (settled_in id end.table) (Replied value) end.table
table_by (message.Error id code text more) end = named_table id (Failed code text more) end.table

-- a request for a page was answered
abbrev pub turned_by : Meaning → List Sequence → List Sequence
turned_by (Turns token) sequences = turned token sequences
turned_by meaning sequences = sequences

-- a sequence may be given up
abbrev pub left_by : Meaning → List Sequence → List Sequence
left_by (Aborts token) sequences = given_up token sequences
left_by meaning sequences = sequences

-- the sequences that were answered, after a message
abbrev pub producer_by : Message → List Sequence → List Sequence
producer_by (Request id method params) sequences = left_by (meaning method params) (turned_by (meaning method params) sequences)
producer_by (Notification method params) sequences = left_by (meaning method params) sequences
producer_by message sequences = sequences

-- the sequences that are followed, after what a response is
abbrev pub followed_by : Settled → Outcome → List Followed → List Followed
followed_by (First n expect) outcome followed = followed_then n expect outcome followed
followed_by Stray outcome followed = followed

-- the sequences that are followed, after an error that tells this
abbrev pub named_followed : Option Id → Outcome → TableValue → List Followed → List Followed
named_followed (Some id) outcome table followed = followed_by (settled_in id table) outcome followed
named_followed None outcome table followed = followed

-- the sequences that are followed, after a message
abbrev pub consumer_by : Message → TableValue → List Followed → List Followed
consumer_by (message.Result id value) table followed = followed_by (settled_in id table) (Replied value) followed
consumer_by (message.Error id code text more) table followed = named_followed id (Failed code text more) table followed
consumer_by message table followed = followed

-- own handles after a message with this meaning: one may be released
abbrev pub owner_released_by : Meaning → List OwnHandle → List OwnHandle
owner_released_by (Releases key) handles = owner_released key handles
owner_released_by meaning handles = handles

-- own handles after what a response is: those of call lifetime end that its request carried
abbrev pub answered_by : Settled → List OwnHandle → List OwnHandle
answered_by (First n expect) handles = handles_answered n handles
answered_by Stray handles = handles

-- own handles after an error, which may be without an id
abbrev pub named_answered : Option Id → TableValue → List OwnHandle → List OwnHandle
named_answered (Some id) table handles = answered_by (settled_in id table) handles
named_answered None table handles = handles

-- own handles after a message
abbrev pub owner_by : Message → RpcValue → List OwnHandle
owner_by (Request id method params) end = owner_released_by (meaning method params) end.owner
owner_by (Notification method params) end = owner_released_by (meaning method params) end.owner
owner_by (message.Result id value) end = answered_by (settled_in id end.table) end.owner
owner_by (message.Error id code text more) end = named_answered id end.table end.owner

-- handles of the peer after a message with this meaning: one may be released
abbrev pub holder_released_by : Meaning → List PeerHandle → List PeerHandle
holder_released_by (Releases key) held = holder_released key held
holder_released_by meaning held = held

-- handles of the peer after a notification with this meaning: the service's may offer some
abbrev pub told_by : Meaning → Params → List PeerHandle → List PeerHandle
told_by Serves params held = adopting_all None (whole_arguments params) held
told_by meaning params held = holder_released_by meaning held

-- handles of the peer after what a result is: the first to its request may offer one
abbrev pub adopted_by : Settled → Tree → List PeerHandle → List PeerHandle
adopted_by (First n expect) value held = adopting_all None (value ∷ []) held
adopted_by Stray value held = held

-- handles of the peer after a message
abbrev pub holder_by : Message → RpcValue → List PeerHandle
holder_by (Request id method params) end =
    if asks_in (meaning method params) end.owner then adopting_all (Some id) (whole_arguments params) end.holder else holder_released_by (meaning method params) end.holder
holder_by (Notification method params) end = told_by (meaning method params) params end.holder
holder_by (message.Result id value) end = adopted_by (settled_in id end.table) value end.holder
holder_by message end = end.holder

-- what an end keeps, after a message
abbrev pub with_kept : Message → RpcValue → RpcValue
with_kept message end = record end {
  table = table_by message end;
  producer = producer_by message end.producer;
  consumer = consumer_by message end.table end.consumer;
  owner = owner_by message end;
  holder = holder_by message end;
}

-- an end after the response with this id, that tells this
abbrev pub with_settled : Id → Outcome → RpcValue → RpcValue
with_settled id outcome end = record end {
  table = settled (settled_in id end.table) outcome end.table;
  consumer = followed_by (settled_in id end.table) outcome end.consumer;
  owner = answered_by (settled_in id end.table) end.owner;
}

-- an end after an error, which may be without an id
abbrev pub with_named : Option Id → Outcome → RpcValue → RpcValue
with_named (Some id) outcome end = with_settled id outcome end
with_named None outcome end = end

-- an end after an extension
abbrev pub with_extended : Meaning → RpcValue → RpcValue
with_extended meaning end = record end {
  table = extended_by meaning end.table;
  producer = left_by meaning end.producer;
  owner = owner_released_by meaning end.owner;
  holder = holder_released_by meaning end.holder;
}

-- an end after a message
abbrev pub with_heeded : Message → RpcValue → RpcValue
with_heeded message end = with_said (said_by message end) (with_kept message end)

-- the rule that a message breaks: the id of a request isn't that of one that waits
abbrev pub broken_by : Message → TableValue → Option Reason
broken_by (Request id method params) table = if waits_in id table then Some DuplicateRequest else None
broken_by message table = None

-- the id of a request is one that can be answered
abbrev pub HasId : Message → Type 0
HasId (Request id method params) = IsNamed id
HasId message = Unit {0}

-- what the bytes that aren't applied are to an end, by what it holds: a message whose body stands at this place, in so many bytes with its head
abbrev pub message_arrives : RpcValue → (place size : ℕ) → Message → Arrival
message_arrives end place size message = allowed_arrival place message size (broken_by message end.table)

-- a body, by the message that it says
abbrev pub body_arrives : RpcValue → (place size : ℕ) → Result Message (ℕ × Reason) → Arrival
body_arrives end place size (Ok message) = message_arrives end place size message
body_arrives end place size (Err broken) = Refuses (place + broken.0) broken.1

-- the next bytes, by what stands at their front
abbrev pub front_arrives : RpcValue → Front → Arrival
front_arrives end (fronts.Whole start size) = body_arrives end (end.at + start) (start + size) (body_in end.terms.encoding (take size (drop start end.rest)))
front_arrives end fronts.Short = Waits
front_arrives end (fronts.Broken offset r) = Refuses (end.at + offset) r

-- what a step makes of a running end
abbrev pub Steps : (old new : RpcValue) → Arrival → RpcStep → Type 0
Steps old new (Applies place message size) (step.Event e) = (e ≡ event_by message old) × (new ≡ with_applied size (with_heeded message old)) × AreMessages (said_by message old)
Steps old new Waits step.Short = new ≡ old
Steps old new (Refuses place r) (step.Ended c) = (c ≡ refused_at place r) × (new ≡ with_end c old)
Steps old new arrives step.OutOfMemory = (new.state ≡ state.Stopped) × (new.terms ≡ old.terms)
Steps old new arrives reply = ⊥
