-- What a call asks for, and what it answers.
use Rattle.std.specs.Prelude.{ℕ, ◌+◌, List, take, false, slice_get, if◌then◌else◌, Option, Some, None}
use Rattle.wire_base.specs.declared.frame.Version.{Version}
use Rattle.wire_base.specs.declared.refusal.Refusal.{Refusal}
use Rattle.wire_base.specs.declared.refusal.Refusal.TheVariants as refusal
use Rattle.mux_items.specs.declared.call.Call.{Call as MuxCall}
use Rattle.mux_items.specs.declared.call.Call.TheVariants as mux_call
use Rattle.mux_items.specs.declared.channel.ChannelKey.{ChannelKey}
use Rattle.mux_items.specs.Items as mux
use Rattle.mux_items.specs.Kept.{next_key}
use Rattle.mux_items.specs.Lists.{unread}
use Rattle.rpc_items.specs.Drawn.{drawn}
use Rattle.rpc_items.specs.Items.{Ask, Tell, Respond, Cancel, Report, TakeReport, Next, Abort, Invoke, Release, Forget}
use Rattle.rpc_items.specs.Outcomes.{Look, Known, NotYet, NoRequest}
use Rattle.rpc_items.specs.Reports.{reports}
use Rattle.endpoint_items.specs.declared.call.Call.{Call}
use Rattle.endpoint_items.specs.declared.call.Call.TheVariants as call
use Rattle.endpoint_items.specs.declared.reply.Reply.{Reply}
use Rattle.endpoint_items.specs.declared.reply.Reply.TheVariants as reply
use Rattle.endpoint_items.specs.Calls.{EndCall, OfMux, Attaches, OfConnection, call_refusal}
use Rattle.endpoint_items.specs.Connections.{was_attached, items_of}
use Rattle.endpoint_items.specs.Items.{EndItem}
use Rattle.endpoint_items.specs.Layers.{mux_of, rpc_of}
use Rattle.endpoint_items.specs.Outcomes.{outcome_on}

-- the call that is made; a question makes none
abbrev pub made_by : Call → Option EndCall
made_by (call.Mux c) = Some (OfMux c)
made_by (call.Attach c terms) = Some (Attaches c terms)
made_by (call.Request c method args expect) = Some (OfConnection c (Ask method args expect))
made_by (call.Notify c method args) = Some (OfConnection c (Tell method args))
made_by (call.Respond c id answer) = Some (OfConnection c (Respond id answer))
made_by (call.Cancel c n) = Some (OfConnection c (Cancel n))
made_by (call.Report c id token value) = Some (OfConnection c (Report id token value))
made_by (call.TakeReport c n) = Some (OfConnection c (TakeReport n))
made_by (call.Next c n) = Some (OfConnection c (Next n))
made_by (call.Abort c n) = Some (OfConnection c (Abort n))
made_by (call.Invoke c handle method args expect) = Some (OfConnection c (Invoke handle method args expect))
made_by (call.Release c key) = Some (OfConnection c (Release key))
made_by (call.Outcome c n) = None
made_by (call.Forget c n) = Some (OfConnection c (Forget n))

-- what an accepted call of the multiplexing end answers
abbrev pub mux_success : Version → MuxCall → List mux.Item → Reply
mux_success v (mux_call.Offer name size) m = reply.Made (next_key m)
mux_success v (mux_call.Accept c size) m = reply.Done
mux_success v (mux_call.Write c bytes) m = reply.Done
mux_success v (mux_call.Read c max) m = reply.Bytes (take max (unread v c m))
mux_success v (mux_call.Complete c) m = reply.Done
mux_success v (mux_call.Terminate c) m = reply.Done

-- what an accepted call answers
abbrev pub success : Version → EndCall → List EndItem → Reply
success v (OfMux c) items = mux_success v c (mux_of v items)
success v (Attaches c terms) items = reply.Done
success v (OfConnection c (Ask method args expect)) items = reply.Number (drawn (items_of (rpc_of v c items)) + 1)
success v (OfConnection c (TakeReport n)) items = reply.Report (slice_get (reports n (items_of (rpc_of v c items))) 0)
success v (OfConnection c (Next n)) items = reply.Number (drawn (items_of (rpc_of v c items)) + 1)
success v (OfConnection c (Invoke handle method args expect)) items = reply.Number (drawn (items_of (rpc_of v c items)) + 1)
success v (OfConnection c call) items = reply.Done

abbrev pub refused_or : Option Refusal → Reply → Reply
refused_or (Some r) otherwise = reply.Refused r
refused_or None otherwise = otherwise

abbrev pub look_reply : Look → Reply
look_reply (Known outcome) = reply.Known outcome
look_reply NotYet = reply.NotYet
look_reply NoRequest = reply.Refused refusal.NoRequest

-- what is told of a request of the connection of a channel, which there may never have been
abbrev pub told : Version → ChannelKey → ℕ → List EndItem → Reply
told v c n items = if was_attached (rpc_of v c items) then look_reply (outcome_on false v c n items) else reply.Refused refusal.NotAttached

abbrev pub reply_made : Version → EndCall → List EndItem → Reply
reply_made v c items = refused_or (call_refusal v c items) (success v c items)

-- what a call answers
abbrev pub reply_to : Version → Call → List EndItem → Reply
reply_to v (call.Mux c) items = reply_made v (OfMux c) items
reply_to v (call.Attach c terms) items = reply_made v (Attaches c terms) items
reply_to v (call.Request c method args expect) items = reply_made v (OfConnection c (Ask method args expect)) items
reply_to v (call.Notify c method args) items = reply_made v (OfConnection c (Tell method args)) items
reply_to v (call.Respond c id answer) items = reply_made v (OfConnection c (Respond id answer)) items
reply_to v (call.Cancel c n) items = reply_made v (OfConnection c (Cancel n)) items
reply_to v (call.Report c id token value) items = reply_made v (OfConnection c (Report id token value)) items
reply_to v (call.TakeReport c n) items = reply_made v (OfConnection c (TakeReport n)) items
reply_to v (call.Next c n) items = reply_made v (OfConnection c (Next n)) items
reply_to v (call.Abort c n) items = reply_made v (OfConnection c (Abort n)) items
reply_to v (call.Invoke c handle method args expect) items = reply_made v (OfConnection c (Invoke handle method args expect)) items
reply_to v (call.Release c key) items = reply_made v (OfConnection c (Release key)) items
reply_to v (call.Outcome c n) items = told v c n items
reply_to v (call.Forget c n) items = reply_made v (OfConnection c (Forget n)) items
