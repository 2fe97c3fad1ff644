-- The words of a report.
use Rattle.std.specs.Prelude.{ℕ, List, [], ◌++◌, Bool, true, false, codes, if◌then◌else◌, Option, Some, None}
use Rattle.std.specs.Fmt.{decimal}
use Rattle.hex.specs.Hex.{encode_lower}
use Rattle.frame_text.specs.Frames.{is_empty}
use Rattle.wire_base.specs.Numbers.{reason_number, reason_name, refusal_number, refusal_name}
use Rattle.wire_base.specs.declared.refusal.Refusal.{Refusal}
use Rattle.wire_base.specs.declared.state.Cause.{Cause}
use Rattle.wire_base.specs.declared.state.Cause.TheVariants as cause
use Rattle.text_words.specs.Written.{line_feed, side_word, channel_word, name_at, bytes_word}
use Rattle.mux_items.specs.declared.channel.ChannelKey.{ChannelKey}
use Rattle.mux_items.specs.declared.channel.Phase.{Phase}
use Rattle.mux_items.specs.declared.channel.Phase.TheVariants as phase
use Rattle.mux_items.specs.declared.channel.MuxEvent.{MuxEvent}
use Rattle.mux_items.specs.declared.channel.MuxEvent.TheVariants as mux
use Rattle.mux_run.specs.declared.steps.Side.{Side}
use Rattle.wire_base.specs.Tree.{Tree, whole, words}
use Rattle.wire_base.specs.declared.text.Id.{Id}
use Rattle.json_value.specs.Json.{shown}
use Rattle.rpc_items.specs.declared.calls.Outcome.{Outcome}
use Rattle.rpc_items.specs.declared.calls.Outcome.TheVariants as outcome
use Rattle.rpc_items.specs.declared.calls.RpcEvent.{RpcEvent}
use Rattle.rpc_items.specs.declared.calls.RpcEvent.TheVariants as rpc
use Rattle.rpc_items.specs.declared.calls.Target.{Target}
use Rattle.rpc_items.specs.declared.calls.Target.TheVariants as target
use Rattle.rpc_items.specs.Ids.{id_value}
use Rattle.endpoint_items.specs.declared.event.EndEvent.TheVariants as event
use Rattle.endpoint_items.specs.declared.reply.Reply.{Reply}
use Rattle.endpoint_items.specs.declared.reply.Reply.TheVariants as reply
use Rattle.endpoint_run.specs.declared.answers.SideEvent.{SideEvent}
use Rattle.endpoint_run.specs.declared.answers.SideEvent.TheVariants as side_event

-- a channel of an end of this side, by the side that offered it
abbrev pub channel_text : Side → ChannelKey → List ℕ
channel_text side key = channel_word (name_at side key)

abbrev pub cause_text : Cause → List ℕ
cause_text cause.InputEnded = codes "input"
cause_text cause.PeerCompleted = codes "completed"
cause_text cause.ChannelClosed = codes "closed"
cause_text cause.Spent = codes "spent"
cause_text (cause.Refused place reason) = decimal place.0 ++ codes " " ++ decimal (reason_number reason) ++ codes " " ++ reason_name reason

abbrev pub phase_text : Phase → List ℕ
phase_text phase.Waiting = codes "waiting"
phase_text phase.Heard = codes "heard"
phase_text phase.Live = codes "live"
phase_text phase.Closing = codes "closing"
phase_text phase.Closed = codes "closed"

abbrev pub refusal_text : Refusal → List ℕ
refusal_text r = codes "refused " ++ decimal (refusal_number r) ++ codes " " ++ refusal_name r

-- what became of a request: its result, or the code and the message of its error
abbrev pub outcome_text : Outcome → List ℕ
outcome_text (outcome.Replied value) = codes "replied " ++ shown value
outcome_text (outcome.Failed code message more) = codes "failed " ++ shown (whole code) ++ codes " " ++ shown (words message)
outcome_text outcome.Lost = codes "lost"
outcome_text outcome.Starved = codes "starved"

-- whether a handle lives
abbrev pub life_text : (live : Bool) → List ℕ
life_text true = codes "live"
life_text false = codes "released"

-- the next report of progress, where one was left
abbrev pub progress_text : Option Tree → List ℕ
progress_text (Some value) = codes "report " ++ shown value
progress_text None = codes "report none"

abbrev pub reply_text : Side → Reply → List ℕ
reply_text side reply.Done = codes "ok"
reply_text side (reply.Made key) = codes "channel " ++ channel_text side key
reply_text side (reply.Bytes bytes) = codes "bytes " ++ bytes_word bytes
reply_text side (reply.Number n) = codes "request " ++ decimal n
reply_text side (reply.Report value) = progress_text value
reply_text side (reply.Known o) = outcome_text o
reply_text side reply.NotYet = codes "pending"
reply_text side (reply.Refused r) = refusal_text r
reply_text side reply.OutOfMemory = []

abbrev pub mux_event_text : Side → MuxEvent → List ℕ
mux_event_text side mux.Ready = codes "ready"
mux_event_text side (mux.Offered key) = codes "offered " ++ channel_text side key
mux_event_text side (mux.Rejected key) = codes "rejected " ++ channel_text side key
mux_event_text side (mux.Accepted key) = codes "accepted " ++ channel_text side key
mux_event_text side (mux.Content key count) = codes "content " ++ channel_text side key ++ codes " " ++ decimal count
mux_event_text side (mux.Completed key) = codes "completed " ++ channel_text side key
mux_event_text side (mux.Closed key) = codes "closed " ++ channel_text side key
mux_event_text side (mux.Credit key count) = codes "credit " ++ channel_text side key ++ codes " " ++ decimal count
mux_event_text side (mux.Ignored key) = codes "ignored " ++ channel_text side key

-- an id, as JSON
abbrev pub id_text : Id → List ℕ
id_text id = shown (id_value id)

-- the object that a request calls, where it calls one of its own
abbrev pub target_text : Target → List ℕ
target_text target.Root = []
target_text (target.Object n handle) = codes "object " ++ decimal n ++ codes " "

-- what a message was to the connection of a channel; a method is shown as it came
abbrev pub rpc_event_text : Side → ChannelKey → RpcEvent → List ℕ
rpc_event_text side key (rpc.Asked id called method args) = codes "asked " ++ channel_text side key ++ codes " " ++ id_text id ++ codes " " ++ target_text called ++ method
rpc_event_text side key (rpc.Told method args) = codes "told " ++ channel_text side key ++ codes " " ++ method
rpc_event_text side key (rpc.Cancelled id) = codes "cancelled " ++ channel_text side key ++ codes " " ++ id_text id
rpc_event_text side key (rpc.Answered n) = codes "answered " ++ channel_text side key ++ codes " " ++ decimal n
rpc_event_text side key (rpc.Reported n) = codes "reported " ++ channel_text side key ++ codes " " ++ decimal n
rpc_event_text side key (rpc.Released handle) = codes "handled " ++ channel_text side key ++ codes " $/releaseMarshaledObject"
rpc_event_text side key (rpc.Handled method) = codes "handled " ++ channel_text side key ++ codes " " ++ method
rpc_event_text side key rpc.Stray = codes "stray " ++ channel_text side key

abbrev pub event_text : Side → SideEvent → List ℕ
event_text side (side_event.Happened (event.Mux e)) = mux_event_text side e
event_text side (side_event.Happened (event.Rpc key e)) = rpc_event_text side key e
event_text side (side_event.Happened (event.RpcEnded key c)) = codes "rpc-ended " ++ channel_text side key ++ codes " " ++ cause_text c
event_text side (side_event.Ended c) = codes "ended " ++ cause_text c

-- a line of a side: a space, the side, a space and the words
abbrev pub event_line : Side → SideEvent → List ℕ
event_line side e = codes " " ++ side_word side ++ codes " " ++ event_text side e ++ line_feed

-- the bytes that a side emitted, as a line where there are any
abbrev pub emitted_line : Side → List ℕ → List ℕ
emitted_line side bytes = if is_empty bytes then [] else codes " " ++ side_word side ++ codes "> " ++ encode_lower bytes ++ line_feed
