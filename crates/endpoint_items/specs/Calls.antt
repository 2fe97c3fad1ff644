-- The calls of an end with connections, why each is refused, and the item of one that isn't.
use Rattle.std.specs.Prelude.{ℕ, ◌-◌, List, ◌∷◌, length, Bool, true, false, not, ◌&&◌, nat_lt, if◌then◌else◌, Option, Some, None}
use Rattle.wire_base.specs.declared.frame.Version.{Version}
use Rattle.wire_base.specs.declared.refusal.Refusal.{Refusal}
use Rattle.wire_base.specs.declared.refusal.Refusal.TheVariants as refusal
use Rattle.wire_base.specs.Options.{or_else}
use Rattle.mux_items.specs.declared.call.Call.{Call}
use Rattle.mux_items.specs.declared.call.Call.TheVariants as call
use Rattle.mux_items.specs.declared.channel.ChannelKey.{ChannelKey}
use Rattle.mux_items.specs.Calls.{item_of_call}
use Rattle.mux_items.specs.Calls as mux
use Rattle.mux_items.specs.Items.{Item, ended}
use Rattle.mux_items.specs.Limits.{most_bytes}
use Rattle.mux_items.specs.Lists.{written}
use Rattle.mux_items.specs.Refusals.{unless_ended, open_refusal, is_unaccepted}
use Rattle.message_body.specs.Written.{encoder}
use Rattle.rpc_items.specs.Items.{RpcCall}
use Rattle.rpc_items.specs.Refusals as rpc
use Rattle.rpc_items.specs.Saying.{emits}
use Rattle.rpc_end.specs.declared.terms.Terms.{Terms}
use Rattle.endpoint_items.specs.Items.{EndItem, Mux, Attach, DidCall, terms_of}
use Rattle.endpoint_items.specs.Connections.{was_attached, items_of}
use Rattle.endpoint_items.specs.Layers.{mux_of, rpc_of}

-- a call of the multiplexing end, one that attaches a connection, or one of a connection
pub data EndCall : Type 0 where
  OfMux : (call : Call) → EndCall
  Attaches : (key : ChannelKey) → (terms : Terms) → EndCall
  OfConnection : (key : ChannelKey) → (call : RpcCall) → EndCall

-- the channel that a call writes, reads or completes
abbrev pub used_by : Call → Option ChannelKey
used_by (call.Write c bytes) = Some c
used_by (call.Read c max) = Some c
used_by (call.Complete c) = Some c
used_by call = None

-- whether it has a connection, ended or not, which alone may use it
abbrev pub is_in_use : Version → Option ChannelKey → List EndItem → Bool
is_in_use v (Some c) items = was_attached (rpc_of v c items)
is_in_use v None items = false

-- a refusal that comes before that of a channel with a connection
abbrev pub comes_first : Option Refusal → Bool
comes_first (Some (refusal.Ended cause)) = true
comes_first (Some refusal.NoChannel) = true
comes_first refusal = false

-- a channel with a connection isn't written, read or completed by calls
abbrev pub unless_in_use : (in_use : Bool) → Option Refusal → Option Refusal
unless_in_use in_use refused = if in_use && not (comes_first refused) then Some refusal.Attached else refused

-- why a call of the multiplexing end is refused, if it is
abbrev pub mux_refusal : Version → Call → List EndItem → Option Refusal
mux_refusal v c items = unless_in_use (is_in_use v (used_by c) items) (mux.call_refusal v c (mux_of v items))

-- why no connection can be attached to c
abbrev pub attach_refusal : Version → ChannelKey → List EndItem → Option Refusal
attach_refusal v c items = unless_ended (ended (mux_of v items)) (or_else (open_refusal v c (mux_of v items))
    (if is_unaccepted v c (mux_of v items) then Some refusal.NotAccepted
    else if was_attached (rpc_of v c items) then Some refusal.Attached
    else None))

-- no message has more bytes than these, with its head
abbrev pub most_text : ℕ
most_text = 33554432

-- whether more bytes are written on a channel than leave room for one more message
abbrev pub is_spent_on : ChannelKey → List Item → Bool
is_spent_on c m = nat_lt (most_bytes - most_text) (length (written c m))

-- why a call of a connection is refused, if it is
abbrev pub connection_refusal : Version → ChannelKey → RpcCall → List EndItem → Option Refusal
connection_refusal v c call items =
    if not (was_attached (rpc_of v c items)) then Some refusal.NotAttached
    else if emits call && is_spent_on c (mux_of v items) then Some refusal.BytesSpent
    else rpc.call_refusal (encoder (terms_of c items).encoding) call (items_of (rpc_of v c items))

-- why a call is refused, if it is
abbrev pub call_refusal : Version → EndCall → List EndItem → Option Refusal
call_refusal v (OfMux call) items = mux_refusal v call items
call_refusal v (Attaches c terms) items = attach_refusal v c items
call_refusal v (OfConnection c call) items = connection_refusal v c call items

-- the item of an accepted call
abbrev pub item_of : Version → EndCall → List EndItem → EndItem
item_of v (OfMux call) items = Mux (item_of_call call (mux_of v items))
item_of v (Attaches c terms) items = Attach c terms
item_of v (OfConnection c call) items = DidCall c call

abbrev pub unless_refused : Option Refusal → EndItem → List EndItem → List EndItem
unless_refused (Some refusal) item items = items
unless_refused None item items = item ∷ items

-- a refused call changes nothing
abbrev pub called : Version → EndCall → List EndItem → List EndItem
called v c items = unless_refused (call_refusal v c items) (item_of v c items) items
