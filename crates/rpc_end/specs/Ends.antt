-- What calls and messages make of an end.
use Rattle.std.specs.Prelude.{◌≡◌, ℕ, ◌+◌, List, [], ◌++◌, drop, Option, Some, None, Result, Ok, Err}
use Rattle.call_table.specs.Table.{TableValue, over}
use Rattle.enumerables.specs.declared.followed.Followed.{Followed}
use Rattle.enumerables.specs.declared.sequence.Sequence.{Sequence}
use Rattle.enumerables.specs.Producer.{all_ended}
use Rattle.marshalled_handles.specs.declared.own_handle.OwnHandle.{OwnHandle}
use Rattle.marshalled_handles.specs.declared.peer_handle.PeerHandle.{PeerHandle}
use Rattle.marshalled_handles.specs.Holder as holders
use Rattle.marshalled_handles.specs.Owner as owners
use Rattle.message_framing.specs.Unread.{Unread}
use Rattle.rpc_items.specs.declared.calls.Outcome.TheVariants.{Lost, Starved}
use Rattle.rpc_items.specs.declared.messages.Message.{Message}
use Rattle.wire_base.specs.declared.fault.CallFault.{CallFault}
use Rattle.wire_base.specs.declared.fault.CallFault.TheVariants as fault
use Rattle.wire_base.specs.declared.refusal.Refusal.{Refusal}
use Rattle.wire_base.specs.declared.state.Cause.{Cause}
use Rattle.wire_base.specs.declared.state.EndState.{EndState}
use Rattle.wire_base.specs.declared.state.EndState.TheVariants as state
use Rattle.rpc_end.specs.declared.terms.Terms.{Terms}
use Rattle.rpc_end.specs.Stands.{RpcValue}
use Rattle.rpc_end.specs.Texts.{message_texts}

-- an end by what it holds
abbrev pub value_in : Terms → TableValue → List Sequence → List Followed → List OwnHandle → List PeerHandle → (output : List ℕ) → Unread → EndState → RpcValue
value_in terms table producer consumer owner holder output reader state =
    record { terms = terms; table = table; producer = producer; consumer = consumer; owner = owner; holder = holder; output = output; at = reader.at; rest = reader.rest; state = state }

abbrev pub with_output : List ℕ → RpcValue → RpcValue
with_output bytes end = record end { output = bytes }

abbrev pub with_table : TableValue → RpcValue → RpcValue
with_table table end = record end { table = table }

abbrev pub with_producer : List Sequence → RpcValue → RpcValue
with_producer sequences end = record end { producer = sequences }

abbrev pub with_consumer : List Followed → RpcValue → RpcValue
with_consumer followed end = record end { consumer = followed }

abbrev pub with_owner : List OwnHandle → RpcValue → RpcValue
with_owner handles end = record end { owner = handles }

abbrev pub with_holder : List PeerHandle → RpcValue → RpcValue
with_holder held end = record end { holder = held }

abbrev pub with_rest : List ℕ → RpcValue → RpcValue
with_rest bytes end = record end { rest = bytes }

-- messages are said
abbrev pub with_said : List Message → RpcValue → RpcValue
with_said messages end = record end { output = end.output ++ message_texts end.terms messages }

-- a whole message of so many bytes goes from the front
abbrev pub with_applied : ℕ → RpcValue → RpcValue
with_applied size end = record end { at = end.at + size; rest = drop size end.rest }

-- the end: requests without a response are lost, no sequence goes on, and every handle has ended
abbrev pub with_end : Cause → RpcValue → RpcValue
with_end cause end = record end {
  table = over Lost end.table;
  producer = all_ended end.producer;
  consumer = [];
  owner = owners.all_ended end.owner;
  holder = holders.all_ended end.holder;
  state = state.Ended cause;
}

-- want of memory: requests without a response are starved
abbrev pub with_stop : RpcValue → RpcValue
with_stop end = record end { table = over Starved end.table; state = state.Stopped }

-- a running end becomes another; one that doesn't run stays as it is
abbrev pub if_running : EndState → (now end : RpcValue) → RpcValue
if_running state.Running now end = now
if_running (state.Ended cause) now end = end
if_running state.Stopped now end = end

-- a call of a running end is refused before what it would say is written, or because of that, and then changes nothing;
-- else it makes this of the end, and answers so. Want of memory comes only after the earlier refusals
abbrev pub Makes : {A : Type 0} → (old new : RpcValue) → (early late : Option Refusal) → (now : RpcValue) → A → Result A CallFault → Type 0
Makes old new None None now x (Ok y) = (new ≡ now) × (y ≡ x)
Makes old new (Some r) late now x (Err (fault.Refused s)) = (s ≡ r) × (new ≡ old)
Makes old new None (Some r) now x (Err (fault.Refused s)) = (s ≡ r) × (new ≡ old)
Makes old new None late now x (Err fault.OutOfMemory) = new.terms ≡ old.terms
Makes old new early late now x result = ⊥
