-- When an end stands for a list of items.
use Rattle.std.specs.Prelude.{◌≡◌, ℕ, List, true, false}
use Rattle.call_table.specs.Stands.{TableStands}
use Rattle.call_table.specs.Table.{TableValue}
use Rattle.enumerables.specs.declared.followed.Followed.{Followed}
use Rattle.enumerables.specs.declared.sequence.Sequence.{Sequence}
use Rattle.enumerables.specs.Stands.{ConsumerStands, ProducerStands}
use Rattle.marshalled_handles.specs.declared.own_handle.OwnHandle.{OwnHandle}
use Rattle.marshalled_handles.specs.declared.peer_handle.PeerHandle.{PeerHandle}
use Rattle.marshalled_handles.specs.Stands.{HolderStands, OwnerStands}
use Rattle.message_body.specs.AsRead.{AreMessages}
use Rattle.message_body.specs.Written.{encoder}
use Rattle.rpc_items.specs.Allowed.{AreAllowed}
use Rattle.rpc_items.specs.Fitting.{IsNamed}
use Rattle.rpc_items.specs.Items.{RpcItem, ended}
use Rattle.rpc_items.specs.Saying.{all_said}
use Rattle.rpc_items.specs.Waiting.{is_waiting}
use Rattle.wire_base.specs.States.{state_by}
use Rattle.wire_base.specs.declared.state.EndState.{EndState}
use Rattle.wire_base.specs.declared.text.Id.{Id}
use Rattle.rpc_end.specs.declared.terms.Terms.{Terms}

-- the value of an end: how it writes and reads, what it keeps of requests, of the sequences that it answered and of those
-- that are results of its requests, of the handles that it made and of those that it adopted, its output, the bytes `rest`
-- that were fed and aren't applied, and the place `at` of the first of them
pub record RpcValue : Type 0 where
  pub terms : Terms
  pub table : TableValue
  pub producer : List Sequence
  pub consumer : List Followed
  pub owner : List OwnHandle
  pub holder : List PeerHandle
  pub output : List ℕ
  pub at : ℕ
  pub rest : List ℕ
  pub state : EndState

abbrev pub state_of : List RpcItem → EndState
state_of items = state_by (ended items)

-- the end is as the items leave it, with these bytes not applied, the first of them at this place
pub record RpcStands (end : RpcValue) (items : List RpcItem) (at : ℕ) (rest : List ℕ) : Type 0 where
  pub table : TableStands false end.table items
  pub producer : ProducerStands end.producer items
  pub consumer : ConsumerStands end.consumer items
  pub owner : OwnerStands end.owner items
  pub holder : HolderStands end.holder items
  pub at_is : end.at ≡ at
  pub rest_is : end.rest ≡ rest
  pub state : end.state ≡ state_of items
  pub allowed : AreAllowed (encoder end.terms.encoding) items
  -- what was said are messages of the code
  pub said : AreMessages (all_said items)
  -- a request of the peer that waits has an id that a value can tell
  pub named : (id : Id) → is_waiting id items ≡ true → IsNamed id
