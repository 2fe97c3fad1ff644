-- What connections said is written on their channels.
use Rattle.std.specs.Prelude.{◌≡◌, ℕ, List, [], Some, Result, Ok, Err, set, slice_get}
use Rattle.wire_base.specs.declared.fault.CallFault.{CallFault}
use Rattle.wire_base.specs.declared.fault.CallFault.TheVariants as fault
use Rattle.wire_base.specs.declared.state.EndState.TheVariants as state
use Rattle.mux_items.specs.Items.{Item}
use Rattle.mux_end.specs.Stands.{MuxStands}
use Rattle.rpc_items.specs.declared.messages.Message.{Message}
use Rattle.rpc_end.specs.declared.terms.Terms.{Terms}
use Rattle.rpc_end.specs.Ends.{with_output}
use Rattle.rpc_end.specs.Texts.{message_texts}
use Rattle.endpoint_items.specs.Following.{followed, write_said}
use Rattle.endpoint.specs.declared.attached.Attached.{Attached}
use Rattle.endpoint.specs.Changes.{Moves}
use Rattle.endpoint.specs.Value.{EndpointValue}

-- the connection at a place of the list
abbrev pub IsAt : List Attached → ℕ → Attached → Type 0
IsAt connections place attached = slice_get connections place ≡ Some attached

-- the connection at a place has nothing more to send
abbrev pub sent_at : ℕ → Attached → List Attached → List Attached
sent_at place attached connections = set connections place (record attached { end = with_output [] attached.end })

-- the multiplexing end goes from old, which stood for the items before, to new, which stands for those after; the
-- connection at the place has nothing more to send, and all else stays
pub record Writes (old new : EndpointValue) (place : ℕ) (attached : Attached) (before after : List Item) (at : ℕ) (rest : List ℕ) : Type 0 where
  pub moves : Moves old.mux new.mux before after at rest
  pub connections : new.connections ≡ sent_at place attached old.connections
  pub state : new.state ≡ new.mux.state

-- what the connection at a place said is written, whatever items the multiplexing end stood for
abbrev pub SendsAt : EndpointValue → EndpointValue → ℕ → Type 0
SendsAt old new place = (items : List Item) (at : ℕ) (rest : List ℕ) (attached : Attached) (terms : Terms) (messages : List Message) → MuxStands old.mux items at rest → old.state ≡ old.mux.state
    → IsAt old.connections place attached → attached.end.output ≡ message_texts terms messages
    → Writes old new place attached items (followed old.mux.version (write_said attached.key terms messages items) items) at rest

-- after a call of the connection at a place, what it said is written; want of memory stops the end
abbrev pub FinishesSaid : {A : Type 0} → (old new : EndpointValue) → ℕ → (answer result : Result A CallFault) → Type 0
FinishesSaid old new place (Ok x) (Ok y) = (y ≡ x) × SendsAt old new place
FinishesSaid old new place (Ok x) (Err fault.OutOfMemory) = new.state ≡ state.Stopped
FinishesSaid old new place (Err (fault.Refused r)) (Err (fault.Refused s)) = (s ≡ r) × (new ≡ old)
FinishesSaid old new place (Err fault.OutOfMemory) (Err fault.OutOfMemory) = new.state ≡ state.Stopped
FinishesSaid old new place answer result = ⊥
