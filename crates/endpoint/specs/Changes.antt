-- What calls and arrivals make of an end with connections.
use Rattle.std.specs.Prelude.{◌≡◌, ℕ, List, [], ◌∷◌, map, if◌then◌else◌, Result, Ok, Err}
use Rattle.wire_base.specs.declared.fault.CallFault.{CallFault}
use Rattle.wire_base.specs.declared.fault.CallFault.TheVariants as fault
use Rattle.wire_base.specs.declared.out_of_memory.OutOfMemory.{OutOfMemory}
use Rattle.wire_base.specs.declared.state.Cause.{Cause}
use Rattle.wire_base.specs.declared.state.EndState.{EndState}
use Rattle.wire_base.specs.declared.state.EndState.TheVariants as state
use Rattle.mux_items.specs.declared.channel.ChannelKey.{ChannelKey}
use Rattle.mux_items.specs.Bodies.{same_key}
use Rattle.mux_items.specs.Items.{Item}
use Rattle.mux_items.specs.Views.{precedes}
use Rattle.mux_end.specs.Ends as mux
use Rattle.mux_end.specs.Replies.{KeepsTerms}
use Rattle.mux_end.specs.Stands.{EndValue, MuxStands}
use Rattle.rpc_end.specs.Ends.{if_running, with_end, with_stop}
use Rattle.rpc_end.specs.Stands.{RpcValue}
use Rattle.endpoint.specs.declared.attached.Attached.{Attached}
use Rattle.endpoint.specs.Replies.{Sends}
use Rattle.endpoint.specs.Value.{EndpointValue}

abbrev pub with_output : List ℕ → EndpointValue → EndpointValue
with_output bytes end = record end { mux = mux.with_output bytes end.mux }

abbrev pub with_connections : List Attached → EndpointValue → EndpointValue
with_connections connections end = record end { connections = connections }

abbrev pub ended_for : Cause → Attached → Attached
ended_for cause x = record x { end = if_running x.end.state (with_end cause x.end) x.end }

-- each connection that runs ends for a cause
abbrev pub each_ended : Cause → List Attached → List Attached
each_ended cause connections = map (ended_for cause) connections

-- each does so where the multiplexing end has ended
abbrev pub ended_with : EndState → List Attached → List Attached
ended_with state.Running connections = connections
ended_with (state.Ended cause) connections = each_ended cause connections
ended_with state.Stopped connections = connections

-- the connection of a channel ends for a cause, if it has one that runs
abbrev pub ended_at : ChannelKey → Cause → List Attached → List Attached
ended_at c cause [] = []
ended_at c cause (x ∷ xs) = if same_key c x.key then ended_for cause x ∷ xs else x ∷ ended_at c cause xs

-- a connection takes its place among the others
abbrev pub insert_attached : Attached → List Attached → List Attached
insert_attached x [] = x ∷ []
insert_attached x (y ∷ ys) = if precedes y.key x.key then y ∷ insert_attached x ys else x ∷ y ∷ ys

abbrev pub inserted : ChannelKey → RpcValue → EndpointValue → EndpointValue
inserted c end endpoint = with_connections (insert_attached (record { key = c; end = end }) endpoint.connections) endpoint

abbrev pub stopped_one : Attached → Attached
stopped_one x = record x { end = if_running x.end.state (with_stop x.end) x.end }

-- each connection that runs stops
abbrev pub each_stopped : List Attached → List Attached
each_stopped connections = map stopped_one connections

-- want of memory stops an end and all its connections
abbrev pub stopped : EndpointValue → EndpointValue
stopped end = record end { connections = each_stopped end.connections; state = state.Stopped }

abbrev pub finished : {A : Type 0} → Result A CallFault → EndpointValue → EndpointValue
finished (Ok x) end = end
finished (Err (fault.Refused r)) end = end
finished (Err fault.OutOfMemory) end = stopped end

-- a multiplexing end goes from old, which stood for the items before, to new, which stands for those after
pub record Moves (old new : EndValue) (before after : List Item) (at : ℕ) (rest : List ℕ) : Type 0 where
  pub stands : MuxStands new after at rest
  pub sends : Sends old.version before after old.output new.output
  pub terms : KeepsTerms old new

-- so it does unless memory runs out, which stops it
abbrev pub MovesIf : {A : Type 0} → (old new : EndValue) → (before after : List Item) → (at : ℕ) → (rest : List ℕ) → Result A OutOfMemory → Type 0
MovesIf old new before after at rest (Ok x) = Moves old new before after at rest
MovesIf old new before after at rest (Err e) = new.state ≡ state.Stopped
