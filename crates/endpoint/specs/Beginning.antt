-- How a connection begins on a channel.
use Rattle.std.specs.Prelude.{◌≡◌, ℕ, List, [], Bool, if◌then◌else◌, Option, Some, None, Result, Ok, Err}
use Rattle.wire_base.specs.declared.fault.CallFault.{CallFault}
use Rattle.wire_base.specs.declared.fault.CallFault.TheVariants as fault
use Rattle.wire_base.specs.declared.refusal.Refusal.{Refusal}
use Rattle.wire_base.specs.declared.refusal.Refusal.TheVariants as refusal
use Rattle.mux_items.specs.declared.channel.ChannelKey.{ChannelKey}
use Rattle.mux_items.specs.declared.channel.Phase.{Phase}
use Rattle.mux_items.specs.declared.channel.Phase.TheVariants as phase
use Rattle.mux_items.specs.Calls.{called}
use Rattle.mux_items.specs.Items.{Item}
use Rattle.mux_items.specs.Lists.{unread}
use Rattle.mux_end.specs.Stands.{EndValue}
use Rattle.rpc_end.specs.declared.terms.Terms.{Terms}
use Rattle.rpc_end.specs.Stands.{RpcValue}
use Rattle.endpoint_items.specs.Following.{read_all}
use Rattle.endpoint.specs.Changes.{Moves}
use Rattle.endpoint.specs.Stands.{IsConnection}

-- why no connection can be attached to a kept channel in this phase
abbrev pub phase_refusal : Phase → (in_use : Bool) → Option Refusal
phase_refusal phase.Closing in_use = Some refusal.NotOpen
phase_refusal phase.Closed in_use = Some refusal.NotOpen
phase_refusal phase.Heard in_use = Some refusal.NotAccepted
phase_refusal phase in_use = if in_use then Some refusal.Attached else None

-- what isn't refused is shown
abbrev pub Shows : {A : Type 0} → Option Refusal → Option A → Result A CallFault → Type 0
Shows refused shown (Ok x) = (refused ≡ None) × (shown ≡ Some x)
Shows refused shown (Err (fault.Refused r)) = refused ≡ Some r
Shows refused shown (Err fault.OutOfMemory) = ⊥

-- a connection begins that has read all that is unread on the channel
pub record BeginsOn (old new : EndValue) (items : List Item) (at : ℕ) (rest : List ℕ) (c : ChannelKey) (terms : Terms) (end : RpcValue) : Type 0 where
  pub moves : Moves old new items (called old.version (read_all old.version c items) items) at rest
  pub connection : IsConnection terms [] 0 (unread old.version c items) end
