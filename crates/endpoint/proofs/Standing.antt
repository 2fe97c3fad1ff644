-- What an end with connections stands for at one channel.
use Rattle.std.specs.Prelude.{ℕ, List, [], Bool, true, false, ◌&&◌, ◌==◌, is_some, nat_lt, nat_le, if◌then◌else◌, Option, Some, None}
use Rattle.std.specs.List.{position}
use Rattle.std.proofs.Common.{◌≡◌, refl, sym, ◌∙◌, ap, arith, subst, get_or}
use Rattle.std.proofs.lemmas.Bool.Decides.{nat_tests}
use Rattle.marshalled_handles.specs.Stands.{standing}
use Rattle.rpc_items.specs.declared.calls.HandleKey.{HandleKey}
use Rattle.rpc_items.specs.Handles.{is_live}
use Rattle.rpc_items.specs.Made.{Made}
use Rattle.rpc_items.specs.Outcomes.{NoRequest, outcome}
use Rattle.wire_base.specs.declared.state.EndState.TheVariants as state
use Rattle.mux_items.specs.declared.channel.ChannelKey.{ChannelKey}
use Rattle.mux_items.specs.Bodies.{same_key}
use Rattle.mux_end.specs.Stands.{EndValue, MuxStands}
use Rattle.mux_end.proofs.Answering.{never_stopped}
use Rattle.rpc_end.specs.declared.terms.Terms.{Terms}
use Rattle.rpc_end.specs.Stands.{RpcValue}
use Rattle.endpoint_items.specs.Items.{EndItem, terms_of}
use Rattle.endpoint_items.specs.Connections.{Connection, items_of, was_attached}
use Rattle.endpoint_items.specs.Layers.{mux_of, rpc_of}
use Rattle.endpoint_items.specs.Bytes.{consumed, rest_of}
use Rattle.endpoint.specs.declared.attached.Attached.{Attached}
use Rattle.endpoint.specs.Stands.{ConnectionStands, IsConnection, Stands}
use Rattle.endpoint.specs.Value.{EndpointValue, connection_at, value_in}
use Rattle.endpoint.proofs.Places.{IsAt, absent, at_place}

-- an end that stands for items isn't stopped

pub not_stopped : (end : EndpointValue) (items : List EndItem) (at : ℕ) (rest : List ℕ) → Stands end items at rest → end.state ≡ state.Stopped → ⊥
not_stopped end items at rest s e = never_stopped end.mux (mux_of end.mux.version items) at rest s.mux (sym s.state ∙ e)

pub going : (mux : EndValue) (connections : List Attached) (stopped : Bool) (end : EndpointValue) (items : List EndItem) (at : ℕ) (rest : List ℕ) → value_in mux connections stopped ≡ end → Stands end items at rest → stopped ≡ false
going mux connections true end items at rest is s = absurd (not_stopped end items at rest s (ap (λ (e : EndpointValue). e.state) (sym is)))
going mux connections false end items at rest is s = refl

-- its multiplexing end stands for the items of that
pub stands_within : (within : EndValue) (connections : List Attached) (stopped : Bool) (end : EndpointValue) (items : List EndItem) (at : ℕ) (rest : List ℕ) → value_in within connections stopped ≡ end → Stands end items at rest → MuxStands within (mux_of end.mux.version items) at rest
stands_within within connections stopped end items at rest is s = subst (λ (e : EndValue). MuxStands e (mux_of end.mux.version items) at rest) (sym (ap (λ (e : EndpointValue). e.mux) is)) s.mux

-- what is found of a connection stands for its items

found_stands : (found : Option RpcValue) (connection : Connection) (terms : Terms) (at : ℕ) (rest : List ℕ) (end : RpcValue) → found ≡ Some end → ConnectionStands found connection terms at rest
    → (was_attached connection ≡ true) × IsConnection terms (items_of connection) at rest end
found_stands None connection terms at rest end is c = absurd cc
found_stands (Some e) None terms at rest end is c = absurd c
found_stands (Some e) (Some items) terms at rest end is c = let same : e ≡ end = cc in (refl, subst (λ (x : RpcValue). IsConnection terms items at rest x) same c)

absent_stands : (found : Option RpcValue) (connection : Connection) (terms : Terms) (at : ℕ) (rest : List ℕ) → found ≡ None → ConnectionStands found connection terms at rest → connection ≡ None
absent_stands None None terms at rest is c = refl
absent_stands None (Some items) terms at rest is c = absurd c
absent_stands (Some e) connection terms at rest is c = absurd cc

-- the connection of c at its place in the list
pub record IsConnected (c : ChannelKey) (end : EndpointValue) (items : List EndItem) (i : ℕ) (x : Attached) : Type 0 where
  pub place : IsAt c end.connections i x
  pub attached : was_attached (rpc_of end.mux.version c items) ≡ true
  pub connection : IsConnection (terms_of c items) (items_of (rpc_of end.mux.version c items)) (consumed c items) (rest_of end.mux.version c items) x.end

module _ (c : ChannelKey) (end : EndpointValue) (items : List EndItem) (at : ℕ) (rest : List ℕ) (s : Stands end items at rest) where
  pub connected_at : (i : ℕ) (x : Attached) → IsAt c end.connections i x → IsConnected c end items i x
  connected_at i x place =
      let both = found_stands (connection_at c end.connections) (rpc_of end.mux.version c items) (terms_of c items) (consumed c items) (rest_of end.mux.version c items) x.end place.found (s.connections c) in
      record { place = place; attached = both.0; connection = both.1 }

  pub connected : (mux : EndValue) (inside : List Attached) (stopped : Bool) (i : ℕ) (x : Attached) → value_in mux inside stopped ≡ end → position (λ (a : Attached). same_key c a.key) end.connections ≡ Some i → x ≡ get_or inside i x → IsConnected c end items i x
  connected mux inside stopped i x is place there =
      connected_at i x (at_place c end.connections i x place (there ∙ ap (λ (e : EndpointValue). get_or e.connections i x) is))

  pub unconnected : position (λ (a : Attached). same_key c a.key) end.connections ≡ None → rpc_of end.mux.version c items ≡ None
  unconnected place = absent_stands (connection_at c end.connections) (rpc_of end.mux.version c items) (terms_of c items) (consumed c items) (rest_of end.mux.version c items) (absent c end.connections place) (s.connections c)

-- no request is drawn of no items
pub none_drawn : (n : ℕ) → NoRequest ≡ outcome false n []
none_drawn n = rw (undrawn n) refl
  where
    undrawn : (k : ℕ) → (nat_lt 0 k && nat_le k 0) ≡ false
    undrawn k = grind (arith, nat_tests)

-- nor does a handle stand
pub none_standing : (key : HandleKey) → None ≡ standing key []
none_standing key = ap (λ made. if made then Some (is_live key []) else None) (sym (unmade key.own (key.number == 0)))
  where
    none : Option Made
    none = None

    unmade : (own zero : Bool) → (if own then is_some (if zero then none else none) else false) ≡ false
    unmade true true = refl
    unmade true false = refl
    unmade false zero = refl
