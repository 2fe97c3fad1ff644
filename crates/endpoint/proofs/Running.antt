-- Where a connection that runs stands in the list of an end.
use Rattle.std.specs.Prelude.{if◌then◌else◌, Bool, true, false, is_none, OnOk, Result, Ok, Err}
use Rattle.std.specs.List.{position}
use Rattle.std.proofs.Common.{◌≡◌, ℕ, List, ◌∷◌, refl, sym, ◌∙◌, ap, subst, get_or, set, Option, Some, None}
use Rattle.std.proofs.lemmas.Bool.{true≢false}
use Rattle.wire_base.specs.declared.out_of_memory.OutOfMemory.{OutOfMemory}
use Rattle.wire_base.specs.declared.state.Cause.{Cause}
use Rattle.wire_base.specs.declared.state.Cause.TheVariants as cause
use Rattle.wire_base.specs.declared.state.EndState.{EndState}
use Rattle.wire_base.specs.declared.state.EndState.TheVariants as state
use Rattle.wire_base.specs.States.{state_by, is_running_state}
use Rattle.mux_items.specs.declared.channel.ChannelKey.{ChannelKey}
use Rattle.mux_items.specs.Bodies.{Content, ContentWritingCompleted, same_key}
use Rattle.mux_items.specs.Calls.{called}
use Rattle.mux_items.specs.Items.{Item, Got}
use Rattle.mux_items.specs.Lists.{unread}
use Rattle.mux_items.specs.Refusals.{read_refusal}
use Rattle.mux_end.specs.Stands.{EndValue, MuxStands}
use Rattle.rpc_items.specs.Items as rpc
use Rattle.rpc_end.specs.declared.terms.Terms.{Terms}
use Rattle.rpc_end.specs.Replies as rpc_end
use Rattle.rpc_end.specs.Stands.{RpcValue, RpcStands}
use Rattle.endpoint_items.specs.Bytes.{consumed, rest_of}
use Rattle.endpoint_items.specs.Connections.{Connection, is_attached}
use Rattle.endpoint_items.specs.Following.{followed, read_all, complete_once}
use Rattle.endpoint_items.specs.Items.{EndItem, terms_of}
use Rattle.endpoint_items.specs.Layers.{mux_of, rpc_of}
use Rattle.endpoint.specs.declared.attached.Attached.{Attached}
use Rattle.endpoint.specs.Changes.{Moves, MovesIf}
use Rattle.endpoint.specs.Stands.{ConnectionStands}
use Rattle.endpoint.specs.Steps.{Follows, HasApplied, runs_on}
use Rattle.endpoint.specs.Value.{EndpointValue, connection_at, value_in}
use Rattle.endpoint.proofs.Events.{IsQuiet}
use Rattle.endpoint.proofs.Frames.{completion_follows, content_follows, content_readable, quiet_follows}
use Rattle.endpoint.proofs.Places.{IsAt, absent, at_place, ending}
use Rattle.endpoint.proofs.Sending.{unstopped}

pub not_running : (s : EndState) → (s ≡ state.Running → ⊥) → is_running_state s ≡ false
not_running state.Running other = absurd (other refl)
not_running (state.Ended cause) other = refl
not_running state.Stopped other = refl

running_is : (s : EndState) → is_running_state s ≡ true → s ≡ state.Running
running_is state.Running e = refl
running_is (state.Ended cause) e = cc
running_is state.Stopped e = cc

pub running_place : (key : ChannelKey) (inside xs : List Attached) (i : ℕ) (x : Attached) (b : Bool) → inside ≡ xs → position (λ (a : Attached). same_key key a.key) xs ≡ Some i → x ≡ get_or inside i x → is_running_state x.end.state ≡ b
    → (if b then Some i else None) ≡ (if runs_on (connection_at key xs) then position (λ (a : Attached). same_key key a.key) xs else None)
running_place key inside xs i x b same place is e =
    let at = at_place key xs i x place (is ∙ ap (λ ys. get_or ys i x) same) in
    let on : runs_on (connection_at key xs) ≡ b = ap runs_on at.found ∙ e in
    rw (on, place) refl

-- a connection that was found to run
pub record RunsAt (key : ChannelKey) (xs : List Attached) (i : ℕ) (x : Attached) : Type 0 where
  pub at : IsAt key xs i x
  pub runs : x.end.state ≡ state.Running

found_running : (on : Bool) (place : Option ℕ) (i : ℕ) → (if on then place else None) ≡ Some i → (on ≡ true) × (place ≡ Some i)
found_running true place i e = (refl, e)
found_running false place i e = absurd (cc e)

runs_here : (key : ChannelKey) (xs : List Attached) (i : ℕ) (x : Attached) → Some i ≡ (if runs_on (connection_at key xs) then position (λ (a : Attached). same_key key a.key) xs else None) → x ≡ get_or xs i x → RunsAt key xs i x
runs_here key xs i x found is =
    let parts = found_running (runs_on (connection_at key xs)) (position (λ (a : Attached). same_key key a.key) xs) i (sym found) in
    let at = at_place key xs i x parts.1 is in
    record { at = at; runs = running_is x.end.state (sym (ap runs_on at.found) ∙ parts.0) }

pub runs_at : (key : ChannelKey) (inside xs : List Attached) (i : ℕ) (x : Attached) (r : Option ℕ) → inside ≡ xs → r ≡ (if runs_on (connection_at key xs) then position (λ (a : Attached). same_key key a.key) xs else None)
    → r ≡ Some i → x ≡ get_or inside i x → RunsAt key inside i x
runs_at key inside xs i x r same e some is =
    runs_here key inside i x (subst (λ ys. Some i ≡ (if runs_on (connection_at key ys) then position (λ (a : Attached). same_key key a.key) ys else None)) (sym same) (sym some ∙ e)) is

-- a channel on which none runs

none_runs : (key : ChannelKey) (xs : List Attached) → None ≡ (if runs_on (connection_at key xs) then position (λ (a : Attached). same_key key a.key) xs else None) → runs_on (connection_at key xs) ≡ false
none_runs key xs e = by (runs_on (connection_at key xs)) refl e
  where
    by : (b : Bool) → runs_on (connection_at key xs) ≡ b → None ≡ (if b then position (λ (a : Attached). same_key key a.key) xs else None) → b ≡ false
    by true h none = absurd (true≢false (sym h ∙ ap runs_on (absent key xs (sym none))))
    by false h none = refl

ended_not : (why : Option Cause) → is_running_state (state_by why) ≡ false → is_none why ≡ false
ended_not None e = cc
ended_not (Some why) e = refl

pub unattached : (found : Option RpcValue) (connection : Connection) (terms : Terms) (at : ℕ) (rest : List ℕ) → ConnectionStands found connection terms at rest → runs_on found ≡ false → is_attached connection ≡ false
unattached None None terms at rest c e = refl
unattached None (Some items) terms at rest c e = absurd c
unattached (Some end) None terms at rest c e = absurd c
unattached (Some end) (Some items) terms at rest c e = ended_not (rpc.ended items) (sym (ap is_running_state c.stands.state) ∙ e)

pub none_runs_quiet : (old : EndpointValue) (key : ChannelKey) (items : List EndItem) (item : Item) (at : ℕ) (rest : List ℕ) (r : Option ℕ) → HasApplied old items item at rest
    → r ≡ (if runs_on (connection_at key old.connections) then position (λ (a : Attached). same_key key a.key) old.connections else None) → r ≡ None
    → (is_attached (rpc_of old.mux.version key items) ≡ false → IsQuiet old.mux.version items item) → Follows old old items item at rest
none_runs_quiet old key items item at rest r h e none quiet =
    let v = old.mux.version in
    let not_on = none_runs key old.connections (sym none ∙ e) in
    quiet_follows old items item at rest h (quiet (unattached (connection_at key old.connections) (rpc_of v key items) (terms_of key items) (consumed key items) (rest_of v key items) (h.connections key) not_on))

pub running_state : (stopped : Bool) (mux : EndValue) → stopped ≡ false → (if stopped then state.Stopped else mux.state) ≡ mux.state
running_state true mux e = absurd (cc e)
running_state false mux e = refl

-- the connection at its place reads content
pub joins_at : (mux now : EndValue) (xs : List Attached) (stopped : Bool) (key : ChannelKey) (i : ℕ) (x : Attached) (end : RpcValue) (items : List EndItem) (place at : ℕ) (bytes rest piece read : List ℕ) (result : EndState) → RunsAt key xs i x
    → HasApplied (value_in mux xs stopped) items (Got place key (Content bytes)) at rest
    → ((m : List Item) (n : ℕ) (r : List ℕ) → MuxStands mux m n r → Moves mux now m (called mux.version (read_all mux.version key m) m) n r)
    → ((m : List Item) (n : ℕ) (r : List ℕ) → MuxStands mux m n r → read_refusal mux.version key m ≡ None → read ≡ unread mux.version key m) → piece ≡ read
    → ((ys : List rpc.RpcItem) (n : ℕ) (bs : List ℕ) → RpcStands x.end ys n bs → rpc_end.FeedAnswers x.end end ys n bs piece (rpc.ended ys) (rpc_end.is_spent n bs piece) (Ok result))
    → Follows (value_in mux xs stopped) (value_in now (set xs i (record x { end = end })) stopped) items (Got place key (Content bytes)) at rest
joins_at mux now xs stopped key i x end items place at bytes rest piece read result r h moves whole same answers =
    let old = value_in mux xs stopped in
    let new = value_in now (set xs i (record x { end = end })) stopped in
    let m = Got place key (Content bytes) ∷ mux_of mux.version items in
    let readable = content_readable old new items place key bytes at rest h x.end end r.at.found r.runs in
    content_follows old new items place key bytes at rest h x.end end r.at.found r.runs piece result (moves m at rest h.mux) (same ∙ whole m at rest h.mux readable) answers
    (r.at.changes (record x { end = end }) r.at.key) (r.at.keys (record x { end = end }) r.at.key) (running_state stopped now (unstopped stopped mux m at rest h.mux h.state))

-- the connection at its place ends, as the peer completed
pub completes_at : (mux now : EndValue) (xs : List Attached) (stopped : Bool) (key : ChannelKey) (i : ℕ) (x : Attached) (end : RpcValue) (items : List EndItem) (place at : ℕ) (rest : List ℕ) (result : Result (Unit {0}) OutOfMemory) → RunsAt key xs i x
    → HasApplied (value_in mux xs stopped) items (Got place key ContentWritingCompleted) at rest → end ≡ ending cause.PeerCompleted x.end
    → ((m : List Item) (n : ℕ) (r : List ℕ) → MuxStands mux m n r → MovesIf mux now m (followed mux.version (complete_once key m) m) n r result)
    → OnOk result (Follows (value_in mux xs stopped) (value_in now (set xs i (record x { end = end })) stopped) items (Got place key ContentWritingCompleted) at rest)
completes_at mux now xs stopped key i x end items place at rest (Ok done) r h ended moves =
    let old = value_in mux xs stopped in
    let new = value_in now (set xs i (record x { end = end })) stopped in
    let m = Got place key ContentWritingCompleted ∷ mux_of mux.version items in
    completion_follows old new items place key at rest h x.end end r.at.found r.runs ended (moves m at rest h.mux)
    (r.at.changes (record x { end = end }) r.at.key) (r.at.keys (record x { end = end }) r.at.key) (running_state stopped now (unstopped stopped mux m at rest h.mux h.state))
completes_at mux now xs stopped key i x end items place at rest (Err e) r h ended moves = tt
