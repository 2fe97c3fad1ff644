-- Channels that a connection alone may use.
use Rattle.std.specs.Prelude.{ℕ, List, Bool, true, false, not, ◌&&◌, is_none, is_some, if◌then◌else◌, Option, Some, None, Ok, Err}
use Rattle.std.specs.List.{position}
use Rattle.std.proofs.Common.{◌≡◌, ◌∷◌, [], refl, sym, ◌∙◌, ap, subst}
use Rattle.std.proofs.lemmas.Bool.{true≢false}
use Rattle.std.proofs.lemmas.List.Quantifiers.{position-Some}
use Rattle.wire_base.specs.declared.fault.CallFault.{CallFault}
use Rattle.wire_base.specs.declared.fault.CallFault.TheVariants as fault
use Rattle.wire_base.specs.declared.frame.Version.{Version}
use Rattle.wire_base.specs.declared.refusal.Refusal.{Refusal}
use Rattle.wire_base.specs.declared.refusal.Refusal.TheVariants as refusal
use Rattle.wire_base.specs.declared.state.Cause.{Cause}
use Rattle.wire_base.specs.Options.{or_else}
use Rattle.mux_items.specs.declared.call.Call.{Call}
use Rattle.mux_items.specs.declared.channel.ChannelKey.{ChannelKey}
use Rattle.mux_items.specs.Bodies.{same_key}
use Rattle.mux_items.specs.Items.{Item, ended, is_running}
use Rattle.mux_items.specs.Kept.{is_kept}
use Rattle.mux_items.specs.Lists.{has_completed, termination_emitted}
use Rattle.mux_items.specs.declared.channel.ChannelView.{ChannelView}
use Rattle.mux_items.specs.Views.{view_of}
use Rattle.mux_end.specs.Stands.{EndValue, MuxStands}
use Rattle.mux_items.specs.Refusals.{is_unaccepted, unless_ended, write_refusal, read_refusal, complete_refusal}
use Rattle.rpc_end.specs.declared.terms.Terms.{Terms}
use Rattle.rpc_end.specs.Stands.{RpcValue}
use Rattle.endpoint_items.specs.Items.{EndItem, terms_of}
use Rattle.endpoint_items.specs.Connections.{Connection, was_attached}
use Rattle.endpoint_items.specs.Layers.{mux_of, rpc_of}
use Rattle.endpoint_items.specs.Bytes.{consumed, rest_of}
use Rattle.endpoint_items.specs.Calls.{OfMux, call_refusal, comes_first, unless_in_use}
use Rattle.endpoint.specs.declared.attached.Attached.{Attached}
use Rattle.endpoint.specs.Refusing.{RefusesUse}
use Rattle.endpoint.specs.Replies.{Answers, AnswersBy}
use Rattle.endpoint.specs.Stands.{ConnectionStands, Stands}
use Rattle.endpoint.specs.Value.{EndpointValue, connection_at, value_in}
use Rattle.endpoint.proofs.Places.{absent_differs}
use Rattle.endpoint.proofs.Standing.{unconnected}

-- a channel has a place in the list where it has a connection

placed_found : (c : ChannelKey) (xs : List Attached) (i : ℕ) → position (λ (a : Attached). same_key c a.key) xs ≡ Some i → connection_at c xs ≡ None → ⊥
placed_found c [] i place none = cc
placed_found c (x ∷ xs) i place none =
    let parts = position-Some (λ (a : Attached). same_key c a.key) (x ∷ xs) i x place in
    true≢false (sym parts.1 ∙ absent_differs c (x ∷ xs) i x parts.0 none)

found_attached : (found : Option RpcValue) (connection : Connection) (terms : Terms) (at : ℕ) (rest : List ℕ) → (found ≡ None → ⊥) → ConnectionStands found connection terms at rest → true ≡ was_attached connection
found_attached None connection terms at rest some c = absurd (some refl)
found_attached (Some e) (Some items) terms at rest some c = refl
found_attached (Some e) None terms at rest some c = absurd c

pub placed_attached : (c : ChannelKey) (end : EndpointValue) (items : List EndItem) (at : ℕ) (rest : List ℕ) → Stands end items at rest
    → is_some (position (λ (a : Attached). same_key c a.key) end.connections) ≡ was_attached (rpc_of end.mux.version c items)
placed_attached c end items at rest s = by (position (λ (a : Attached). same_key c a.key) end.connections) refl
  where
    by : (o : Option ℕ) → position (λ (a : Attached). same_key c a.key) end.connections ≡ o → is_some o ≡ was_attached (rpc_of end.mux.version c items)
    by None e = ap was_attached (sym (unconnected c end items at rest s e))
    by (Some i) e = found_attached (connection_at c end.connections) (rpc_of end.mux.version c items) (terms_of c items) (consumed c items) (rest_of end.mux.version c items) (placed_found c end.connections i e) (s.connections c)

shown_kept : {A : Type 0} (kept : Bool) (view : Option A) (shown : A) → view ≡ (if kept then Some shown else None) → is_some view ≡ kept
shown_kept true view shown is = ap is_some is
shown_kept false view shown is = ap is_some is

pub view_kept : (within : EndValue) (xs : List Attached) (stopped : Bool) (end : EndpointValue) (items : List EndItem) (at : ℕ) (rest : List ℕ) (c : ChannelKey) (view : Option ChannelView) → value_in within xs stopped ≡ end → Stands end items at rest
    → (MuxStands within (mux_of end.mux.version items) at rest → view ≡ view_of within.version c (mux_of end.mux.version items)) → is_some view ≡ is_kept end.mux.version c (mux_of end.mux.version items)
view_kept within xs stopped end items at rest c view is s shows =
    let m = mux_of end.mux.version items in
    shown_kept (is_kept end.mux.version c m) view _ (subst (λ (e : EndValue). MuxStands e m at rest → view ≡ view_of e.version c m) (ap (λ (e : EndpointValue). e.mux) is) shows s.mux)

pub where_kept : (kept attached : Bool) → true ≡ kept → attached ≡ (kept && attached)
where_kept true attached e = refl
where_kept false attached e = absurd cc

pub where_gone : (kept attached : Bool) → false ≡ kept → false ≡ (kept && attached)
where_gone false attached e = refl
where_gone true attached e = absurd cc

-- refusals that come before that of a channel with a connection

later : (b : Bool) (x : Refusal) (y : Option Refusal) → comes_first (Some x) ≡ false → comes_first y ≡ false → comes_first (if b then Some x else y) ≡ false
later true x y e f = e
later false x y e f = f

either : (x y : Option Refusal) → comes_first x ≡ false → comes_first y ≡ false → comes_first (or_else x y) ≡ false
either (Some r) y e f = e
either None y e f = f

writing_first : (why : Option Cause) (kept : Bool) (x y z : Option Refusal) → comes_first x ≡ false → comes_first y ≡ false → comes_first z ≡ false
    → comes_first (unless_ended why (or_else (or_else (if not kept then Some refusal.NoChannel else x) y) z)) ≡ not (is_none why && kept)
writing_first (Some why) kept x y z e f g = refl
writing_first None false x y z e f g = refl
writing_first None true x y z e f g = either (or_else x y) z (either x y e f) g

completing_first : (why : Option Cause) (kept : Bool) (x y : Option Refusal) → comes_first x ≡ false → comes_first y ≡ false
    → comes_first (unless_ended why (or_else (if not kept then Some refusal.NoChannel else x) y)) ≡ not (is_none why && kept)
completing_first (Some why) kept x y e f = refl
completing_first None false x y e f = refl
completing_first None true x y e f = either x y e f

reading_first : (kept : Bool) (x : Option Refusal) → comes_first x ≡ false → comes_first (if not kept then Some refusal.NoChannel else x) ≡ not kept
reading_first false x e = refl
reading_first true x e = e

pub write_first : (v : Version) (c : ChannelKey) (bytes : List ℕ) (m : List Item) → comes_first (write_refusal v c bytes m) ≡ not (is_running m && is_kept v c m)
write_first v c bytes m = writing_first (ended m) (is_kept v c m) _ _ _ (later (termination_emitted v c m) refusal.NotOpen None refl refl)
    (later (is_unaccepted v c m) refusal.NotAccepted _ refl (later (has_completed c m) refusal.WritingDone None refl refl)) (later _ refusal.BytesSpent None refl refl)

pub complete_first : (v : Version) (c : ChannelKey) (m : List Item) → comes_first (complete_refusal v c m) ≡ not (is_running m && is_kept v c m)
complete_first v c m = completing_first (ended m) (is_kept v c m) _ _ (later (termination_emitted v c m) refusal.NotOpen None refl refl)
    (later (is_unaccepted v c m) refusal.NotAccepted _ refl (later (has_completed c m) refusal.WritingDone None refl refl))

pub read_first : (v : Version) (c : ChannelKey) (m : List Item) → comes_first (read_refusal v c m) ≡ not (is_kept v c m)
read_first v c m = reading_first (is_kept v c m) _ (later (is_unaccepted v c m) refusal.NotAccepted None refl refl)

-- what a check says of the use of a channel

refused_use : (free attached : Bool) (r : Option Refusal) → comes_first r ≡ not free → (free && attached) ≡ true → unless_in_use attached r ≡ Some refusal.Attached
refused_use true true r e f = ap (λ b. if not b then Some refusal.Attached else r) e
refused_use true false r e f = absurd cc
refused_use false attached r e f = absurd cc

free_use : (free attached : Bool) (r : Option Refusal) → comes_first r ≡ not free → (free && attached) ≡ false → unless_in_use attached r ≡ r
free_use free false r e f = refl
free_use true true r e f = absurd cc
free_use false true r e f = ap (λ b. if not b then Some refusal.Attached else r) e

pub passes : (free attached : Bool) (r : Option Refusal) (x : Unit {0}) → comes_first r ≡ not free → RefusesUse (free && attached) (Ok x) → unless_in_use attached r ≡ r
passes free attached r x e ok = free_use free attached r e (unused (free && attached) ok)
  where
    unused : (b : Bool) → RefusesUse b (Ok x) → b ≡ false
    unused true h = absurd h
    unused false h = refl

pub in_use : {A : Type 0} (old : EndpointValue) (items : List EndItem) (at : ℕ) (rest : List ℕ) (d : Call) (IsAnswer : A → Type 0) (free attached : Bool) (r : Option Refusal) (why : CallFault) → comes_first r ≡ not free
    → call_refusal old.mux.version (OfMux d) items ≡ unless_in_use attached r → RefusesUse (free && attached) (Err why) → Answers old old items at rest (OfMux d) IsAnswer (Err why)
in_use {A = A} old items at rest d IsAnswer free attached r why e law h = by (free && attached) why refl h
  where
    by : (b : Bool) (why : CallFault) → (free && attached) ≡ b → RefusesUse b (Err why) → Answers old old items at rest (OfMux d) IsAnswer (Err why)
    by true (fault.Refused t) busy is =
        subst (λ (o : Option Refusal). AnswersBy old old items at rest (OfMux d) o o IsAnswer (Err (fault.Refused t))) (sym (law ∙ refused_use free attached r e busy)) (is, refl)
    by true fault.OutOfMemory busy is = absurd is
    by false why busy is = absurd is
