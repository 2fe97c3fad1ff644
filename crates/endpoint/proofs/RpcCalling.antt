-- What calls of connections answer.
use Rattle.std.specs.Prelude.{ℕ, List, [], ◌∷◌, ◌++◌, ◌<◌, length, get_or, set, nat_lt, Bool, true, false, not, ◌&&◌, if◌then◌else◌, Option, Some, None, Result, Ok, Err}
use Rattle.std.specs.List.{position, position_or_len}
use Rattle.std.proofs.lemmas.Bool.{ltb-true}
use Rattle.std.proofs.Common.{◌≡◌, inl, inr, refl, sym, ◌∙◌, ap, subst, arith}
use Rattle.std.proofs.lemmas.List.{set-set}
use Rattle.std.proofs.lemmas.Option.{get_or_from_slice_get, slice_get-get_or, slice_get_cases}
use Rattle.wire_base.specs.declared.fault.CallFault.{CallFault}
use Rattle.wire_base.specs.declared.fault.CallFault.TheVariants as fault
use Rattle.wire_base.specs.declared.frame.Version.{Version}
use Rattle.wire_base.specs.declared.refusal.Refusal.{Refusal}
use Rattle.wire_base.specs.declared.refusal.Refusal.TheVariants as refusal
use Rattle.wire_base.specs.declared.state.Cause.{Cause}
use Rattle.wire_base.specs.declared.state.EndState.{EndState}
use Rattle.wire_base.specs.declared.state.EndState.TheVariants as state
use Rattle.wire_base.specs.Options.{or_else}
use Rattle.message_body.specs.Written.{encoder}
use Rattle.mux_items.specs.declared.channel.ChannelKey.{ChannelKey}
use Rattle.mux_items.specs.Bodies.{same_key}
use Rattle.mux_items.proofs.Keys.{same_key_refl}
use Rattle.mux_end.specs.Stands.{EndValue}
use Rattle.rpc_items.specs.Bodies.{Encoder}
use Rattle.rpc_items.specs.Items.{RpcCall, RpcItem, Did, ended}
use Rattle.rpc_items.specs.Refusals as rpc
use Rattle.rpc_items.specs.Saying.{emits, said}
use Rattle.rpc_end.specs.Calls.{Tests}
use Rattle.rpc_end.specs.Ends.{with_output}
use Rattle.rpc_end.specs.Replies as rpc_end
use Rattle.rpc_end.specs.Stands.{RpcStands, RpcValue}
use Rattle.rpc_end.specs.Texts.{message_texts}
use Rattle.rpc_end.specs.declared.terms.Terms.{Terms}
use Rattle.endpoint_items.specs.Bytes.{consumed, rest_of}
use Rattle.endpoint_items.specs.Calls.{OfConnection, connection_refusal, is_spent_on}
use Rattle.endpoint_items.specs.Connections.{Connection, was_attached, items_of}
use Rattle.endpoint_items.specs.Following.{followed, write_said}
use Rattle.endpoint_items.specs.Items.{EndItem, DidCall, terms_of}
use Rattle.endpoint_items.specs.Layers.{mux_of, rpc_of}
use Rattle.endpoint.specs.declared.attached.Attached.{Attached}
use Rattle.endpoint.specs.Calls.{attached_place, room_refusal, saying_refusal}
use Rattle.endpoint.specs.Changes.{Moves, finished, with_connections}
use Rattle.endpoint.specs.Replies.{Adds, Answers, AnswersBy, early_refusal}
use Rattle.endpoint.specs.Sending.{FinishesSaid, IsAt, SendsAt, Writes}
use Rattle.endpoint.specs.Stands.{ConnectionStands, IsConnection, Stands}
use Rattle.endpoint.specs.Value.{AreOfOne, EndpointValue, connection_at, value_in}
use Rattle.endpoint.proofs.Places.{absent, at_place, keys_of}
use Rattle.endpoint.proofs.Sending.{at_set, one_changed, same_set}
use Rattle.endpoint.proofs.OnChannel.{adds_on, followed_taken}
use Rattle.endpoint.proofs.Standing.{not_stopped}

-- the refusals of a call on a channel with a connection and room

call_law : (v : Version) (c : ChannelKey) (call : RpcCall) (items : List EndItem) (its : List RpcItem) → rpc_of v c items ≡ Some its → (emits call && is_spent_on c (mux_of v items)) ≡ false
    → connection_refusal v c call items ≡ rpc.call_refusal (encoder (terms_of c items).encoding) call its
call_law v c call items its here room = rw (here, room) refl

early_law : (v : Version) (c : ChannelKey) (call : RpcCall) (items : List EndItem) (its : List RpcItem) → rpc_of v c items ≡ Some its → (emits call && is_spent_on c (mux_of v items)) ≡ false
    → early_refusal v (OfConnection c call) items ≡ rpc_end.early_refusal call its
early_law v c call items its here room = rw (here, room) refl

first_none : (first second : Option Refusal) → or_else first second ≡ None → first ≡ None
first_none (Some r) second e = absurd (cc e)
first_none None second e = refl

-- a call that isn't refused isn't refused early
early_none : (k : Encoder) (call : RpcCall) (its : List RpcItem) → rpc.call_refusal k call its ≡ None → rpc_end.early_refusal call its ≡ None
early_none k call its e = by (rpc.is_of_the_past call) (ended its) e
  where
    state_is : Option Refusal
    state_is = rpc.state_refusal call its

    by : (past : Bool) (why : Option Cause) → (if past then state_is else rpc.unless_ended why (or_else state_is (rpc.said_refusal k call its))) ≡ None → (if past then state_is else rpc.unless_ended why state_is) ≡ None
    by true why e = e
    by false None e = first_none state_is (rpc.said_refusal k call its) e
    by false (Some c) e = e

-- the connection at a place, after a call of it
abbrev pub with_end_at : ℕ → Attached → RpcValue → EndpointValue → EndpointValue
with_end_at place x end endpoint = with_connections (set endpoint.connections place (record x { end = end })) endpoint

-- the connection of a channel, as an end has it at a place
pub record Has (end : EndpointValue) (items : List EndItem) (place : ℕ) (x : Attached) (its : List RpcItem) : Type 0 where
  pub is_at : IsAt end.connections place x
  pub found : position (λ (attached : Attached). same_key x.key attached.key) end.connections ≡ Some place
  pub items_are : rpc_of end.mux.version x.key items ≡ Some its
  pub stands : IsConnection (terms_of x.key items) its (consumed x.key items) (rest_of end.mux.version x.key items) x.end

module _ {A : Type 0} (old new : EndpointValue) (items : List EndItem) (at : ℕ) (rest : List ℕ) (place : ℕ) (x : Attached) (end : RpcValue) (its : List RpcItem) (call : RpcCall) (IsAnswer : A → Type 0) where
  abbrev v : Version
  v = old.mux.version

  abbrev c : ChannelKey
  c = x.key

  abbrev mid : EndpointValue
  mid = with_end_at place x end old

  said_here : Stands old items at rest → Has old items place x its → rpc_end.Adds x.end end its (consumed c items) (rest_of v c items) (Did call) → SendsAt mid new place
      → Writes mid new place (record x { end = end }) (mux_of v items) (followed v (write_said c (terms_of c items) (said (Did call) its) (mux_of v items)) (mux_of v items)) at rest
  said_here s has adds sends = sends (mux_of v items) at rest (record x { end = end }) (terms_of c items) (said (Did call) its) s.mux s.state
      (at_set old.connections place x (record x { end = end }) has.is_at)
      (adds.output ∙ (λ i. has.stands.written i ++ message_texts (has.stands.terms_are i) (said (Did call) its)))

  added : Stands old items at rest → Has old items place x its → rpc_end.Adds x.end end its (consumed c items) (rest_of v c items) (Did call) → SendsAt mid new place
      → connection_refusal v c call items ≡ None → Adds old new items at rest (DidCall c call)
  added s has adds sends allowed =
      let w = said_here s has adds sends in
      let now : RpcValue = with_output [] end in
      let y : Attached = record x { end = now } in
      let is : new.connections ≡ set old.connections place y = w.connections ∙ set-set old.connections place (record x { end = end }) y in
      let placed = at_place c old.connections place x has.found (sym (get_or_from_slice_get old.connections place x x has.is_at)) in
      let t = adds.stands in
      let connection : rpc_of v c (DidCall c call ∷ items) ≡ Some (Did call ∷ its) = rw (same_key_refl c, has.items_are) refl in
      adds_on old new items at rest (DidCall c call) c now s
      (subst (λ (l : List RpcItem). Moves old.mux new.mux (mux_of v items) (followed v (write_said c (terms_of c items) (said (Did call) l) (mux_of v items)) (mux_of v items)) at rest) (sym (ap items_of has.items_are)) w.moves)
      w.state
      (ap keys_of is ∙ (placed.keys y refl ∙ s.keys))
      (ap (connection_at c) is ∙ (placed.changes y refl c ∙ rw (same_key_refl c) refl))
      (λ d differs. ap (connection_at d) is ∙ (placed.changes y refl d ∙ rw differs refl))
      (subst (λ con. ConnectionStands (Some now) con (terms_of c items) (consumed c items) (rest_of v c items)) (sym connection) (record {
        stands = record { table = t.table; producer = t.producer; consumer = t.consumer; owner = t.owner; holder = t.holder; at_is = t.at_is; rest_is = t.rest_is; state = t.state; allowed = t.allowed; said = t.said; named = t.named };
        terms_are = adds.terms_stay ∙ has.stands.terms_are;
        written = refl;
      }))
      (λ d differs. record { rpc = rw differs refl; terms = refl; consumed = refl; rest = refl })
      allowed
      (λ d. followed_taken v d (write_said c (terms_of c items) (said (Did call) (items_of (rpc_of v c items))) (mux_of v items)) (mux_of v items))

  unchanged : Has old items place x its → end ≡ x.end → mid ≡ old
  unchanged has same = ap (λ (e : RpcValue). with_end_at place x e old) same ∙ ap (λ (xs : List Attached). with_connections xs old) (same_set old.connections place x has.is_at)

  answered : (refused early : Option Refusal) (asked result : Result A CallFault) → Stands old items at rest → Has old items place x its → connection_refusal v c call items ≡ refused → (refused ≡ None → early ≡ None)
      → rpc_end.CallAnswers x.end end its (consumed c items) (rest_of v c items) call refused early IsAnswer asked → FinishesSaid mid new place asked result → AnswersBy old new items at rest (OfConnection c call) refused early IsAnswer result
  answered None early (Ok n) (Ok m) s has law first h f = (added s has h.0 f.1 law, subst IsAnswer (sym f.0) h.1)
  answered None None (Ok n) (Err fault.OutOfMemory) s has law first h f = f
  answered None (Some e) (Ok n) (Err fault.OutOfMemory) s has law first h f = absurd (cc (first refl))
  answered None early (Ok n) (Err (fault.Refused r)) s has law first h f = absurd f
  answered None None (Err fault.OutOfMemory) (Err fault.OutOfMemory) s has law first h f = f
  answered None None (Err fault.OutOfMemory) (Err (fault.Refused r)) s has law first h f = absurd f
  answered None None (Err fault.OutOfMemory) (Ok m) s has law first h f = absurd f
  answered None (Some e) (Err fault.OutOfMemory) result s has law first h f = absurd h
  answered None None (Err (fault.Refused r)) result s has law first h f = absurd h
  answered None (Some e) (Err (fault.Refused r)) result s has law first h f = absurd h
  answered (Some t) early (Ok n) result s has law first h f = absurd h
  answered (Some t) early (Err (fault.Refused r)) (Err (fault.Refused u)) s has law first h f = (f.0 ∙ h.0, f.1 ∙ unchanged has h.1)
  answered (Some t) early (Err (fault.Refused r)) (Err fault.OutOfMemory) s has law first h f = absurd f
  answered (Some t) early (Err (fault.Refused r)) (Ok m) s has law first h f = absurd f
  answered (Some t) None (Err fault.OutOfMemory) (Err fault.OutOfMemory) s has law first h f = f
  answered (Some t) None (Err fault.OutOfMemory) (Err (fault.Refused r)) s has law first h f = absurd f
  answered (Some t) None (Err fault.OutOfMemory) (Ok m) s has law first h f = absurd f
  answered (Some t) (Some e) (Err fault.OutOfMemory) result s has law first h f = absurd h

  -- a call of a channel with a connection and room answers as the connection does
  pub call_answers : (asked result : Result A CallFault) → Stands old items at rest → Has old items place x its → (emits call && is_spent_on x.key (mux_of old.mux.version items)) ≡ false
      → rpc_end.Answers x.end end its (consumed x.key items) (rest_of old.mux.version x.key items) call IsAnswer asked → FinishesSaid (with_end_at place x end old) new place asked result
      → Answers old new items at rest (OfConnection x.key call) IsAnswer result
  call_answers asked result s has room h f =
      let k : Encoder = encoder x.end.terms.encoding in
      let law : connection_refusal v c call items ≡ rpc.call_refusal k call its = call_law v c call items its has.items_are room ∙ ap (λ (t : Terms). rpc.call_refusal (encoder t.encoding) call its) (sym has.stands.terms_are) in
      let early_is = early_law v c call items its has.items_are room in
      subst (λ o. AnswersBy old new items at rest (OfConnection c call) o (early_refusal v (OfConnection c call) items) IsAnswer result) (sym law)
      (subst (λ o. AnswersBy old new items at rest (OfConnection c call) (rpc.call_refusal k call its) o IsAnswer result) (sym early_is)
      (answered (rpc.call_refusal k call its) (rpc_end.early_refusal call its) asked result s has law (early_none k call its) h f))

-- the connection that stands at a place

has_by : (end : EndpointValue) (items : List EndItem) (place : ℕ) (x : Attached) (connection : Connection) → IsAt end.connections place x → position (λ (attached : Attached). same_key x.key attached.key) end.connections ≡ Some place
    → rpc_of end.mux.version x.key items ≡ connection → ConnectionStands (Some x.end) connection (terms_of x.key items) (consumed x.key items) (rest_of end.mux.version x.key items) → Has end items place x (items_of connection)
has_by end items place x (Some its) at found are stands = record { is_at = at; found = found; items_are = are; stands = stands }
has_by end items place x None at found are stands = absurd stands

pub has_at : (end : EndpointValue) (items : List EndItem) (at : ℕ) (rest : List ℕ) (place : ℕ) (x : Attached) → Stands end items at rest → position (λ (attached : Attached). same_key x.key attached.key) end.connections ≡ Some place → x ≡ get_or end.connections place x
    → Has end items place x (items_of (rpc_of end.mux.version x.key items))
has_at end items at rest place x s found is =
    let v = end.mux.version in
    let placed = at_place x.key end.connections place x found is in
    has_by end items place x (rpc_of v x.key items) (slice_get-get_or end.connections place x placed.within ∙ ap Some (sym is)) found refl
    (subst (λ o. ConnectionStands o (rpc_of v x.key items) (terms_of x.key items) (consumed x.key items) (rest_of v x.key items)) placed.found (s.connections x.key))

pub has_attached : (end : EndpointValue) (items : List EndItem) (place : ℕ) (x : Attached) (its : List RpcItem) → Has end items place x its → was_attached (rpc_of end.mux.version x.key items) ≡ true
has_attached end items place x its has = rw has.items_are refl

-- a call of the connection at a place, and what it said
module _ {A : Type 0} (new : EndpointValue) (items : List EndItem) (at : ℕ) (rest : List ℕ) (place : ℕ) (x : Attached) (end : RpcValue) (call : RpcCall) (IsAnswer : List RpcItem → A → Type 0) (asked result : Result A CallFault) where
  calls_in : (old : EndpointValue) (key : ChannelKey) → x ≡ get_or old.connections place x → FinishesSaid (with_end_at place x end old) new place asked result
      → ((its : List RpcItem) (at : ℕ) (rest : List ℕ) → RpcStands x.end its at rest → rpc_end.Answers x.end end its at rest call (IsAnswer its) asked)
      → Stands old items at rest → position (λ (attached : Attached). same_key key attached.key) old.connections ≡ Some place
      → (was_attached (rpc_of old.mux.version key items) ≡ true → (emits call && is_spent_on key (mux_of old.mux.version items)) ≡ false)
      → Answers old new items at rest (OfConnection key call) (IsAnswer (items_of (rpc_of old.mux.version key items))) result
  calls_in old key is f h s found room =
      let v = old.mux.version in
      let same : x.key ≡ key = (at_place key old.connections place x found is).key in
      let own = subst (λ k. position (λ (attached : Attached). same_key k attached.key) old.connections ≡ Some place) (sym same) found in
      let has = has_at old items at rest place x s own is in
      let its = items_of (rpc_of v x.key items) in
      subst (λ k. Answers old new items at rest (OfConnection k call) (IsAnswer (items_of (rpc_of v k items))) result) same
      (call_answers old new items at rest place x end its call (IsAnswer its) asked result s has
      (subst (λ k. was_attached (rpc_of v k items) ≡ true → (emits call && is_spent_on k (mux_of v items)) ≡ false) (sym same) room (has_attached old items place x its has))
      (h its (consumed x.key items) (rest_of v x.key items) has.stands.stands) f)

  pub calls : (mux : EndValue) (xs : List Attached) (stopped : Bool) (old : EndpointValue) (key : ChannelKey) → value_in mux xs stopped ≡ old → x ≡ get_or xs place x → FinishesSaid (value_in mux (set xs place (record x { end = end })) stopped) new place asked result
      → ((its : List RpcItem) (at : ℕ) (rest : List ℕ) → RpcStands x.end its at rest → rpc_end.Answers x.end end its at rest call (IsAnswer its) asked)
      → Stands old items at rest → position (λ (attached : Attached). same_key key attached.key) old.connections ≡ Some place
      → (was_attached (rpc_of old.mux.version key items) ≡ true → (emits call && is_spent_on key (mux_of old.mux.version items)) ≡ false)
      → Answers old new items at rest (OfConnection key call) (IsAnswer (items_of (rpc_of old.mux.version key items))) result
  calls mux xs stopped old key view x_is f h =
      subst (λ (e : EndpointValue). Stands e items at rest → position (λ (attached : Attached). same_key key attached.key) e.connections ≡ Some place
      → (was_attached (rpc_of e.mux.version key items) ≡ true → (emits call && is_spent_on key (mux_of e.mux.version items)) ≡ false)
      → Answers e new items at rest (OfConnection key call) (IsAnswer (items_of (rpc_of e.mux.version key items))) result) view
      (calls_in (value_in mux xs stopped) key x_is f h)

-- where a connection was found
pub found_place : (s : EndState) (found : Option ℕ) (place : ℕ) → Ok place ≡ attached_place s found → found ≡ Some place
found_place state.Running (Some n) place e = cc
found_place (state.Ended why) (Some n) place e = cc
found_place state.Running None place e = absurd (cc e)
found_place (state.Ended why) None place e = absurd (cc e)
found_place state.Stopped found place e = absurd (cc e)

-- a call of a channel without a connection

no_connection : (connection : Connection) (terms : Terms) (at : ℕ) (rest : List ℕ) → ConnectionStands None connection terms at rest → connection ≡ None
no_connection None terms at rest stands = refl
no_connection (Some its) terms at rest stands = absurd stands

pub none_attached : (old : EndpointValue) (items : List EndItem) (at : ℕ) (rest : List ℕ) (key : ChannelKey) → Stands old items at rest → position (λ (attached : Attached). same_key key attached.key) old.connections ≡ None → rpc_of old.mux.version key items ≡ None
none_attached old items at rest key s found =
    no_connection (rpc_of old.mux.version key items) (terms_of key items) (consumed key items) (rest_of old.mux.version key items)
    (subst (λ o. ConnectionStands o (rpc_of old.mux.version key items) (terms_of key items) (consumed key items) (rest_of old.mux.version key items)) (absent key old.connections found) (s.connections key))

pub not_attached : (old : EndpointValue) (items : List EndItem) (at : ℕ) (rest : List ℕ) (key : ChannelKey) (error : CallFault) → Stands old items at rest
    → Err error ≡ attached_place old.state (position (λ (attached : Attached). same_key key attached.key) old.connections) → (error ≡ fault.Refused refusal.NotAttached) × (rpc_of old.mux.version key items ≡ None)
not_attached old items at rest key error s e = by old.state (position (λ (attached : Attached). same_key key attached.key) old.connections) refl refl e
  where
    by : (is : EndState) (found : Option ℕ) → old.state ≡ is → position (λ (attached : Attached). same_key key attached.key) old.connections ≡ found → Err error ≡ attached_place is found
        → (error ≡ fault.Refused refusal.NotAttached) × (rpc_of old.mux.version key items ≡ None)
    by state.Stopped found is none e = absurd (not_stopped old items at rest s is)
    by state.Running (Some n) is none e = absurd (cc e)
    by (state.Ended why) (Some n) is none e = absurd (cc e)
    by state.Running None is none e = (cc e, none_attached old items at rest key s none)
    by (state.Ended why) None is none e = (cc e, none_attached old items at rest key s none)

module _ {A : Type 0} (old : EndpointValue) (items : List EndItem) (at : ℕ) (rest : List ℕ) (key : ChannelKey) (call : RpcCall) (IsAnswer : A → Type 0) (error : CallFault) where
  refuses : (r : Refusal) → error ≡ fault.Refused r → connection_refusal old.mux.version key call items ≡ Some r → Answers old old items at rest (OfConnection key call) IsAnswer (Err error)
  refuses r is law =
      subst (λ (e : CallFault). Answers old old items at rest (OfConnection key call) IsAnswer (Err e)) (sym is)
      (subst (λ o. AnswersBy old old items at rest (OfConnection key call) o (early_refusal old.mux.version (OfConnection key call) items) IsAnswer (Err (fault.Refused r))) (sym law) (refl, refl))

  pub unattached_answers : Stands old items at rest → Err error ≡ attached_place old.state (position (λ (attached : Attached). same_key key attached.key) old.connections) → Answers old old items at rest (OfConnection key call) IsAnswer (Err error)
  unattached_answers s e = let p = not_attached old items at rest key error s e in refuses refusal.NotAttached p.0 (rw p.1 refl)

  -- a call that says something is refused as each of those is
  pub unsaid_answers : emits call ≡ true → Tests {A = ℕ} (saying_refusal old.mux.version key items) (Err error) → Answers old old items at rest (OfConnection key call) IsAnswer (Err error)
  unsaid_answers emitting t = by error refl t
    where
      v : Version
      v = old.mux.version

      law : (r : Refusal) (was spent : Bool) → (if not was then Some refusal.NotAttached else room_refusal spent) ≡ Some r
          → (if not was then Some refusal.NotAttached else if emits call && spent then Some refusal.BytesSpent else rpc.call_refusal (encoder (terms_of key items).encoding) call (items_of (rpc_of v key items))) ≡ Some r
      law r false spent e = e
      law r true true e = rw emitting e
      law r true false e = absurd (cc e)

      by : (e : CallFault) → error ≡ e → Tests {A = ℕ} (saying_refusal v key items) (Err e) → Answers old old items at rest (OfConnection key call) IsAnswer (Err error)
      by (fault.Refused r) is t = refuses r is (law r (was_attached (rpc_of v key items)) (is_spent_on key (mux_of v items)) t)
      by fault.OutOfMemory is t = absurd t

-- what is tested before something is said

pub unattached_tests : (old : EndpointValue) (items : List EndItem) (at : ℕ) (rest : List ℕ) (key : ChannelKey) (error : CallFault) → Stands old items at rest
    → Err error ≡ attached_place old.state (position (λ (attached : Attached). same_key key attached.key) old.connections) → Tests {A = ℕ} (saying_refusal old.mux.version key items) (Err error)
unattached_tests old items at rest key error s e = let p = not_attached old items at rest key error s e in rw (p.0, p.1) refl

pub spent_tests : (v : Version) (c : ChannelKey) (items : List EndItem) (error : CallFault) → was_attached (rpc_of v c items) ≡ true → Tests {A = Unit {0}} (room_refusal (is_spent_on c (mux_of v items))) (Err error)
    → Tests {A = ℕ} (saying_refusal v c items) (Err error)
spent_tests v c items (fault.Refused r) was t = rw was t
spent_tests v c items fault.OutOfMemory was t = absurd t

pub has_room : (v : Version) (c : ChannelKey) (items : List EndItem) (call : RpcCall) → saying_refusal v c items ≡ None → was_attached (rpc_of v c items) ≡ true → (emits call && is_spent_on c (mux_of v items)) ≡ false
has_room v c items call none was = by (emits call) (is_spent_on c (mux_of v items)) (rw was at none)
  where
    by : (saying spent : Bool) → room_refusal spent ≡ None → (saying && spent) ≡ false
    by saying true e = absurd (cc e)
    by true false e = refl
    by false false e = refl

-- a connection that was found

placed_within : (n total place : ℕ) → (if nat_lt n total then Some n else None) ≡ Some place → place < total
placed_within n total place e = by (nat_lt n total) refl e
  where
    by : (less : Bool) → nat_lt n total ≡ less → (if less then Some n else None) ≡ Some place → place < total
    by true less found = subst (λ k. k < total) (cc found) (ltb-true n total less)
    by false less found = absurd (cc found)

found_within : (key : ChannelKey) (xs : List Attached) (place : ℕ) → position (λ (attached : Attached). same_key key attached.key) xs ≡ Some place → place < length xs
found_within key xs place found = placed_within (position_or_len (λ (attached : Attached). same_key key attached.key) xs) (length xs) place found

connected : (connection : Connection) (found : Option RpcValue) (terms : Terms) (at : ℕ) (rest : List ℕ) (end : RpcValue) → found ≡ Some end → ConnectionStands found connection terms at rest → was_attached connection ≡ true
connected (Some its) found terms at rest end e stands = refl
connected None None terms at rest end e stands = absurd (cc e)
connected None (Some other) terms at rest end e stands = absurd stands

pub found_attached : (old : EndpointValue) (items : List EndItem) (at : ℕ) (rest : List ℕ) (place : ℕ) (key : ChannelKey) → Stands old items at rest → position (λ (attached : Attached). same_key key attached.key) old.connections ≡ Some place
    → was_attached (rpc_of old.mux.version key items) ≡ true
found_attached old items at rest place key s found = elim (slice_get_cases old.connections place).1 [
  | inl here ↦ connected (rpc_of old.mux.version key items) (connection_at key old.connections) (terms_of key items) (consumed key items) (rest_of old.mux.version key items) here.0.end
      (at_place key old.connections place here.0 found (sym here.3)).found (s.connections key)
  | inr past ↦ absurd (omega (arith, found_within key old.connections place found, past.0))
]

-- with the one at a place as a call left it, no channel has two connections
pub one_called : (mux : EndValue) (xs : List Attached) (stopped : Bool) (old : EndpointValue) (key : ChannelKey) (place : ℕ) (x : Attached) (end : RpcValue) → value_in mux xs stopped ≡ old
    → position (λ (attached : Attached). same_key key attached.key) old.connections ≡ Some place → x ≡ get_or xs place x → AreOfOne xs → AreOfOne (set xs place (record x { end = end }))
one_called mux xs stopped old key place x end view found is one =
    one_changed mux xs stopped old place x end view (found_within key old.connections place found) is one

-- a fault is what the call answers
pub finishes_fault : {A : Type 0} (old new : EndpointValue) (place : ℕ) (error : CallFault) (result : Result A CallFault) → result ≡ Err error → new ≡ finished {A = A} (Err error) old → FinishesSaid {A = A} old new place (Err error) result
finishes_fault {A} old new place (fault.Refused r) result is new_is = subst (λ (o : Result A CallFault). FinishesSaid {A = A} old new place (Err (fault.Refused r)) o) (sym is) (refl, new_is)
finishes_fault {A} old new place fault.OutOfMemory result is new_is = subst (λ (o : Result A CallFault). FinishesSaid {A = A} old new place (Err fault.OutOfMemory) o) (sym is) (ap (λ (e : EndpointValue). e.state) new_is)
