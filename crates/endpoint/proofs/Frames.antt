-- What is done for connections as the peer's frames come.
use Rattle.std.specs.Prelude.{◌+◌, ◌≤◌, drop, if◌then◌else◌, ◌&&◌, Bool, true, false, is_none, option_map, Ok}
use Rattle.std.proofs.Common.{◌≡◌, ℕ, List, [], ◌∷◌, ◌++◌, length, inl, inr, refl, sym, ◌∙◌, ap, subst, arith, length-append, length-drop, Option, Some, None}
use Rattle.std.proofs.lemmas.Bool.{le-ltb}
use Rattle.std.proofs.lemmas.List.{drop-append-le, length-take}
use Rattle.wire_base.specs.declared.frame.Version.{Version}
use Rattle.wire_base.specs.declared.state.Cause.{Cause}
use Rattle.wire_base.specs.declared.state.Cause.TheVariants as cause
use Rattle.wire_base.specs.declared.state.EndState.{EndState}
use Rattle.wire_base.specs.declared.state.EndState.TheVariants as state
use Rattle.wire_base.specs.States.{state_by}
use Rattle.mux_items.specs.declared.channel.ChannelKey.{ChannelKey}
use Rattle.mux_items.specs.Bodies.{Content, ContentWritingCompleted, ChannelTerminated, same_key}
use Rattle.mux_items.specs.Calls.{called}
use Rattle.mux_items.specs.Items.{Item, Got}
use Rattle.mux_items.specs.Lists.{handed, is_terminated_by_peer, taken, termination_emitted, unread}
use Rattle.mux_items.specs.Refusals.{read_refusal}
use Rattle.mux_items.proofs.Keys.{key_cases, same_key_refl}
use Rattle.mux_items.proofs.Taking.{read_bytes-is}
use Rattle.rpc_items.specs.Items as rpc
use Rattle.rpc_end.specs.declared.terms.Terms.{Terms}
use Rattle.rpc_end.specs.Replies as rpc_end
use Rattle.rpc_end.specs.Stands.{RpcValue, RpcStands}
use Rattle.endpoint_items.specs.Allowed.{used_in}
use Rattle.endpoint_items.specs.Bytes.{consumed, joined, is_read_on, rest_of}
use Rattle.endpoint_items.specs.Calls.{is_in_use}
use Rattle.endpoint_items.specs.Connections.{Connection, is_attached, was_attached, end_for}
use Rattle.endpoint_items.specs.Following.{followed, follow_ups, read_all, complete_once}
use Rattle.endpoint_items.specs.Items.{EndItem, Mux, terms_of}
use Rattle.endpoint_items.specs.Joined.{read_first}
use Rattle.endpoint_items.specs.Layers.{mux_of, rpc_of}
use Rattle.endpoint_items.proofs.Attached.{attached_going}
use Rattle.endpoint_items.proofs.Joining.{reads}
use Rattle.endpoint_items.proofs.Lying.{messages_lie}
use Rattle.endpoint_items.proofs.Opens.{going_usable}
use Rattle.endpoint_items.proofs.Usable.{read_none}
use Rattle.endpoint.specs.declared.attached.Attached.{Attached}
use Rattle.endpoint.specs.Changes.{Moves, ended_at}
use Rattle.endpoint.specs.Stands.{ConnectionStands, IsConnection}
use Rattle.endpoint.specs.Steps.{Follows, HasApplied}
use Rattle.endpoint.specs.Value.{EndpointValue, connection_at}
use Rattle.endpoint.proofs.Adding.{ending_stands, stands_by}
use Rattle.endpoint.proofs.Events.{IsQuiet, by_peer_emitted, going_stays, still_going}
use Rattle.endpoint.proofs.Growing.{sends_none}
use Rattle.endpoint.proofs.OnChannel.{followed_taken}
use Rattle.endpoint.proofs.Places.{ended_found, ended_keys, ending, keys_of}

-- a connection that runs

pub record IsHeld (end : RpcValue) (connection : Connection) (terms : Terms) (at : ℕ) (rest : List ℕ) : Type 0 where
  pub items : List rpc.RpcItem
  pub is : connection ≡ Some items
  pub stands : IsConnection terms items at rest end
  pub runs : rpc.ended items ≡ None

running_none : (why : Option Cause) → state_by why ≡ state.Running → why ≡ None
running_none None e = refl
running_none (Some why) e = absurd (cc e)

pub held : (end : RpcValue) (connection : Connection) (terms : Terms) (at : ℕ) (rest : List ℕ) → ConnectionStands (Some end) connection terms at rest → end.state ≡ state.Running → IsHeld end connection terms at rest
held end (Some items) terms at rest c runs = record { items = items; is = refl; stands = c; runs = running_none (rpc.ended items) (sym c.stands.state ∙ runs) }
held end None terms at rest c runs = absurd c

pub held_attached : (end : RpcValue) (connection : Connection) (terms : Terms) (at : ℕ) (rest : List ℕ) → IsHeld end connection terms at rest → is_attached connection ≡ true
held_attached end connection terms at rest h = ap is_attached h.is ∙ ap is_none h.runs

pub held_was : (end : RpcValue) (connection : Connection) (terms : Terms) (at : ℕ) (rest : List ℕ) → IsHeld end connection terms at rest → was_attached connection ≡ true
held_was end connection terms at rest h = ap was_attached h.is

-- where one connection changes, what is so of it and of the others is so of all
pub one_changes : (P : ChannelKey → Option RpcValue → Type 0) (key : ChannelKey) (end : RpcValue) (old new : List Attached) → ((c : ChannelKey) → connection_at c new ≡ (if same_key key c then Some end else connection_at c old))
    → P key (Some end) → ((c : ChannelKey) → same_key key c ≡ false → P c (connection_at c old)) → (c : ChannelKey) → P c (connection_at c new)
one_changes P key end old new changes here others c = subst (P c) (sym (changes c)) (elim (key_cases key c) [
  | inl same ↦ subst (λ k. P k (if same_key key k then Some end else connection_at k old)) same (subst (λ b. P key (if b then Some end else connection_at key old)) (sym (same_key_refl key)) here)
  | inr differs ↦ subst (λ b. P c (if b then Some end else connection_at c old)) (sym differs) (others c differs)
])

-- all that follows an item is done
pub follows : (old new : EndpointValue) (items : List EndItem) (item : Item) (at : ℕ) (rest : List ℕ) → HasApplied old items item at rest
    → Moves old.mux new.mux (item ∷ mux_of old.mux.version items) (mux_of old.mux.version (Mux item ∷ items)) at rest → new.state ≡ new.mux.state → keys_of new.connections ≡ keys_of old.connections → used_in item ≡ None
    → ((c : ChannelKey) → ConnectionStands (connection_at c new.connections) (rpc_of old.mux.version c (Mux item ∷ items)) (terms_of c items) (consumed c items) (rest_of old.mux.version c (Mux item ∷ items)))
    → Follows old new items item at rest
follows old new items item at rest h moves state_is keys unused after =
    let v = old.mux.version in
    let now = item ∷ mux_of v items in
    record {
      stands = stands_by v new (Mux item ∷ items) at rest moves.terms.version (record {
        mux = moves.stands;
        state = state_is;
        connections = after;
        keys = keys ∙ h.keys;
        allowed = ((h.mux.allowed, ap (λ c. is_in_use v c items) unused), h.allowed);
        taken_within = λ c. omega (arith, h.taken_within c, ap length (followed_taken v c (follow_ups v (λ d. is_attached (rpc_of v d items)) item now) now));
        fed_within = h.fed_within;
      });
      sends = moves.sends;
      terms = moves.terms;
    }

-- an item whose event asks for nothing
pub quiet_follows : (old : EndpointValue) (items : List EndItem) (item : Item) (at : ℕ) (rest : List ℕ) → HasApplied old items item at rest → IsQuiet old.mux.version items item → Follows old old items item at rest
quiet_follows old items item at rest h q =
    let v = old.mux.version in
    let now = item ∷ mux_of v items in
    let is : mux_of v (Mux item ∷ items) ≡ now = ap (λ calls. followed v calls now) q.calls in
    follows old old items item at rest h
    (subst (λ m. Moves old.mux old.mux now m at rest) (sym is) (record { stands = h.mux; sends = sends_none v now old.mux.output; terms = record { version = refl; nonce = refl } }))
    h.state refl q.unused
    (λ c.
    subst (λ x. ConnectionStands (connection_at c old.connections) x (terms_of c items) (consumed c items) (rest_of v c (Mux item ∷ items))) (sym (q.stays c))
    (subst (λ b. ConnectionStands (connection_at c old.connections) (rpc_of v c items) (terms_of c items) (consumed c items) (drop (consumed c items) (if b then joined v c items ++ unread v c now else joined v c items))) (sym (q.unread c)) (h.connections c)))

-- content comes to a connection that runs
module _ (old new : EndpointValue) (items : List EndItem) (place : ℕ) (key : ChannelKey) (bytes : List ℕ) (at : ℕ) (rest : List ℕ) (h : HasApplied old items (Got place key (Content bytes)) at rest)
    (end end' : RpcValue) (found : connection_at key old.connections ≡ Some end) (runs : end.state ≡ state.Running) where
  abbrev item : Item
  item = Got place key (Content bytes)

  abbrev now : List Item
  now = item ∷ mux_of old.mux.version items

  abbrev x : Connection
  x = rpc_of old.mux.version key items

  holds : IsHeld end x (terms_of key items) (consumed key items) (rest_of old.mux.version key items)
  holds = held end x (terms_of key items) (consumed key items) (rest_of old.mux.version key items)
      (subst (λ o. ConnectionStands o x (terms_of key items) (consumed key items) (rest_of old.mux.version key items)) found (h.connections key)) runs

  attached : is_attached x ≡ true
  attached = held_attached end x (terms_of key items) (consumed key items) (rest_of old.mux.version key items) holds

  pub content_readable : read_refusal old.mux.version key now ≡ None
  content_readable =
      let v = old.mux.version in
      read_none v key now (going_usable v key now (still_going v key place key (Content bytes) (mux_of v items) refl (attached_going v key items h.allowed attached)))

  read_here : is_read_on key (is_attached x) item ≡ true
  read_here = rw (same_key_refl key) attached

  joined_is : joined old.mux.version key (Mux item ∷ items) ≡ joined old.mux.version key items ++ unread old.mux.version key now
  joined_is = let v = old.mux.version in ap (λ b. if b then joined v key items ++ unread v key now else joined v key items) read_here

  lies : consumed key items ≤ length (joined old.mux.version key items)
  lies = messages_lie old.mux.version key items h.allowed

  rest_is : rest_of old.mux.version key (Mux item ∷ items) ≡ rest_of old.mux.version key items ++ unread old.mux.version key now
  rest_is = let v = old.mux.version in ap (drop (consumed key items)) joined_is ∙ drop-append-le (consumed key items) (joined v key items) (unread v key now) lies

  -- no more is read than was taken
  read_within : length (joined old.mux.version key (Mux item ∷ items)) ≤ at
  read_within =
      let v = old.mux.version in
      let m = mux_of v (Mux item ∷ items) in
      let was : was_attached (rpc_of v key (Mux item ∷ items)) ≡ true =
      ap was_attached (going_stays v items place key (Content bytes) h.allowed refl key) ∙ held_was end x (terms_of key items) (consumed key items) (rest_of v key items) holds in
      let all = reads v key (Mux item ∷ items) ((h.mux.allowed, refl), h.allowed) was in
      omega (
        arith,
        h.taken_within key,
        ap length (followed_taken v key (follow_ups v (λ d. is_attached (rpc_of v d items)) item now) now),
        ap length (read_bytes-is v key m),
        length-take (handed v key m) (taken v key m),
        ap length all,
        length-append (read_first v key (Mux item ∷ items)) (joined v key (Mux item ∷ items)),
      )

  unspent : rpc_end.is_spent (consumed key items) (rest_of old.mux.version key items) (unread old.mux.version key now) ≡ false
  unspent =
      let v = old.mux.version in
      let grown : length (joined v key (Mux item ∷ items)) ≡ length (joined v key items) + length (unread v key now) = ap length joined_is ∙ length-append (joined v key items) (unread v key now) in
      let within : consumed key items + length (rest_of v key items) + length (unread v key now) ≤ rpc_end.most_fed =
      omega (arith, read_within, grown, lies, length-drop (consumed key items) (joined v key items), h.fed_within) in
      le-ltb _ _ within

  fed_stands : (piece : List ℕ) (result : EndState) → piece ≡ unread old.mux.version key now
      → ((xs : List rpc.RpcItem) (n : ℕ) (bs : List ℕ) → RpcStands end xs n bs → rpc_end.FeedAnswers end end' xs n bs piece (rpc.ended xs) (rpc_end.is_spent n bs piece) (Ok result))
      → IsConnection (terms_of key items) holds.items (consumed key items) (rest_of old.mux.version key (Mux item ∷ items)) end'
  fed_stands piece result whole answers =
      let v = old.mux.version in
      let bs = rest_of v key items in
      let fed = answers holds.items (consumed key items) bs holds.stands.stands in
      let kept : rpc_end.FeedAnswers end end' holds.items (consumed key items) bs piece None false (Ok result) =
      subst (λ b. rpc_end.FeedAnswers end end' holds.items (consumed key items) bs piece None b (Ok result)) (ap (rpc_end.is_spent (consumed key items) bs) whole ∙ unspent)
      (subst (λ o. rpc_end.FeedAnswers end end' holds.items (consumed key items) bs piece o (rpc_end.is_spent (consumed key items) bs piece) (Ok result)) holds.runs fed) in
      record {
        stands = subst (λ bs. RpcStands end' holds.items (consumed key items) bs) (ap (λ p. rest_of v key items ++ p) whole ∙ sym rest_is) kept.1.stands;
        terms_are = kept.1.terms_stay ∙ holds.stands.terms_are;
        written = kept.1.output ∙ holds.stands.written;
      }

  pub content_follows : (piece : List ℕ) (result : EndState) → Moves old.mux new.mux now (called old.mux.version (read_all old.mux.version key now) now) at rest → piece ≡ unread old.mux.version key now
      → ((xs : List rpc.RpcItem) (n : ℕ) (bs : List ℕ) → RpcStands end xs n bs → rpc_end.FeedAnswers end end' xs n bs piece (rpc.ended xs) (rpc_end.is_spent n bs piece) (Ok result))
      → ((c : ChannelKey) → connection_at c new.connections ≡ (if same_key key c then Some end' else connection_at c old.connections)) → keys_of new.connections ≡ keys_of old.connections → new.state ≡ new.mux.state
      → Follows old new items item at rest
  content_follows piece result moves whole answers changes keys state_is =
      let v = old.mux.version in
      let is : mux_of v (Mux item ∷ items) ≡ called v (read_all v key now) now = ap (λ b. followed v (if b then read_all v key now ∷ [] else []) now) attached in
      follows old new items item at rest h (subst (λ m. Moves old.mux new.mux now m at rest) (sym is) moves) state_is keys refl
      (λ c.
      subst (λ y. ConnectionStands (connection_at c new.connections) y (terms_of c items) (consumed c items) (rest_of v c (Mux item ∷ items))) (sym (going_stays v items place key (Content bytes) h.allowed refl c))
      (one_changes (λ c o. ConnectionStands o (rpc_of v c items) (terms_of c items) (consumed c items) (rest_of v c (Mux item ∷ items))) key end' old.connections new.connections changes
      (subst (λ y. ConnectionStands (Some end') y (terms_of key items) (consumed key items) (rest_of v key (Mux item ∷ items))) (sym holds.is) (fed_stands piece result whole answers))
      (λ c differs. subst (λ b. ConnectionStands (connection_at c old.connections) (rpc_of v c items) (terms_of c items) (consumed c items)
      (drop (consumed c items) (if b && is_attached (rpc_of v c items) then joined v c items ++ unread v c now else joined v c items))) (sym differs) (h.connections c)) c))

-- the peer completes where a connection runs
pub completion_follows : (old new : EndpointValue) (items : List EndItem) (place : ℕ) (key : ChannelKey) (at : ℕ) (rest : List ℕ) → HasApplied old items (Got place key ContentWritingCompleted) at rest
    → (end end' : RpcValue) → connection_at key old.connections ≡ Some end → end.state ≡ state.Running → end' ≡ ending cause.PeerCompleted end
    → Moves old.mux new.mux (Got place key ContentWritingCompleted ∷ mux_of old.mux.version items) (followed old.mux.version (complete_once key (Got place key ContentWritingCompleted ∷ mux_of old.mux.version items)) (Got place key ContentWritingCompleted ∷ mux_of old.mux.version items)) at rest
    → ((c : ChannelKey) → connection_at c new.connections ≡ (if same_key key c then Some end' else connection_at c old.connections)) → keys_of new.connections ≡ keys_of old.connections → new.state ≡ new.mux.state
    → Follows old new items (Got place key ContentWritingCompleted) at rest
completion_follows old new items place key at rest h end end' found runs ended moves changes keys state_is =
    let v = old.mux.version in
    let item = Got place key ContentWritingCompleted in
    let now = item ∷ mux_of v items in
    let x = rpc_of v key items in
    let here : ConnectionStands (Some end) x (terms_of key items) (consumed key items) (rest_of v key items) =
    subst (λ o. ConnectionStands o x (terms_of key items) (consumed key items) (rest_of v key items)) found (h.connections key) in
    let attached = held_attached end x (terms_of key items) (consumed key items) (rest_of v key items) (held end x (terms_of key items) (consumed key items) (rest_of v key items) here runs) in
    let is : mux_of v (Mux item ∷ items) ≡ followed v (complete_once key now) now = ap (λ b. followed v (if b then complete_once key now else []) now) attached in
    follows old new items item at rest h (subst (λ m. Moves old.mux new.mux now m at rest) (sym is) moves) state_is keys refl
    (one_changes (λ c o. ConnectionStands o (rpc_of v c (Mux item ∷ items)) (terms_of c items) (consumed c items) (rest_of v c items)) key end' old.connections new.connections changes
    (subst (λ b. ConnectionStands (Some end') (end_for (if b then Some cause.PeerCompleted else None) x) (terms_of key items) (consumed key items) (rest_of v key items)) (sym (same_key_refl key))
    (subst (λ e. ConnectionStands (Some e) (end_for (Some cause.PeerCompleted) x) (terms_of key items) (consumed key items) (rest_of v key items)) (sym ended)
    (ending_stands cause.PeerCompleted (Some end) x (terms_of key items) (consumed key items) (rest_of v key items) here)))
    (λ c differs. subst (λ b. ConnectionStands (connection_at c old.connections) (end_for (if b then Some cause.PeerCompleted else None) (rpc_of v c items)) (terms_of c items) (consumed c items) (rest_of v c items)) (sym differs) (h.connections c)))

-- the peer terminates a channel
pub termination_follows : (old : EndpointValue) (items : List EndItem) (place : ℕ) (key : ChannelKey) (at : ℕ) (rest : List ℕ) → HasApplied old items (Got place key ChannelTerminated) at rest
    → Follows old (record old { connections = ended_at key cause.ChannelClosed old.connections }) items (Got place key ChannelTerminated) at rest
termination_follows old items place key at rest h =
    let item = Got place key ChannelTerminated in
    let now = item ∷ mux_of old.mux.version items in
    follows old (record old { connections = ended_at key cause.ChannelClosed old.connections }) items item at rest h
    (record { stands = h.mux; sends = sends_none old.mux.version now old.mux.output; terms = record { version = refl; nonce = refl } }) h.state (ended_keys key cause.ChannelClosed old.connections) refl
    (λ c. subst (λ o. ConnectionStands o (rpc_of old.mux.version c (Mux item ∷ items)) (terms_of c items) (consumed c items) (rest_of old.mux.version c items)) (sym (ended_found key c cause.ChannelClosed old.connections)) (by c (same_key key c) refl))
  where
    v : Version
    v = old.mux.version

    by : (c : ChannelKey) (b : Bool) → same_key key c ≡ b
        → ConnectionStands (if b then option_map (ending cause.ChannelClosed) (connection_at c old.connections) else connection_at c old.connections)
        (end_for (if b then (if termination_emitted old.mux.version c (Got place key ChannelTerminated ∷ mux_of old.mux.version items) then Some cause.ChannelClosed else None) else None) (rpc_of old.mux.version c items))
        (terms_of c items) (consumed c items) (rest_of old.mux.version c items)
    by c true same =
        let now = Got place key ChannelTerminated ∷ mux_of old.mux.version items in
        let emitted = by_peer_emitted old.mux.version c now (ap (λ b. if b then true else is_terminated_by_peer c (mux_of old.mux.version items)) same) in
        rw emitted (ending_stands cause.ChannelClosed (connection_at c old.connections) (rpc_of old.mux.version c items) (terms_of c items) (consumed c items) (rest_of old.mux.version c items) (h.connections c))
    by c false same = h.connections c
