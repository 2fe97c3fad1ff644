-- What an item of the multiplexing end adds to an end with connections, where nothing follows it.
use Rattle.std.specs.Prelude.{ℕ, ◌+◌, ◌≤◌, List, [], ◌∷◌, ◌++◌, drop, length, Bool, true, false, is_none, if◌then◌else◌, option_map, Option, Some, None}
use Rattle.std.proofs.Common.{◌≡◌, refl, sym, ◌∙◌, ap, subst}
use Rattle.std.proofs.lemmas.List.{append-nil}
use Rattle.call_table.specs.Table.{over}
use Rattle.call_table.proofs.After.{lost_after}
use Rattle.enumerables.proofs.After.{ended_after, over_after}
use Rattle.enumerables.specs.Producer.{all_ended}
use Rattle.marshalled_handles.specs.Holder as holders
use Rattle.marshalled_handles.specs.Owner as owners
use Rattle.marshalled_handles.proofs.After.{own_ended_after, peer_ended_after}
use Rattle.rpc_items.specs.declared.calls.Outcome.TheVariants.{Lost}
use Rattle.rpc_items.specs.Items as rpc
use Rattle.rpc_items.specs.Saying.{all_said}
use Rattle.message_body.specs.AsRead.{AreMessages}
use Rattle.wire_base.specs.declared.frame.Version.{Version}
use Rattle.wire_base.specs.declared.state.Cause.{Cause}
use Rattle.wire_base.specs.declared.state.EndState.{EndState}
use Rattle.wire_base.specs.declared.state.EndState.TheVariants as state
use Rattle.wire_base.specs.States.{state_by}
use Rattle.mux_items.specs.declared.channel.ChannelKey.{ChannelKey}
use Rattle.mux_items.specs.Applying.{Allowed}
use Rattle.mux_items.specs.Bodies.{same_key}
use Rattle.mux_items.specs.Due.{due}
use Rattle.mux_items.specs.Items.{Item, End}
use Rattle.mux_items.specs.Limits.{most_bytes}
use Rattle.mux_items.specs.Lists.{taken, unread}
use Rattle.mux_items.specs.Views.{in_order}
use Rattle.mux_end.specs.Replies as mux
use Rattle.mux_end.specs.Stands.{MuxStands}
use Rattle.rpc_end.specs.declared.terms.Terms.{Terms}
use Rattle.rpc_end.specs.Ends.{if_running, with_end}
use Rattle.rpc_end.specs.Stands.{RpcValue}
use Rattle.endpoint_items.specs.Items.{EndItem, Mux, terms_of, attached_keys}
use Rattle.endpoint_items.specs.Connections.{Connection, is_attached, end_for, end_by}
use Rattle.endpoint_items.specs.Following.{followed, follow_ups}
use Rattle.endpoint_items.specs.Layers.{mux_of, rpc_of}
use Rattle.endpoint_items.specs.Bytes.{consumed, is_read_on, joined, rest_of}
use Rattle.endpoint_items.specs.Allowed.{AreAllowed}
use Rattle.endpoint_items.proofs.Usable.{running_none}
use Rattle.endpoint.specs.declared.attached.Attached.{Attached}
use Rattle.endpoint.specs.Changes.{each_ended, ended_at}
use Rattle.endpoint.specs.Replies.{Adds, Sends}
use Rattle.endpoint.specs.Stands.{ConnectionStands, IsConnection, Stands}
use Rattle.endpoint.specs.Value.{EndpointValue, connection_at}
use Rattle.endpoint.proofs.Places.{each_found, each_keys, ended_found, ending, keys_of}

-- the end of a connection

module _ (cause : Cause) (terms : Terms) (items : List rpc.RpcItem) (at : ℕ) (rest : List ℕ) (end : RpcValue) (c : IsConnection terms items at rest end) where
  running_ends : rpc.is_running items ≡ true → IsConnection terms (rpc.End cause ∷ items) at rest (ending cause end)
  running_ends running =
      let state_is : end.state ≡ state.Running = c.stands.state ∙ ap state_by (running_none (rpc.ended items) running) in
      subst (λ (s : EndState). IsConnection terms (rpc.End cause ∷ items) at rest (if_running s (with_end cause end) end)) (sym state_is) (record {
        stands = record {
          table = lost_after end.table (over Lost end.table) items cause refl c.stands.table;
          producer = ended_after cause end.producer (all_ended end.producer) items refl c.stands.producer;
          consumer = over_after cause end.consumer [] items refl c.stands.consumer;
          owner = own_ended_after cause end.owner (owners.all_ended end.owner) items refl c.stands.owner;
          holder = peer_ended_after cause end.holder (holders.all_ended end.holder) items refl c.stands.holder;
          at_is = c.stands.at_is;
          rest_is = c.stands.rest_is;
          state = refl;
          allowed = (running, c.stands.allowed);
          said = subst AreMessages (sym (append-nil (all_said items))) c.stands.said;
          named = c.stands.named;
        };
        terms_are = c.terms_are;
        written = c.written;
      })

  stays_by : (why : Option Cause) → is_none why ≡ false → end.state ≡ state_by why → IsConnection terms items at rest (ending cause end)
  stays_by None over is = absurd (cc)
  stays_by (Some why) over is = subst (λ (s : EndState). IsConnection terms items at rest (if_running s (with_end cause end) end)) (sym is) c

  ends_or_stays : (running : Bool) → rpc.is_running items ≡ running → ConnectionStands (Some (ending cause end)) (if running then Some (rpc.End cause ∷ items) else Some items) terms at rest
  ends_or_stays true e = running_ends e
  ends_or_stays false e = stays_by (rpc.ended items) e c.stands.state

pub ending_stands : (cause : Cause) (found : Option RpcValue) (connection : Connection) (terms : Terms) (at : ℕ) (rest : List ℕ) → ConnectionStands found connection terms at rest
    → ConnectionStands (option_map (ending cause) found) (end_for (Some cause) connection) terms at rest
ending_stands cause None None terms at rest c = tt
ending_stands cause None (Some items) terms at rest c = absurd c
ending_stands cause (Some end) None terms at rest c = absurd c
ending_stands cause (Some end) (Some items) terms at rest c = ends_or_stays cause terms items at rest end c (rpc.is_running items) refl

-- an end stands for items in this version

pub record StandsIn (v : Version) (end : EndpointValue) (items : List EndItem) (at : ℕ) (rest : List ℕ) : Type 0 where
  pub mux : MuxStands end.mux (mux_of v items) at rest
  pub state : end.state ≡ end.mux.state
  pub connections : (c : ChannelKey) → ConnectionStands (connection_at c end.connections) (rpc_of v c items) (terms_of c items) (consumed c items) (rest_of v c items)
  pub keys : keys_of end.connections ≡ in_order (attached_keys items)
  pub allowed : AreAllowed v items
  pub taken_within : (c : ChannelKey) → length (taken v c (mux_of v items)) ≤ at
  pub fed_within : at + length rest ≤ most_bytes

pub stands_by : (v : Version) (end : EndpointValue) (items : List EndItem) (at : ℕ) (rest : List ℕ) → end.mux.version ≡ v → StandsIn v end items at rest → Stands end items at rest
stands_by v end items at rest same s =
    subst (λ (w : Version). StandsIn w end items at rest → Stands end items at rest) same
    (λ h. record { mux = h.mux; state = h.state; connections = h.connections; keys = h.keys; allowed = h.allowed; taken_within = h.taken_within; fed_within = h.fed_within }) s

-- one more item of the multiplexing end

module _ (old new : EndpointValue) (items : List EndItem) (at at' : ℕ) (rest rest' : List ℕ) (item : Item) (s : Stands old items at rest) where
  -- each connection stands after the item
  abbrev pub StandAfter : Type 0
  StandAfter = (c : ChannelKey) → ConnectionStands (connection_at c new.connections) (rpc_of old.mux.version c (Mux item ∷ items)) (terms_of c items) (consumed c items) (rest_of old.mux.version c (Mux item ∷ items))

  pub adds_mux : mux.Adds old.mux new.mux (mux_of old.mux.version items) at' rest' item
      → follow_ups old.mux.version (λ c. is_attached (rpc_of old.mux.version c items)) item (item ∷ mux_of old.mux.version items) ≡ []
      → AreAllowed old.mux.version (Mux item ∷ items) → new.state ≡ new.mux.state → keys_of new.connections ≡ keys_of old.connections → StandAfter
      → ((c : ChannelKey) → length (taken old.mux.version c (item ∷ mux_of old.mux.version items)) ≤ at') → at' + length rest' ≤ most_bytes → Adds old new items at' rest' (Mux item)
  adds_mux add alone allowed state_is keys after within fed =
      let v = old.mux.version in
      let m = mux_of v items in
      let is : mux_of v (Mux item ∷ items) ≡ item ∷ m = ap (λ calls. followed v calls (item ∷ m)) alone in
      record {
        stands = stands_by v new (Mux item ∷ items) at' rest' add.terms.version (record {
          mux = subst (λ (l : List Item). MuxStands new.mux l at' rest') (sym is) add.stands;
          state = state_is;
          connections = after;
          keys = keys ∙ s.keys;
          allowed = allowed;
          taken_within = λ c. subst (λ (l : List Item). length (taken v c l) ≤ at') (sym is) (within c);
          fed_within = fed;
        });
        sends = subst (λ (l : List Item). Sends v m l old.mux.output new.mux.output) (sym is) (record { frames = due v item m; sent_are = refl; output = add.output });
        terms = add.terms;
      }

  -- no byte of such an item is read
  same_rest : (c : ChannelKey) → is_read_on c (is_attached (rpc_of old.mux.version c items)) item ≡ false → rest_of old.mux.version c items ≡ rest_of old.mux.version c (Mux item ∷ items)
  same_rest c unread_is =
      let v = old.mux.version in
      ap (λ b. drop (consumed c items) (if b then joined v c items ++ unread v c (item ∷ mux_of v items) else joined v c items)) (sym unread_is)

  by_end : (why : ChannelKey → Option Cause) → ((c : ChannelKey) → end_by old.mux.version c item (item ∷ mux_of old.mux.version items) ≡ why c) → ((c : ChannelKey) → is_read_on c (is_attached (rpc_of old.mux.version c items)) item ≡ false)
      → ((c : ChannelKey) → ConnectionStands (connection_at c new.connections) (end_for (why c) (rpc_of old.mux.version c items)) (terms_of c items) (consumed c items) (rest_of old.mux.version c items)) → StandAfter
  by_end why ends_for reads ended_so = λ c.
      subst (λ bytes. ConnectionStands (connection_at c new.connections) (rpc_of old.mux.version c (Mux item ∷ items)) (terms_of c items) (consumed c items) bytes) (same_rest c (reads c))
      (subst (λ (o : Option Cause). ConnectionStands (connection_at c new.connections) (end_for o (rpc_of old.mux.version c items)) (terms_of c items) (consumed c items) (rest_of old.mux.version c items)) (sym (ends_for c)) (ended_so c))

  -- an item that ends no connection
  pub none_ends : ((c : ChannelKey) → end_by old.mux.version c item (item ∷ mux_of old.mux.version items) ≡ None) → ((c : ChannelKey) → is_read_on c (is_attached (rpc_of old.mux.version c items)) item ≡ false)
      → new.connections ≡ old.connections → StandAfter
  none_ends ends_for reads same = by_end (λ _. None) ends_for reads (λ c.
      subst (λ (xs : List Attached). ConnectionStands (connection_at c xs) (rpc_of old.mux.version c items) (terms_of c items) (consumed c items) (rest_of old.mux.version c items)) (sym same) (s.connections c))

  -- one that ends the connection of a channel
  pub one_ends : (key : ChannelKey) (cause : Cause) → ((c : ChannelKey) → end_by old.mux.version c item (item ∷ mux_of old.mux.version items) ≡ (if same_key key c then Some cause else None))
      → ((c : ChannelKey) → is_read_on c (is_attached (rpc_of old.mux.version c items)) item ≡ false) → new.connections ≡ ended_at key cause old.connections → StandAfter
  one_ends key cause ends_for reads is = by_end (λ c. if same_key key c then Some cause else None) ends_for reads (λ c.
      subst (λ (o : Option RpcValue). ConnectionStands o (end_for (if same_key key c then Some cause else None) (rpc_of old.mux.version c items)) (terms_of c items) (consumed c items) (rest_of old.mux.version c items))
      (sym (ap (connection_at c) is ∙ ended_found key c cause old.connections)) (by_test c (same_key key c)))
    where
      by_test : (c : ChannelKey) (same : Bool) → ConnectionStands (if same then option_map (ending cause) (connection_at c old.connections) else connection_at c old.connections)
          (end_for (if same then Some cause else None) (rpc_of old.mux.version c items)) (terms_of c items) (consumed c items) (rest_of old.mux.version c items)
      by_test c true = ending_stands cause (connection_at c old.connections) (rpc_of old.mux.version c items) (terms_of c items) (consumed c items) (rest_of old.mux.version c items) (s.connections c)
      by_test c false = s.connections c

  -- one that ends all
  pub all_end : (cause : Cause) → ((c : ChannelKey) → end_by old.mux.version c item (item ∷ mux_of old.mux.version items) ≡ Some cause)
      → ((c : ChannelKey) → is_read_on c (is_attached (rpc_of old.mux.version c items)) item ≡ false) → new.connections ≡ each_ended cause old.connections → StandAfter
  all_end cause ends_for reads is = by_end (λ _. Some cause) ends_for reads (λ c.
      subst (λ (o : Option RpcValue). ConnectionStands o (end_for (Some cause) (rpc_of old.mux.version c items)) (terms_of c items) (consumed c items) (rest_of old.mux.version c items))
      (sym (ap (connection_at c) is ∙ each_found (ending cause) c old.connections))
      (ending_stands cause (connection_at c old.connections) (rpc_of old.mux.version c items) (terms_of c items) (consumed c items) (rest_of old.mux.version c items) (s.connections c)))

-- the end of an end, and of all its connections
pub ends_all : (old new : EndpointValue) (items : List EndItem) (at : ℕ) (rest : List ℕ) (cause : Cause) → Stands old items at rest → mux.Adds old.mux new.mux (mux_of old.mux.version items) at rest (End cause)
    → new.connections ≡ each_ended cause old.connections → new.state ≡ new.mux.state → Adds old new items at rest (Mux (End cause))
ends_all old new items at rest cause s add is state_is =
    adds_mux old new items at at rest rest (End cause) s add refl
    ((subst (λ (w : Version). Allowed w (End cause ∷ mux_of old.mux.version items)) add.terms.version add.stands.allowed, refl), s.allowed) state_is (ap keys_of is ∙ each_keys (ending cause) old.connections)
    (all_end old new items at at rest rest (End cause) s cause (λ c. refl) (λ c. refl) is) s.taken_within s.fed_within
