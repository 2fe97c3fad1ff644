-- What an item on one channel adds to an end with connections.
use Rattle.std.specs.Prelude.{ℕ, ◌≤◌, List, [], ◌∷◌, length, false, Option, Some, None}
use Rattle.std.proofs.Common.{◌≡◌, inl, inr, refl, sym, ◌∙◌, subst}
use Rattle.wire_base.specs.declared.frame.Version.{Version}
use Rattle.wire_base.specs.declared.refusal.Refusal.{Refusal}
use Rattle.mux_items.specs.declared.call.Call.{Call}
use Rattle.mux_items.specs.declared.call.Call.TheVariants as call
use Rattle.mux_items.specs.declared.channel.ChannelKey.{ChannelKey}
use Rattle.mux_items.specs.Bodies.{same_key}
use Rattle.mux_items.specs.Calls.{call_refusal, called, item_of_call, unless_refused}
use Rattle.mux_items.specs.Items.{Item}
use Rattle.mux_items.specs.Lists.{taken}
use Rattle.mux_items.specs.Views.{in_order}
use Rattle.mux_items.proofs.Keys.{key_cases}
use Rattle.rpc_end.specs.Stands.{RpcValue}
use Rattle.endpoint_items.specs.Items.{EndItem, terms_of, attached_keys}
use Rattle.endpoint_items.specs.Following.{followed}
use Rattle.endpoint_items.specs.Layers.{mux_of, rpc_of}
use Rattle.endpoint_items.specs.Bytes.{consumed, rest_of}
use Rattle.endpoint_items.specs.Allowed.{IsAllowed}
use Rattle.endpoint.specs.Changes.{Moves}
use Rattle.endpoint.specs.Replies.{Adds}
use Rattle.endpoint.specs.Stands.{Stands, ConnectionStands}
use Rattle.endpoint.specs.Value.{EndpointValue, connection_at}
use Rattle.endpoint.proofs.Adding.{stands_by}
use Rattle.endpoint.proofs.Places.{keys_of}

-- no call takes content

item_taken : (v : Version) (d : ChannelKey) (c : Call) (m : List Item) → taken v d (item_of_call c m ∷ m) ≡ taken v d m
item_taken v d (call.Offer name size) m = refl
item_taken v d (call.Accept c size) m = refl
item_taken v d (call.Write c bytes) m = refl
item_taken v d (call.Read c max) m = refl
item_taken v d (call.Complete c) m = refl
item_taken v d (call.Terminate c) m = refl

called_taken : (v : Version) (d : ChannelKey) (c : Call) (m : List Item) → taken v d (called v c m) ≡ taken v d m
called_taken v d c m = by (call_refusal v c m)
  where
    by : (r : Option Refusal) → taken v d (unless_refused r (item_of_call c m) m) ≡ taken v d m
    by (Some refusal) = refl
    by None = item_taken v d c m

pub followed_taken : (v : Version) (d : ChannelKey) (calls : List Call) (m : List Item) → taken v d (followed v calls m) ≡ taken v d m
followed_taken v d [] m = refl
followed_taken v d (c ∷ calls) m = followed_taken v d calls (called v c m) ∙ called_taken v d c m

-- an item leaves the connection of a channel as it was
pub record IsApart (v : Version) (c : ChannelKey) (item : EndItem) (items : List EndItem) : Type 0 where
  pub rpc : rpc_of v c (item ∷ items) ≡ rpc_of v c items
  pub terms : terms_of c (item ∷ items) ≡ terms_of c items
  pub consumed : consumed c (item ∷ items) ≡ consumed c items
  pub rest : rest_of v c (item ∷ items) ≡ rest_of v c items

module _ (old new : EndpointValue) (items : List EndItem) (at : ℕ) (rest : List ℕ) (item : EndItem) (c : ChannelKey) (now : RpcValue) where
  abbrev v : Version
  v = old.mux.version

  abbrev Connected : ChannelKey → Type 0
  Connected d = ConnectionStands (connection_at d new.connections) (rpc_of v d (item ∷ items)) (terms_of d (item ∷ items)) (consumed d (item ∷ items)) (rest_of v d (item ∷ items))

  others : Stands old items at rest → (d : ChannelKey) → connection_at d new.connections ≡ connection_at d old.connections → IsApart v d item items → Connected d
  others s d same apart =
      subst (λ x. ConnectionStands x (rpc_of v d (item ∷ items)) (terms_of d (item ∷ items)) (consumed d (item ∷ items)) (rest_of v d (item ∷ items))) (sym same)
      (subst (λ x. ConnectionStands (connection_at d old.connections) x (terms_of d (item ∷ items)) (consumed d (item ∷ items)) (rest_of v d (item ∷ items))) (sym apart.rpc)
      (subst (λ t. ConnectionStands (connection_at d old.connections) (rpc_of v d items) t (consumed d (item ∷ items)) (rest_of v d (item ∷ items))) (sym apart.terms)
      (subst (λ n. ConnectionStands (connection_at d old.connections) (rpc_of v d items) (terms_of d items) n (rest_of v d (item ∷ items))) (sym apart.consumed)
      (subst (λ bytes. ConnectionStands (connection_at d old.connections) (rpc_of v d items) (terms_of d items) (consumed d items) bytes) (sym apart.rest) (s.connections d)))))

  here : connection_at c new.connections ≡ Some now → ConnectionStands (Some now) (rpc_of v c (item ∷ items)) (terms_of c (item ∷ items)) (consumed c (item ∷ items)) (rest_of v c (item ∷ items)) → Connected c
  here found stands = subst (λ x. ConnectionStands x (rpc_of v c (item ∷ items)) (terms_of c (item ∷ items)) (consumed c (item ∷ items)) (rest_of v c (item ∷ items))) (sym found) stands

  -- one more item, which changes the connection of c alone
  pub adds_on : Stands old items at rest → Moves old.mux new.mux (mux_of old.mux.version items) (mux_of old.mux.version (item ∷ items)) at rest → new.state ≡ new.mux.state
      → keys_of new.connections ≡ in_order (attached_keys (item ∷ items))
      → connection_at c new.connections ≡ Some now
      → ((d : ChannelKey) → same_key c d ≡ false → connection_at d new.connections ≡ connection_at d old.connections)
      → ConnectionStands (Some now) (rpc_of old.mux.version c (item ∷ items)) (terms_of c (item ∷ items)) (consumed c (item ∷ items)) (rest_of old.mux.version c (item ∷ items))
      → ((d : ChannelKey) → same_key c d ≡ false → IsApart old.mux.version d item items)
      → IsAllowed old.mux.version item items
      → ((d : ChannelKey) → taken old.mux.version d (mux_of old.mux.version (item ∷ items)) ≡ taken old.mux.version d (mux_of old.mux.version items))
      → Adds old new items at rest item
  adds_on s moves state keys found same stands apart allowed took = record {
    stands = stands_by v new (item ∷ items) at rest moves.terms.version (record {
      mux = moves.stands;
      state = state;
      connections = λ d. elim (key_cases c d) [
        | inl is ↦ subst Connected is (here found stands)
        | inr differs ↦ others s d (same d differs) (apart d differs)
      ];
      keys = keys;
      allowed = (allowed, s.allowed);
      taken_within = λ d. subst (λ bytes. length bytes ≤ at) (sym (took d)) (s.taken_within d);
      fed_within = s.fed_within;
    });
    sends = moves.sends;
    terms = moves.terms;
  }
