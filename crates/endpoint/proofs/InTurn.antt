-- What connections make of an end, one after the other.
use Rattle.std.specs.Prelude.{zero, suc, ◌+◌, ◌<◌, if◌then◌else◌, not, Bool, true, false, drop, get_or, Option, Some, None}
use Rattle.std.proofs.Common.{◌≡◌, ℕ, List, [], ◌∷◌, length, add-one, refl, sym, ◌∙◌, ap, subst, arith}
use Rattle.wire_base.specs.declared.frame.Version.{Version}
use Rattle.wire_base.specs.declared.state.Cause.TheVariants as cause
use Rattle.mux_items.specs.declared.channel.ChannelKey.{ChannelKey}
use Rattle.mux_items.specs.Items.{End, ended}
use Rattle.mux_items.specs.Views.{in_order}
use Rattle.mux_end.specs.Replies as mux
use Rattle.mux_end.specs.Stands.{EndValue}
use Rattle.endpoint_items.specs.Arriving.{arrival_on, either, first_message, item_of_arrival, lacks_room, message_on, next_message}
use Rattle.endpoint_items.specs.Bytes.{consumed, rest_of}
use Rattle.endpoint_items.specs.Connections.{is_attached}
use Rattle.endpoint_items.specs.Items.{EndItem, Mux, attached_keys, terms_of}
use Rattle.endpoint_items.specs.Layers.{mux_of, rpc_of}
use Rattle.endpoint.specs.declared.attached.Attached.{Attached}
use Rattle.endpoint.specs.declared.step.EndStep.{EndStep}
use Rattle.endpoint.specs.declared.step.EndStep.TheVariants as step
use Rattle.endpoint.specs.Changes.{each_ended}
use Rattle.endpoint.specs.Replies.{Adds}
use Rattle.endpoint.specs.Sending as sending
use Rattle.endpoint.specs.Stands.{ConnectionStands, Stands}
use Rattle.endpoint.specs.Steps.{FromConnections}
use Rattle.endpoint.specs.Value.{AreOfOne, EndpointValue, connection_at, value_in}
use Rattle.endpoint.proofs.Adding.{ends_all}
use Rattle.endpoint.proofs.Applying.{starves}
use Rattle.endpoint.proofs.Places.{at_index, keys_of}
use Rattle.endpoint.proofs.Running.{running_state}
use Rattle.endpoint.proofs.Sending.{read_at, unstopped}

-- what a channel makes

pub message_none : (v : Version) (c : ChannelKey) (items : List EndItem) → is_attached (rpc_of v c items) ≡ false → message_on v c items ≡ None
message_none v c items e = ap (λ b. if not b then None else if lacks_room v c items then Some (Mux (End cause.Spent)) else item_of_arrival c (arrival_on v c items)) e

pub message_spent : (v : Version) (c : ChannelKey) (items : List EndItem) → is_attached (rpc_of v c items) ≡ true → lacks_room v c items ≡ true → message_on v c items ≡ Some (Mux (End cause.Spent))
message_spent v c items e lacks =
    ap (λ b. if not b then None else if lacks_room v c items then Some (Mux (End cause.Spent)) else item_of_arrival c (arrival_on v c items)) e
    ∙ ap (λ b. if b then Some (Mux (End cause.Spent)) else item_of_arrival c (arrival_on v c items)) lacks

pub message_came : (v : Version) (c : ChannelKey) (items : List EndItem) → is_attached (rpc_of v c items) ≡ true → lacks_room v c items ≡ false → message_on v c items ≡ item_of_arrival c (arrival_on v c items)
message_came v c items e lacks =
    ap (λ b. if not b then None else if lacks_room v c items then Some (Mux (End cause.Spent)) else item_of_arrival c (arrival_on v c items)) e
    ∙ ap (λ b. if b then Some (Mux (End cause.Spent)) else item_of_arrival c (arrival_on v c items)) lacks

-- the connection at a place stands for its channel
pub place_stands : (now : EndpointValue) (xs : List Attached) (place : ℕ) (x attached : Attached) (items : List EndItem) (at : ℕ) (rest : List ℕ) → xs ≡ now.connections → AreOfOne xs → x ≡ get_or xs place x → place < length now.connections
    → sending.IsAt now.connections place attached → Stands now items at rest
    → (x ≡ attached) × ConnectionStands (Some x.end) (rpc_of now.mux.version x.key items) (terms_of x.key items) (consumed x.key items) (rest_of now.mux.version x.key items)
place_stands now xs place x attached items at rest same one is within here s =
    let inside : place < length xs = omega (arith, within, ap length same) in
    let found : connection_at x.key now.connections ≡ Some x.end = ap (connection_at x.key) (sym same) ∙ (at_index xs place x inside is one).found in (
      read_at xs place x attached inside is (subst (λ ys. sending.IsAt ys place attached) (sym same) here),
      subst (λ o. ConnectionStands o (rpc_of now.mux.version x.key items) (terms_of x.key items) (consumed x.key items) (rest_of now.mux.version x.key items)) found (s.connections x.key),
    )

-- the end is spent, and all connections end
pub spends : (m now : EndValue) (xs : List Attached) (stopped : Bool) (items : List EndItem) (at : ℕ) (rest : List ℕ) → Stands (value_in m xs stopped) items at rest → ended (mux_of m.version items) ≡ None
    → mux.EndsBy m now (mux_of m.version items) at rest cause.Spent (ended (mux_of m.version items)) → Adds (value_in m xs stopped) (value_in now (each_ended cause.Spent xs) stopped) items at rest (Mux (End cause.Spent))
spends m now xs stopped items at rest s runs h =
    let before = mux_of m.version items in
    let adds : mux.Adds m now before at rest (End cause.Spent) = subst (λ o. mux.EndsBy m now before at rest cause.Spent o) runs h in
    ends_all (value_in m xs stopped) (value_in now (each_ended cause.Spent xs) stopped) items at rest cause.Spent s adds refl (running_state stopped now (unstopped stopped m before at rest s.mux s.state))

-- the first channel that makes something answers for all

pub record IsNext (xs : List Attached) (place : ℕ) : Type 0 where
  pub attached : Attached
  pub here : sending.IsAt xs place attached
  pub keys : drop place (keys_of xs) ≡ attached.key ∷ drop (suc place) (keys_of xs)

pub next_at : (xs : List Attached) (place : ℕ) → place < length xs → IsNext xs place
next_at [] place within = absurd (omega arith)
next_at (x ∷ xs) zero within = record { attached = x; here = refl; keys = refl }
next_at (x ∷ xs) (suc place) within =
    let later = next_at xs place (omega arith) in
    record { attached = later.attached; here = later.here; keys = later.keys }

pub first_answers : (old new : EndpointValue) (items : List EndItem) (at : ℕ) (rest : List ℕ) (found later : Option EndItem) (reply : EndStep) → FromConnections old new items at rest found (Some reply) → FromConnections old new items at rest (either found later) (Some reply)
first_answers old new items at rest (Some item) later reply h = h
first_answers old new items at rest None later step.OutOfMemory h = starves old new items at rest later h
first_answers old new items at rest None later step.Short h = absurd h
first_answers old new items at rest None later step.Stopped h = absurd h
first_answers old new items at rest None later (step.Ended why) h = absurd h
first_answers old new items at rest None later (step.Event e) h = absurd h

pub none_made : (old new : EndpointValue) (items : List EndItem) (at : ℕ) (rest : List ℕ) (found : Option EndItem) → FromConnections old new items at rest found None → (found ≡ None) × (new ≡ old)
none_made old new items at rest None h = (refl, h)
none_made old new items at rest (Some item) h = absurd h

module _ (loop now new : EndpointValue) (items : List EndItem) (at : ℕ) (rest : List ℕ) (place : ℕ) (same : loop ≡ now) (s : Stands now items at rest)
    (left : next_message now.mux.version items ≡ first_message now.mux.version items (drop place (in_order (attached_keys items)))) (within : place < length loop.connections) where
  abbrev Answers : EndpointValue → Option EndStep → Type 0
  Answers e reply = (a : Attached) → sending.IsAt e.connections place a → Stands e items at rest → FromConnections e new items at rest (message_on e.mux.version a.key items) reply

  turn_is : (n : IsNext now.connections place) → next_message now.mux.version items ≡ either (message_on now.mux.version n.attached.key items) (first_message now.mux.version items (drop (suc place) (in_order (attached_keys items))))
  turn_is n = left ∙ ap (first_message now.mux.version items) (ap (drop place) (sym s.keys) ∙ (n.keys ∙ ap (λ ks. n.attached.key ∷ drop (suc place) ks) s.keys))

  pub turn_answers : (reply : EndStep) → Answers loop (Some reply) → FromConnections now new items at rest (next_message now.mux.version items) (Some reply)
  turn_answers reply answers =
      subst (λ (e : EndpointValue). place < length e.connections → Answers e (Some reply) → FromConnections now new items at rest (next_message now.mux.version items) (Some reply)) (sym same)
      (λ within answers.
      let n = next_at now.connections place within in
      let v = now.mux.version in
      subst (λ o. FromConnections now new items at rest o (Some reply)) (sym (turn_is n))
      (first_answers now new items at rest (message_on v n.attached.key items) (first_message v items (drop (suc place) (in_order (attached_keys items)))) reply (answers n.attached n.here s)))
      within answers

  pub turn_passes : Answers loop None → (new ≡ now) × (next_message now.mux.version items ≡ first_message now.mux.version items (drop (place + 1) (in_order (attached_keys items))))
  turn_passes answers =
      subst (λ (e : EndpointValue). place < length e.connections → Answers e None → (new ≡ now) × (next_message now.mux.version items ≡ first_message now.mux.version items (drop (place + 1) (in_order (attached_keys items))))) (sym same)
      (λ within answers.
      let n = next_at now.connections place within in
      let v = now.mux.version in
      let none = none_made now new items at rest (message_on v n.attached.key items) (answers n.attached n.here s) in
      rw add-one (none.1, turn_is n ∙ ap (λ o. either o (first_message v items (drop (suc place) (in_order (attached_keys items))))) none.0))
      within answers
