-- What a connection said is written on its channel.
use Rattle.std.specs.Prelude.{ℕ, zero, suc, ◌<◌, List, [], ◌∷◌, ◌++◌, length, drop, set, get_or, Bool, true, false, if◌then◌else◌, Option, Some, None}
use Rattle.std.proofs.Common.{◌≡◌, refl, sym, ◌∙◌, ap, subst, arith, length-append}
use Rattle.std.proofs.lemmas.List.{drop_all, set-get_or}
use Rattle.std.proofs.lemmas.Option.{get_or_from_slice_get}
use Rattle.wire_base.specs.declared.frame.Version.{Version}
use Rattle.wire_base.specs.declared.refusal.Refusal.{Refusal}
use Rattle.wire_base.specs.declared.state.EndState.TheVariants as state
use Rattle.message_body.specs.Written.{body_text}
use Rattle.message_framing.specs.declared.framing.Framing.{Framing}
use Rattle.message_framing.specs.declared.framing.Framing.TheVariants as framing
use Rattle.message_framing.specs.Wrapped.{head_text}
use Rattle.mux_items.specs.declared.call.Call.TheVariants as call
use Rattle.mux_items.specs.declared.channel.ChannelKey.{ChannelKey}
use Rattle.mux_items.specs.Calls.{call_refusal, called, item_of_call, unless_refused}
use Rattle.mux_items.specs.Items.{Item}
use Rattle.mux_items.specs.Lists.{has_completed}
use Rattle.mux_items.proofs.Permits.{write_permits}
use Rattle.mux_end.specs.Stands.{EndValue, MuxStands}
use Rattle.mux_end.proofs.Answering.{never_stopped}
use Rattle.rpc_items.specs.declared.messages.Message.{Message}
use Rattle.rpc_end.specs.Ends.{with_output}
use Rattle.rpc_end.specs.Stands.{RpcValue}
use Rattle.rpc_end.specs.Texts.{message_text, message_texts}
use Rattle.rpc_end.specs.declared.terms.Terms.{Terms}
use Rattle.endpoint_items.specs.Following.{followed, write_said}
use Rattle.endpoint.specs.declared.attached.Attached.{Attached}
use Rattle.endpoint.specs.Changes.{Moves}
use Rattle.endpoint.specs.Sending.{IsAt, SendsAt}
use Rattle.endpoint.specs.Value.{AreOfOne, EndpointValue, value_in}
use Rattle.endpoint.proofs.Growing.{sends_none}
use Rattle.endpoint.proofs.Places.{at_index, one_by_keys}

-- each text has a byte

head_has : (f : Framing) (n : ℕ) → 0 < length (head_text f n)
unfolding head_text
head_has framing.Header n = omega arith
head_has framing.Length n = omega arith

text_has : (terms : Terms) (message : Message) (more : List ℕ) → message_text terms message ++ more ≡ [] → ⊥
text_has terms message more e =
    let body = body_text terms.encoding message in
    let empty : length (message_text terms message ++ more) ≡ 0 = ap length e in
    omega (arith, head_has terms.framing (length body), length-append (head_text terms.framing (length body)) body, length-append (message_text terms message) more, empty)

pub said_nothing : (terms : Terms) (messages : List Message) → message_texts terms messages ≡ [] → messages ≡ []
said_nothing terms [] e = refl
said_nothing terms (message ∷ messages) e = absurd (text_has terms message (message_texts terms messages) e)

-- nothing is written where writing was completed

completed_stays : (v : Version) (c : ChannelKey) (bytes : List ℕ) (m : List Item) → has_completed c m ≡ true → called v (call.Write c bytes) m ≡ m
completed_stays v c bytes m e = by (call_refusal v (call.Write c bytes) m) refl
  where
    by : (r : Option Refusal) → call_refusal v (call.Write c bytes) m ≡ r → unless_refused r (item_of_call (call.Write c bytes) m) m ≡ m
    by (Some refusal) h = refl
    by None h = absurd (let open_still = (write_permits v c bytes m h).uncompleted in cc)

-- so that a write of what was said is what follows
pub said_followed : (v : Version) (c : ChannelKey) (terms : Terms) (messages : List Message) (m : List Item) → (messages ≡ [] → ⊥) → followed v (write_said c terms messages m) m ≡ called v (call.Write c (message_texts terms messages)) m
said_followed v c terms [] m some = absurd (some refl)
said_followed v c terms (message ∷ messages) m some = by (has_completed c m) refl
  where
    texts : List ℕ
    texts = message_texts terms (message ∷ messages)

    by : (b : Bool) → has_completed c m ≡ b → followed v (if b then [] else call.Write c texts ∷ []) m ≡ called v (call.Write c texts) m
    by true e = sym (completed_stays v c texts m e)
    by false e = refl

-- an end that does nothing stands for the same items
pub stays : (end : EndValue) (m : List Item) (at : ℕ) (rest : List ℕ) → MuxStands end m at rest → Moves end end m m at rest
stays end m at rest s = record {
  stands = s;
  sends = sends_none end.version m end.output;
  terms = record { version = refl; nonce = refl };
}

-- an attached connection at its place

pub at_set : (xs : List Attached) (i : ℕ) (x y : Attached) → IsAt xs i x → IsAt (set xs i y) i y
at_set [] i x y e = absurd (cc e)
at_set (z ∷ zs) zero x y e = refl
at_set (z ∷ zs) (suc i) x y e = at_set zs i x y e

pub same_set : (xs : List Attached) (i : ℕ) (x : Attached) → IsAt xs i x → set xs i x ≡ xs
same_set xs i x e = ap (set xs i) (sym (get_or_from_slice_get xs i x x e)) ∙ set-get_or xs i x

-- a connection that changes keeps its place
pub one_set : (xs : List Attached) (i : ℕ) (x y : Attached) → i < length xs → x ≡ get_or xs i x → y.key ≡ x.key → AreOfOne xs → AreOfOne (set xs i y)
one_set xs i x y within is key one = one_by_keys xs (set xs i y) (sym ((at_index xs i x within is one).keys y key)) one

-- the same by the place in the end as it was seen outside
pub one_changed : (mux : EndValue) (xs : List Attached) (stopped : Bool) (old : EndpointValue) (place : ℕ) (x : Attached) (end : RpcValue) → value_in mux xs stopped ≡ old → place < length old.connections
    → x ≡ get_or xs place x → AreOfOne xs → AreOfOne (set xs place (record x { end = end }))
one_changed mux xs stopped old place x end view within is one =
    one_set xs place x (record x { end = end }) (subst (λ (e : EndpointValue). place < length e.connections) (sym view) within) is refl one

-- want of memory hasn't stopped an end whose state is that of a multiplexing end which stands for items
pub unstopped : (stopped : Bool) (mux : EndValue) (items : List Item) (at : ℕ) (rest : List ℕ) → MuxStands mux items at rest → (if stopped then state.Stopped else mux.state) ≡ mux.state → stopped ≡ false
unstopped true mux items at rest s e = absurd (never_stopped mux items at rest s (sym e))
unstopped false mux items at rest s e = refl

still_running : (stopped : Bool) (mux : EndValue) → stopped ≡ false → (if stopped then state.Stopped else mux.state) ≡ mux.state
still_running true mux e = absurd (cc e)
still_running false mux e = refl

-- what is read at a place is the connection there
pub read_at : (xs : List Attached) (place : ℕ) (x attached : Attached) → place < length xs → x ≡ get_or xs place x → IsAt xs place attached → x ≡ attached
read_at xs place x attached within is at = is ∙ get_or_from_slice_get xs place attached x at

emptied : (end : RpcValue) → end.output ≡ [] → end ≡ with_output [] end
emptied end e = ap (λ bytes. with_output bytes end) e

pub empty : (read output : List ℕ) → read ≡ output → length read ≡ 0 → output ≡ []
empty [] output e none = sym e
empty (byte ∷ bytes) output e none = absurd (cc none)

pub took_all : (end : RpcValue) (read : List ℕ) (now : RpcValue) → read ≡ end.output → now ≡ with_output (drop (length read) end.output) end → now ≡ with_output [] end
took_all end read now e took = took ∙ ap (λ bytes. with_output bytes end) (drop_all (length read) end.output (omega (arith, ap length e)))

-- a connection that said nothing
pub sends_nothing : (mux : EndValue) (xs : List Attached) (stopped : Bool) (place : ℕ) (x : Attached) → place < length xs → x ≡ get_or xs place x → x.end.output ≡ [] → SendsAt (value_in mux xs stopped) (value_in mux (set xs place x) stopped) place
sends_nothing mux xs stopped place x within is none = λ items at rest attached terms messages s running here said.
    let same = read_at xs place x attached within is here in
    let quiet : attached.end.output ≡ [] = ap (λ (a : Attached). a.end.output) (sym same) ∙ none in
    let nothing = said_nothing terms messages (sym said ∙ quiet) in
    record {
      moves = subst (λ (ms : List Message). Moves mux mux items (followed mux.version (write_said attached.key terms ms items) items) at rest) (sym nothing) (stays mux items at rest s);
      connections = ap (set xs place) same ∙ ap (λ (e : RpcValue). set xs place (record attached { end = e })) (emptied attached.end quiet);
      state = running;
    }

-- one whose output was written
pub sends_all : (mux now : EndValue) (xs : List Attached) (stopped : Bool) (place : ℕ) (x : Attached) (end : RpcValue) → place < length xs → x ≡ get_or xs place x → (x.end.output ≡ [] → ⊥)
    → ((items : List Item) (at : ℕ) (rest : List ℕ) → MuxStands mux items at rest → Moves mux now items (called mux.version (call.Write x.key x.end.output) items) at rest)
    → end ≡ with_output [] x.end → SendsAt (value_in mux xs stopped) (value_in now (set xs place (record x { end = end })) stopped) place
sends_all mux now xs stopped place x end within is some moves took = λ items at rest attached terms messages s running here said.
    let same = read_at xs place x attached within is here in
    let v = mux.version in
    let speaks : messages ≡ [] → ⊥ = λ none. some (ap (λ (a : Attached). a.end.output) same ∙ (said ∙ ap (message_texts terms) none)) in
    let written : called v (call.Write x.key x.end.output) items ≡ called v (call.Write attached.key (message_texts terms messages)) items =
    ap (λ (a : Attached). called v (call.Write a.key a.end.output) items) same ∙ ap (λ bytes. called v (call.Write attached.key bytes) items) said in
    record {
      moves = subst (λ after. Moves mux now items after at rest) (written ∙ sym (said_followed v attached.key terms messages items speaks)) (moves items at rest s);
      connections = ap (λ (e : RpcValue). set xs place (record x { end = e })) took ∙ ap (λ (a : Attached). set xs place (record a { end = with_output [] a.end })) same;
      state = still_running stopped now (unstopped stopped mux items at rest s running);
    }
