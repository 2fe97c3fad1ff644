-- Each side takes the first of the messages that the other says, and answers each of its requests once at most.
use Rattle.std.proofs.Common.{◌≡◌, ℕ, ◌+◌, ◌≤◌, List, [], ◌∷◌, ◌++◌, take, drop, map, refl, sym, ◌∙◌, ap, ap₂, subst, arith, append_assoc}
use Rattle.std.proofs.lemmas.List.{map-append, take-append-drop}
use Rattle.std.specs.Prelude.{if◌then◌else◌}
use Rattle.wire_base.specs.declared.frame.Version.{Version}
use Rattle.wire_base.specs.declared.text.Id.{Id}
use Rattle.message_body.specs.declared.encoding.Encoding.{Encoding}
use Rattle.message_body.specs.declared.encoding.Encoding.TheVariants.{Json, Pack}
use Rattle.message_body.specs.AsRead.{as_read, AreMessages}
use Rattle.message_body.specs.Written.{encoder}
use Rattle.mux_items.specs.declared.channel.ChannelKey.{ChannelKey}
use Rattle.mux_items.specs.Bodies.{other_key}
use Rattle.mux_items.specs.Lists.{written, emitted, taken, handed, read_bytes}
use Rattle.mux_run.specs.Run.{Terms}
use Rattle.mux_run.specs.Safe.{IsPrefixOf, HasPrefixProperty}
use Rattle.rpc_items.specs.declared.messages.Message.{Message}
use Rattle.rpc_items.specs.declared.messages.Message.TheVariants.{Request, Notification}
use Rattle.rpc_items.specs.declared.messages.Message.TheVariants as message
use Rattle.rpc_items.specs.Answered.{requests, responses}
use Rattle.rpc_items.specs.Ids.{same_id}
use Rattle.rpc_items.specs.Items.{RpcItem}
use Rattle.rpc_items.specs.Produced.{produced_at}
use Rattle.rpc_items.specs.Producing.{answered_values}
use Rattle.rpc_items.specs.Fitting.{AreWritable, IsFrontOf}
use Rattle.rpc_items.proofs.Answering.{requests-append}
use Rattle.rpc_end.specs.declared.terms.Terms as connection
use Rattle.rpc_end.specs.Texts.{message_texts}
use Rattle.endpoint_items.specs.Items.{EndItem, terms_of}
use Rattle.endpoint_items.specs.Allowed.{AreAllowed}
use Rattle.endpoint_items.specs.Bytes.{joined}
use Rattle.endpoint_items.specs.Connections.{items_of}
use Rattle.endpoint_items.specs.Exchange.{said_on, got_on}
use Rattle.endpoint_items.specs.Layers.{mux_of, rpc_of}
use Rattle.endpoint_items.proofs.Exchange.{takes_first}
use Rattle.endpoint_items.proofs.Joining.{reads}
use Rattle.endpoint_items.proofs.Sound.{answered_once}
use Rattle.endpoint_items.proofs.Speaking.{spoken}
use Rattle.endpoint_items.proofs.Taken.{SaidFirst, front_of_later, said_first}
use Rattle.endpoint_items.proofs.Writable.{said_writable}
use Rattle.endpoint_run.specs.Run.{EndStep, end_run}
use Rattle.endpoint_run.specs.Moments.{Moment, at_moment}
use Rattle.endpoint_run.specs.Exchange.{IsShared, TakesFront, TakesInOrder, AnswersOnce, AnswersEachOnce, TakesPages, TakesPagesInOrder, IsExchangeIn, IsExchangeRun, SaysMessages, SayMessages}
use Rattle.endpoint_run.proofs.Allowing.{run_keeps}
use Rattle.endpoint_run.proofs.Asked.{asks_once}
use Rattle.endpoint_run.proofs.Earlier.{moment_grown, said_before}
use Rattle.endpoint_run.proofs.Safety.{run_safe}

-- ---- what was read is a front of what was written

front_of : (n : ℕ) (bytes : List ℕ) → IsPrefixOf (take n bytes) bytes
front_of n bytes = (drop n bytes, take-append-drop n bytes)

front_more : (xs ys zs : List ℕ) → IsPrefixOf xs ys → IsPrefixOf ys zs → IsPrefixOf xs zs
front_more xs ys zs p q = (p.0 ++ q.0, sym (append_assoc xs p.0 q.0) ∙ (ap (λ bytes. bytes ++ q.0) p.1 ∙ q.1))

read_front : (v : Version) (c : ChannelKey) (x y : List EndItem) → HasPrefixProperty v c (mux_of v x) (mux_of v y) → IsPrefixOf (read_bytes v c (mux_of v x)) (written (other_key c) (mux_of v y))
read_front v c x y p =
    let m = mux_of v x in
    let n = mux_of v y in
    let all = written (other_key c) n in
    let sent = take (emitted v (other_key c) n) all in
    let heard = subst (λ bytes. IsPrefixOf bytes (taken v c m)) (sym p.handed) (front_of (handed v c m) (taken v c m)) in
    front_more (read_bytes v c m) (taken v c m) all heard (front_more (taken v c m) sent all p.taken (front_of (emitted v (other_key c) n) all))

-- ---- messages in order

front_text : (read written text dropped : List ℕ) (p : IsPrefixOf read written) → written ++ dropped ≡ text → read ++ (p.0 ++ dropped) ≡ text
front_text read written text dropped p e = sym (append_assoc read p.0 dropped) ∙ (ap (λ bytes. bytes ++ dropped) p.1 ∙ e)

-- what x read begins the text of what y said
heard : (v : Version) (c : ChannelKey) (x y : List EndItem) → AreAllowed v x → AreAllowed v y → HasPrefixProperty v c (mux_of v x) (mux_of v y) → IsShared v c x y
    → IsPrefixOf (joined v c x) (message_texts (terms_of c x) (said_on v (other_key c) y))
heard v c x y a b p shared =
    let other = other_key c in
    let messages = said_on v other y in
    let text = message_texts (terms_of c x) messages in
    let spoke = spoken v other y b shared.writer in
    let comes = read_front v c x y p in
    let read : read_bytes v c (mux_of v x) ≡ joined v c x = reads v c x a shared.reader ∙ ap (λ first. first ++ joined v c x) shared.nothing_read in
    let said : written other (mux_of v y) ++ spoke.dropped ≡ text = spoke.is ∙ ap₂ (λ first terms. first ++ message_texts terms messages) shared.nothing_written (sym shared.same_terms) in
    subst (λ bytes. IsPrefixOf bytes text) read (comes.0 ++ spoke.dropped, front_text (read_bytes v c (mux_of v x)) (written other (mux_of v y)) text spoke.dropped comes said)

said_fits : (v : Version) (c : ChannelKey) (x y : List EndItem) → AreAllowed v y → IsShared v c x y → AreWritable (encoder (terms_of c x).encoding) (said_on v (other_key c) y)
said_fits v c x y b shared =
    subst (λ terms. AreWritable (encoder (connection.Terms.encoding terms)) (said_on v (other_key c) y)) (sym shared.same_terms) (said_writable v (other_key c) y b)

first_front : (norm : Message → Message) (n : ℕ) (messages got : List Message) → got ≡ map norm (take n messages) → got ++ map norm (drop n messages) ≡ map norm messages
first_front norm n messages got e =
    ap (λ got. got ++ map norm (drop n messages)) e ∙ (sym (map-append norm (take n messages) (drop n messages)) ∙ ap (map norm) (take-append-drop n messages))

-- how many messages x took, which are the first that y said
taken_first : (v : Version) (c : ChannelKey) (x y : List EndItem) → AreAllowed v x → AreAllowed v y → HasPrefixProperty v c (mux_of v x) (mux_of v y) → IsShared v c x y → AreMessages (said_on v (other_key c) y)
    → (count : ℕ) × (got_on v c x ≡ map (as_read (terms_of c x).encoding) (take count (said_on v (other_key c) y)))
taken_first v c x y a b p shared are =
    let messages = said_on v (other_key c) y in
    let text = heard v c x y a b p shared in
    let first = takes_first v c x messages text.0 a shared.reader are (said_fits v c x y b shared) text.1 in
    (first.count, first.are)

takes_front : (v : Version) (c : ChannelKey) (x y : List EndItem) → AreAllowed v x → AreAllowed v y → HasPrefixProperty v c (mux_of v x) (mux_of v y) → IsShared v c x y → AreMessages (said_on v (other_key c) y) → TakesFront v c x y
takes_front v c x y a b p shared are =
    let messages = said_on v (other_key c) y in
    let norm = as_read (terms_of c x).encoding in
    let first = taken_first v c x y a b p shared are in
    (map norm (drop first.0 messages), first_front norm first.0 messages (got_on v c x) first.1)

-- ---- pages

takes_pages : (v : Version) (c : ChannelKey) (x y : List EndItem) → AreAllowed v x → AreAllowed v y → HasPrefixProperty v c (mux_of v x) (mux_of v y) → IsShared v c x y → AreMessages (said_on v (other_key c) y) → TakesPages v c x y
takes_pages v c x y a b p shared are =
    let first = taken_first v c x y a b p shared are in
    let said : SaidFirst first.0 (items_of (rpc_of v (other_key c) y)) = said_first first.0 (items_of (rpc_of v (other_key c) y)) in
    record {
      newer = said.newer;
      older = said.older;
      parts = said.parts;
      took = first.1 ∙ ap (map (as_read (terms_of c x).encoding)) (sym said.said);
      fronts = λ token. subst (λ (items : List RpcItem). IsFrontOf (answered_values token said.older) (produced_at token items)) said.parts (front_of_later token said.newer said.older);
    }

-- ---- answers

-- reading keeps the ids of requests
requests_read : (e : Encoding) (id : Id) (ms : List Message) → requests id (map (as_read e) ms) ≡ requests id ms
requests_read e id [] = refl
requests_read Json id (Request i method params ∷ ms) = ap (λ n. if same_id i id then n + 1 else n) (requests_read Json id ms)
requests_read Json id (Notification method params ∷ ms) = requests_read Json id ms
requests_read Json id (message.Result i value ∷ ms) = requests_read Json id ms
requests_read Json id (message.Error i code text more ∷ ms) = requests_read Json id ms
requests_read Pack id (Request i method params ∷ ms) = ap (λ n. if same_id i id then n + 1 else n) (requests_read Pack id ms)
requests_read Pack id (Notification method params ∷ ms) = requests_read Pack id ms
requests_read Pack id (message.Result i value ∷ ms) = requests_read Pack id ms
requests_read Pack id (message.Error i code text more ∷ ms) = requests_read Pack id ms

answers_once : (v : Version) (c : ChannelKey) (x y : List EndItem) → AreAllowed v x → TakesFront v c x y → AnswersOnce v c x y
answers_once v c x y a front = record {
  asked = asked;
  once = λ id. omega (arith, asked id, asks_once id (items_of (rpc_of v (other_key c) y)));
}
  where
    asked : (id : Id) → responses id (said_on v c x) ≤ requests id (said_on v (other_key c) y)
    asked id =
        omega (
          arith,
          answered_once v c x a id,
          requests-append id (got_on v c x) front.0,
          ap (requests id) front.1,
          requests_read (connection.Terms.encoding (terms_of c x)) id (said_on v (other_key c) y),
        )

-- ---- runs

in_order : (v : Version) (x y : List EndItem) → AreAllowed v x → AreAllowed v y → SaysMessages v y → ((c : ChannelKey) → HasPrefixProperty v c (mux_of v x) (mux_of v y)) → TakesInOrder v x y
in_order v x y a b says p c shared = takes_front v c x y a b (p c) shared (says (other_key c))

in_pages : (v : Version) (x y : List EndItem) → AreAllowed v x → AreAllowed v y → SaysMessages v y → ((c : ChannelKey) → HasPrefixProperty v c (mux_of v x) (mux_of v y)) → TakesPagesInOrder v x y
in_pages v x y a b says p c shared = takes_pages v c x y a b (p c) shared (says (other_key c))

each_once : (v : Version) (x y : List EndItem) → AreAllowed v x → TakesInOrder v x y → AnswersEachOnce v x y
each_once v x y a takes c shared = answers_once v c x y a (takes c shared)

-- at a moment at which all that was said are messages
pub moment_exchanges : (terms : Terms) (steps : List EndStep) (moment : Moment) → SayMessages terms (at_moment terms steps moment) → IsExchangeIn terms (at_moment terms steps moment)
moment_exchanges terms steps moment say =
    let v = terms.version in
    let a = (at_moment terms steps moment).a.items in
    let b = (at_moment terms steps moment).b.items in
    let allowed = run_keeps terms steps moment in
    let safe = (run_safe terms steps moment).mux in
    let to_a : TakesInOrder v a b = in_order v a b allowed.a allowed.b say.b (λ c. (safe.to_a c).prefix_property) in
    let to_b : TakesInOrder v b a = in_order v b a allowed.b allowed.a say.a (λ c. (safe.to_b c).prefix_property) in
    record {
      to_a = to_a;
      to_b = to_b;
      answers_a = each_once v a b allowed.a to_a;
      answers_b = each_once v b a allowed.b to_b;
      pages_to_a = in_pages v a b allowed.a allowed.b say.b (λ c. (safe.to_a c).prefix_property);
      pages_to_b = in_pages v b a allowed.b allowed.a say.a (λ c. (safe.to_b c).prefix_property);
    }

-- then all that was said before are messages, too
pub run_exchanges : (terms : Terms) (steps : List EndStep) → SayMessages terms (end_run terms steps) → IsExchangeRun terms steps
run_exchanges terms steps say first moment is =
    moment_exchanges terms first moment (said_before terms (at_moment terms first moment) (end_run terms steps) (moment_grown terms steps first moment is) say)
