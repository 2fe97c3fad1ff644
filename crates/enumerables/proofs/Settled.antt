-- The sequences of own requests stand for the items again after a response to one of them.
use Rattle.std.specs.Prelude.{Bool, true, false, not, ◌&&◌, ◌||◌, ◌==◌, is_none, option_map, if◌then◌else◌}
use Rattle.std.proofs.Common.{◌≡◌, ◌≢◌, ℕ, List, ◌∷◌, ◌++◌, refl, sym, ◌∙◌, ap, ap₂, subst, Option, Some, None}
use Rattle.std.proofs.lemmas.Bool.{eqb-true}
use Rattle.std.proofs.lemmas.List.{append-nil}
use Rattle.wire_base.specs.declared.text.Id.{Id}
use Rattle.wire_base.specs.Options.{or_else}
use Rattle.wire_base.proofs.Places.{eq_apart, eq_refl}
use Rattle.rpc_items.specs.declared.calls.Expect.{Expect}
use Rattle.rpc_items.specs.declared.calls.Outcome.{Outcome}
use Rattle.rpc_items.specs.declared.messages.Message.{Message}
use Rattle.rpc_items.specs.declared.messages.Message.TheVariants as message
use Rattle.rpc_items.specs.Drawn.{asked, asked_at, is_drawn, with_number}
use Rattle.rpc_items.specs.Ids.{same_id, numbered_id}
use Rattle.rpc_items.specs.Items.{RpcItem, Got, is_running}
use Rattle.rpc_items.specs.Outcomes.{answer_to, is_unanswered, response_in}
use Rattle.rpc_items.specs.Sequences.{adopted_token, expects_sequence, has_given_up, is_last_page, is_sequence, last_turn, sequence_of, token_of, turn_is_last, turn_is_unanswered, unless_over}
use Rattle.rpc_items.proofs.Settling.{first, other}
use Rattle.rpc_items.proofs.SameIds.{same_id_eq, number_eq}
use Rattle.enumerables.specs.declared.followed.Followed.{Followed}
use Rattle.enumerables.specs.Consumer.{adopted, follows, found, is_turn_of, paged, rested, settled}
use Rattle.enumerables.specs.Stands.{AreOnce, ConsumerStands, IsUntouched, followed_after, turn_of}
use Rattle.enumerables.proofs.Finding.{found_append, found_filter, found_map, found_new, found_other, once_filter, once_map, once_more, rested_keeps, where_passes}
use Rattle.enumerables.proofs.Following.{followed_as, last_drawn, token_same, unadopted, unanswered_same}

-- a response to one request is none to another

if_some : (b : Bool) (x o : Outcome) → (if b then Some x else None) ≡ Some o → b ≡ true
if_some true x o e = refl
if_some false x o e = absurd (cc e)

other_id : (id : Id) (m number : ℕ) → same_id id (numbered_id number) ≡ true → m ≢ number → same_id id (numbered_id m) ≡ false
other_id id m number e d = by (same_id id (numbered_id m)) refl
  where
    by : (b : Bool) → same_id id (numbered_id m) ≡ b → b ≡ false
    by true h = absurd (d (number_eq m number (sym (same_id_eq id (numbered_id m) h) ∙ same_id_eq id (numbered_id number) e)))
    by false h = refl

none_for : (b : Bool) (x : Outcome) → b ≡ false → (if b then Some x else None) ≡ None
none_for true x e = absurd (cc e)
none_for false x e = refl

pub response_apart : (m number : ℕ) (said : Message) (o : Outcome) → response_in number said ≡ Some o → m ≢ number → response_in m said ≡ None
response_apart m number (message.Result id value) o e d = none_for (same_id id (numbered_id m)) _ (other_id id m number (if_some (same_id id (numbered_id number)) _ o e) d)
response_apart m number (message.Error (Some id) code text more) o e d = none_for (same_id id (numbered_id m)) _ (other_id id m number (if_some (same_id id (numbered_id number)) _ o e) d)
response_apart m number said o e d = absurd (cc e)

unanswered_parts : (r d : Bool) (a : Option Outcome) → (r && d && is_none a) ≡ true → (r ≡ true) × (a ≡ None)
unanswered_parts true true None e = (refl, refl)
unanswered_parts true true (Some o) e = absurd (cc e)
unanswered_parts true false a e = absurd (cc e)
unanswered_parts false d a e = absurd (cc e)

none_waits : (r d : Bool) → (r && d && false) ≡ false
none_waits true true = refl
none_waits true false = refl
none_waits false d = refl

-- the request for a page that is unanswered, of the newest one
abbrev waiting_turn : Option ℕ → List RpcItem → Option ℕ
waiting_turn turn items = if turn_is_unanswered turn items then turn else None

-- a response to the request with this number, which is unanswered
record IsFirst (number : ℕ) (o : Outcome) (item : RpcItem) (items : List RpcItem) : Type 0 where
  pub waits : is_unanswered number items ≡ true
  pub answer : answer_to number (item ∷ items) ≡ Some o
  pub others : (k : ℕ) → k ≢ number → answer_to k (item ∷ items) ≡ answer_to k items
  pub running : is_running (item ∷ items) ≡ is_running items

-- a request for a page after that response: answered where it is that one
record IsTurnAfter (number : ℕ) (o : Outcome) (turn : Option ℕ) (item : RpcItem) (items : List RpcItem) : Type 0 where
  pub turn_then : waiting_turn turn (item ∷ items) ≡ (if is_turn_of number (waiting_turn turn items) then None else waiting_turn turn items)
  pub last_then : turn_is_last turn (item ∷ items) ≡ (if is_turn_of number (waiting_turn turn items) then is_last_page (Some o) else turn_is_last turn items)
  pub waited : is_turn_of number (waiting_turn turn items) ≡ true → turn_is_last turn items ≡ false

apart_turn : (number k : ℕ) (b : Bool) → (k == number) ≡ false → is_turn_of number (if b then Some k else None) ≡ false
apart_turn number k true e = e
apart_turn number k false e = refl

this_turn : (number : ℕ) (o : Outcome) (item : RpcItem) (items : List RpcItem) → IsFirst number o item items → IsTurnAfter number o (Some number) item items
this_turn number o item items f = record {
  turn_then = ap (λ (b : Bool). if b then Some number else None) answered ∙ sym (ap (λ (b : Bool). if b then None else waiting_turn (Some number) items) asked_now);
  last_then = ap is_last_page f.answer ∙ sym (ap (λ (b : Bool). if b then is_last_page (Some o) else turn_is_last (Some number) items) asked_now);
  waited = λ e. ap is_last_page none;
}
  where
    none : answer_to number items ≡ None
    none = (unanswered_parts (is_running items) (is_drawn number items) (answer_to number items) f.waits).1

    answered : is_unanswered number (item ∷ items) ≡ false
    answered = ap (λ (a : Option Outcome). is_running (item ∷ items) && is_drawn number (item ∷ items) && is_none a) f.answer ∙ none_waits (is_running (item ∷ items)) (is_drawn number (item ∷ items))

    asked_now : is_turn_of number (waiting_turn (Some number) items) ≡ true
    asked_now = ap (λ (b : Bool). is_turn_of number (if b then Some number else None)) f.waits ∙ eq_refl number

turn_after : (number : ℕ) (o : Outcome) (turn : Option ℕ) (item : RpcItem) (items : List RpcItem) → IsFirst number o item items → ((k : ℕ) → turn ≡ Some k → is_drawn k items ≡ true) → IsTurnAfter number o turn item items
turn_after number o None item items f drawn = record { turn_then = refl; last_then = refl; waited = λ e. refl }
turn_after number o (Some k) item items f drawn = by (k == number) refl
  where
    by : (b : Bool) → (k == number) ≡ b → IsTurnAfter number o (Some k) item items
    by true e = subst (λ (j : ℕ). IsTurnAfter number o (Some j) item items) (sym (eqb-true k number e)) (this_turn number o item items f)
    by false e =
        let answer : answer_to k (item ∷ items) ≡ answer_to k items = f.others k (eq_apart k number e) in
        let waits : is_unanswered k (item ∷ items) ≡ is_unanswered k items = unanswered_same k item items (drawn k refl) answer f.running in
        let unasked : is_turn_of number (waiting_turn (Some k) items) ≡ false = apart_turn number k (is_unanswered k items) e in
        record {
          turn_then = ap (λ (b : Bool). if b then Some k else None) waits ∙ sym (ap (λ (b : Bool). if b then None else waiting_turn (Some k) items) unasked);
          last_then = ap is_last_page answer ∙ sym (ap (λ (b : Bool). if b then is_last_page (Some o) else turn_is_last (Some k) items) unasked);
          waited = λ asked_now. absurd (cc (sym asked_now ∙ unasked));
        }

-- a page ends a sequence, or doesn't

passes_page : (m number : ℕ) (turn : Option ℕ) (token : Option Id) (b : Bool) → is_turn_of number turn ≡ b → where_passes (λ f. not (is_turn_of number f.turn)) (option_map (followed_as m turn) token) ≡ (if b then None else option_map (followed_as m turn) token)
passes_page m number turn None true e = refl
passes_page m number turn None false e = refl
passes_page m number turn (Some token) true e = ap (λ (c : Bool). if not c then Some (followed_as m turn token) else None) e
passes_page m number turn (Some token) false e = ap (λ (c : Bool). if not c then Some (followed_as m turn token) else None) e

ends_page : (m : ℕ) (turn : Option ℕ) (b g l r : Bool) (token : Option Id) → (if b then None else option_map (followed_as m turn) (unless_over (g || l || r) token)) ≡ option_map (followed_as m (if b then None else turn)) (unless_over (g || (if b then true else l) || r) token)
ends_page m turn true true l r token = refl
ends_page m turn true false l r token = refl
ends_page m turn false g l r token = refl

rests_page : (m number : ℕ) (turn : Option ℕ) (token : Option Id) (b : Bool) → is_turn_of number turn ≡ b → option_map (rested number) (option_map (followed_as m turn) token) ≡ option_map (followed_as m (if b then None else turn)) token
rests_page m number turn None b e = refl
rests_page m number turn (Some token) true e = ap (λ (c : Bool). Some (if c then followed_as m None token else followed_as m turn token)) e
rests_page m number turn (Some token) false e = ap (λ (c : Bool). Some (if c then followed_as m None token else followed_as m turn token)) e

goes_on_page : (b l : Bool) → (b ≡ true → l ≡ false) → l ≡ (if b then false else l)
goes_on_page true l e = e refl
goes_on_page false l e = refl

-- what is followed where a page is answered, by what was followed

paged_found : (m number : ℕ) (last : Bool) (followed : List Followed) (turn : Option ℕ) (g l r : Bool) (token : Option Id) → AreOnce followed → (is_turn_of number turn ≡ true → l ≡ false) → found m followed ≡ option_map (followed_as m turn) (unless_over (g || l || r) token)
    → found m (paged number last followed) ≡ option_map (followed_as m (if is_turn_of number turn then None else turn)) (unless_over (g || (if is_turn_of number turn then last else l) || r) token)
paged_found m number true followed turn g l r token once waited at =
    found_filter (λ f. not (is_turn_of number f.turn)) m followed once
    ∙ (ap (where_passes (λ f. not (is_turn_of number f.turn))) at
    ∙ (passes_page m number turn (unless_over (g || l || r) token) (is_turn_of number turn) refl
    ∙ ends_page m turn (is_turn_of number turn) g l r token))
paged_found m number false followed turn g l r token once waited at =
    found_map (rested number) m followed (rested_keeps number)
    ∙ (ap (option_map (rested number)) at
    ∙ (rests_page m number turn (unless_over (g || l || r) token) (is_turn_of number turn) refl
    ∙ ap (λ (k : Bool). option_map (followed_as m (if is_turn_of number turn then None else turn)) (unless_over (g || k || r) token)) (goes_on_page (is_turn_of number turn) l waited)))

paged_once : (number : ℕ) (last : Bool) (followed : List Followed) → AreOnce followed → AreOnce (paged number last followed)
paged_once number true followed once = once_filter (λ f. not (is_turn_of number f.turn)) followed once
paged_once number false followed once = once_map (rested number) followed (rested_keeps number) once

-- the sequence that a result is

first_none : {A : Type 0} (o : Option A) → or_else o None ≡ o
first_none (Some x) = refl
first_none None = refl

adopted_other : (m number : ℕ) (adopts : Bool) (token : Option Id) (followed : List Followed) → m ≢ number → found m (if adopts then followed ++ follows number token else followed) ≡ found m followed
adopted_other m number true token followed d = found_append m followed (follows number token) ∙ (ap (or_else (found m followed)) (found_other m number token d) ∙ first_none (found m followed))
adopted_other m number false token followed d = refl

adopted_this : (number : ℕ) (adopts : Bool) (token : Option Id) (followed : List Followed) → found number followed ≡ None → found number (if adopts then followed ++ follows number token else followed) ≡ option_map (followed_as number None) (if adopts then token else None)
adopted_this number true token followed e = found_append number followed (follows number token) ∙ (ap (λ (o : Option Followed). or_else o (found number (follows number token))) e ∙ found_new number token)
adopted_this number false token followed e = e

adopted_once : (number : ℕ) (adopts : Bool) (token : Option Id) (followed : List Followed) → found number followed ≡ None → AreOnce followed → AreOnce (if adopts then followed ++ follows number token else followed)
adopted_once number true token followed e once = once_more number token followed e once
adopted_once number false token followed e once = once

pub settled_follows : (number : ℕ) (expect : Expect) (o : Outcome) (place : ℕ) (said : Message) (followed : List Followed) (items : List RpcItem) → is_unanswered number items ≡ true → is_sequence expect ≡ expects_sequence (asked_at number items) → response_in number said ≡ Some o
    → ConsumerStands followed items → ConsumerStands (settled number expect o followed) (Got place said ∷ items)
settled_follows number expect o place said followed items waits expects says s = record {
  each = each;
  once = paged_once number (is_last_page (Some o)) with_it (adopted_once number (is_sequence expect) (token_of (Some o)) followed none_yet s.once);
  early = λ m e. early m (m == number) refl e;
}
  where
    item : RpcItem
    item = Got place said

    with_it : List Followed
    with_it = if is_sequence expect then adopted number o followed else followed

    parts : (is_running items ≡ true) × (answer_to number items ≡ None)
    parts = unanswered_parts (is_running items) (is_drawn number items) (answer_to number items) waits

    is_first : IsFirst number o item items
    is_first = record {
      waits = waits;
      answer = (first (is_running items) (is_drawn number items) (answer_to number items) (response_in number said) waits).1 ∙ says;
      others = λ k d. other k place said items (response_apart k number said o says d);
      running = refl;
    }

    untouched : IsUntouched number items
    untouched = s.early number parts.1

    none_yet : found number followed ≡ None
    none_yet = s.each number ∙ ap (option_map (followed_after number items)) (unadopted number items parts.1)

    -- the request's own token
    token_here : adopted_token number (item ∷ items) ≡ (if is_sequence expect then token_of (Some o) else None)
    token_here =
        let asked_here : asked_at number (item ∷ items) ≡ asked_at number items = ap (with_number number) (append-nil (asked items)) in
        ap₂ (λ (b : Bool) (a : Option Outcome). if b then token_of a else None) (ap expects_sequence asked_here ∙ sym expects) is_first.answer

    -- what is followed with the sequence that the result is
    adopted_found : (m : ℕ) (b : Bool) → (m == number) ≡ b → found m with_it ≡ option_map (followed_as m (turn_of m items)) (unless_over (has_given_up m items || turn_is_last (last_turn m items) items || not (is_running items)) (adopted_token m (item ∷ items)))
    adopted_found m true e =
        subst (λ (k : ℕ). found k with_it ≡ option_map (followed_as k (turn_of k items)) (unless_over (has_given_up k items || turn_is_last (last_turn k items) items || not (is_running items)) (adopted_token k (item ∷ items)))) (sym (eqb-true m number e))
        (adopted_this number (is_sequence expect) (token_of (Some o)) followed none_yet
        ∙ sym (λ i. option_map (followed_as number (waiting_turn (untouched.turned i) items)) (unless_over (untouched.kept i || turn_is_last (untouched.turned i) items || not (parts.0 i)) (token_here i))))
    adopted_found m false e =
        let d : m ≢ number = eq_apart m number e in
        adopted_other m number (is_sequence expect) (token_of (Some o)) followed d
        ∙ (s.each m ∙ sym (ap (λ (t : Option Id). option_map (followed_as m (turn_of m items)) (unless_over (has_given_up m items || turn_is_last (last_turn m items) items || not (is_running items)) t)) (token_same m item items (is_first.others m d))))

    each : (m : ℕ) → found m (settled number expect o followed) ≡ option_map (followed_after m (item ∷ items)) (sequence_of m (item ∷ items))
    each m =
        let after = turn_after number o (last_turn m items) item items is_first (λ k e. last_drawn m k items e) in
        paged_found m number (is_last_page (Some o)) with_it (turn_of m items) (has_given_up m items) (turn_is_last (last_turn m items) items) (not (is_running items)) (adopted_token m (item ∷ items))
        (adopted_once number (is_sequence expect) (token_of (Some o)) followed none_yet s.once) after.waited (adopted_found m (m == number) refl)
        ∙ sym (ap₂ (λ (t : Option ℕ) (l : Bool). option_map (followed_as m t) (unless_over (has_given_up m items || l || not (is_running items)) (adopted_token m (item ∷ items)))) after.turn_then after.last_then)

    early : (m : ℕ) (b : Bool) → (m == number) ≡ b → answer_to m (item ∷ items) ≡ None → IsUntouched m (item ∷ items)
    early m true e none = absurd (let some : answer_to m (item ∷ items) ≡ Some o = ap (λ (k : ℕ). answer_to k (item ∷ items)) (eqb-true m number e) ∙ is_first.answer in cc (sym some ∙ none))
    early m false e none = (let u = s.early m (sym (is_first.others m (eq_apart m number e)) ∙ none) in record { turned = u.turned; kept = u.kept })
