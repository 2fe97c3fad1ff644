-- The sequences of own requests stand for the items again after each item.
use Rattle.std.specs.Prelude.{Bool, true, false, not, ◌&&◌, ◌||◌, ◌==◌, is_none, option_map, if◌then◌else◌}
use Rattle.std.proofs.Common.{◌≡◌, ℕ, ◌+◌, List, [], ◌∷◌, refl, sym, ◌∙◌, ap, ap₂, subst, Option, Some, None}
use Rattle.std.proofs.lemmas.Bool.{eqb-true}
use Rattle.wire_base.specs.declared.state.Cause.{Cause}
use Rattle.wire_base.specs.declared.text.Id.{Id}
use Rattle.wire_base.proofs.Places.{eq_apart, eq_refl}
use Rattle.rpc_items.specs.Drawn.{drawn}
use Rattle.rpc_items.specs.Items.{RpcItem, Did, End, Next, Abort, is_running}
use Rattle.rpc_items.specs.Outcomes.{answer_to, is_unanswered}
use Rattle.rpc_items.specs.Refusals.{has_sequence, turn_refusal}
use Rattle.rpc_items.specs.Sequences.{adopted_token, has_given_up, is_last_page, is_turning, last_turn, sequence_of, turn_is_last, turn_is_unanswered, unless_over}
use Rattle.rpc_items.proofs.Undrawn.{next_undrawn, unanswered_undrawn, call_same, end_same}
use Rattle.rpc_items.proofs.Drawing.{turn_accepted}
use Rattle.enumerables.specs.declared.followed.Followed.{Followed}
use Rattle.enumerables.specs.Consumer.{asking, found, turning, without}
use Rattle.enumerables.specs.Stands.{ConsumerStands, IsUntouched, followed_after, turn_of}
use Rattle.enumerables.proofs.Finding.{asking_keeps, eq_false, found_map, once_filter, once_map}
use Rattle.enumerables.proofs.Following.{IsApart, apart_same, followed_as, found_same, next_drawn, token_same, unadopted}

-- an item that touches no sequence

untouched_on : (n : ℕ) (item : RpcItem) (items : List RpcItem) → has_given_up n (item ∷ items) ≡ has_given_up n items → last_turn n (item ∷ items) ≡ last_turn n items → IsUntouched n items → IsUntouched n (item ∷ items)
untouched_on n item items given turns u = record { turned = turns ∙ u.turned; kept = given ∙ u.kept }

pub passed : (followed : List Followed) (item : RpcItem) (items : List RpcItem) → ((n : ℕ) → IsApart n item items) → ConsumerStands followed items → ConsumerStands followed (item ∷ items)
passed followed item items apart s = record {
  each = λ n. s.each n ∙ sym (found_same n item items (apart_same n item items (apart n)));
  once = s.once;
  early = λ n e. untouched_on n item items (apart n).given (apart n).turns (s.early n (sym ((apart n).answers n) ∙ e));
}

-- what refusals tell

live_parts : (g l r : Bool) (token : Option Id) → has_sequence (unless_over (g || l || not r) token) ≡ true → (l ≡ false) × (r ≡ true)
live_parts true l r token e = absurd (cc e)
live_parts false true r token e = absurd (cc e)
live_parts false false false token e = absurd (cc e)
live_parts false false true token e = (refl, refl)

is_live : (n : ℕ) (items : List RpcItem) → turn_refusal n items ≡ None → has_sequence (sequence_of n items) ≡ true
is_live n items e = turn_accepted (has_sequence (sequence_of n items)) (is_turning n items) e

-- a request with a sequence was answered
live_answered : (n : ℕ) (items : List RpcItem) → has_sequence (sequence_of n items) ≡ true → answer_to n items ≡ None → ⊥
live_answered n items live none = (let gone : has_sequence (sequence_of n items) ≡ false = ap has_sequence (unadopted n items none) in cc (sym live ∙ gone))

-- a page is asked for

other_turn : (n m : ℕ) (items : List RpcItem) → (n == m) ≡ false → IsApart m (Did (Next n)) items
other_turn n m items apart = record { given = refl; turns = ap (λ (b : Bool). if b then Some (drawn items + 1) else last_turn m items) apart; answers = λ k. call_same k (Next n) items; running = refl }

-- what is kept of a request where its page is asked for, or another's
asked_for : (m n number : ℕ) (b : Bool) (turn : Option ℕ) (token : Option Id) → (m == n) ≡ b → option_map (asking n number) (option_map (followed_as m turn) token) ≡ option_map (followed_as m (if b then Some number else turn)) token
asked_for m n number b turn None e = refl
asked_for m n number true turn (Some token) e = ap (λ (c : Bool). Some (if c then followed_as m (Some number) token else followed_as m turn token)) e
asked_for m n number false turn (Some token) e = ap (λ (c : Bool). Some (if c then followed_as m (Some number) token else followed_as m turn token)) e

pub turned_follows : (n number : ℕ) (followed : List Followed) (items : List RpcItem) → turn_refusal n items ≡ None → number ≡ drawn items + 1 → ConsumerStands followed items → ConsumerStands (turning n number followed) (Did (Next n) ∷ items)
turned_follows n number followed items accepted is s = record {
  each = each;
  once = once_map (asking n number) followed (asking_keeps n number) s.once;
  early = early;
}
  where
    item : RpcItem
    item = Did (Next n)

    live : has_sequence (sequence_of n items) ≡ true
    live = is_live n items accepted

    parts : (turn_is_last (last_turn n items) items ≡ false) × (is_running items ≡ true)
    parts = live_parts (has_given_up n items) (turn_is_last (last_turn n items) items) (is_running items) (adopted_token n items) live

    last : last_turn n (item ∷ items) ≡ Some (drawn items + 1)
    last = ap (λ (b : Bool). if b then Some (drawn items + 1) else last_turn n items) (eq_refl n)

    unanswered : answer_to (drawn items + 1) (item ∷ items) ≡ None
    unanswered = call_same (drawn items + 1) (Next n) items ∙ unanswered_undrawn (drawn items + 1) items (next_undrawn items)

    sequence : sequence_of n (item ∷ items) ≡ sequence_of n items
    sequence =
        let goes_on : turn_is_last (last_turn n (item ∷ items)) (item ∷ items) ≡ turn_is_last (last_turn n items) items = ap (λ (t : Option ℕ). turn_is_last t (item ∷ items)) last ∙ (ap is_last_page unanswered ∙ sym parts.0) in
        let token : adopted_token n (item ∷ items) ≡ adopted_token n items = token_same n item items (call_same n (Next n) items) in
        λ i. unless_over (has_given_up n items || goes_on i || not (is_running items)) (token i)

    turn : turn_of n (item ∷ items) ≡ Some number
    turn =
        let waits : is_unanswered (drawn items + 1) (item ∷ items) ≡ true = λ i. parts.1 i && next_drawn n items i && is_none (unanswered i) in
        ap (λ (t : Option ℕ). if turn_is_unanswered t (item ∷ items) then t else None) last ∙ (ap (λ (b : Bool). if b then Some (drawn items + 1) else None) waits ∙ sym (ap (λ (k : ℕ). Some k) is))

    after : (m : ℕ) (b : Bool) → (n == m) ≡ b → (sequence_of m (item ∷ items) ≡ sequence_of m items) × (turn_of m (item ∷ items) ≡ (if b then Some number else turn_of m items))
    after m true e =
        let here : n ≡ m = eqb-true n m e in
        (subst (λ (k : ℕ). sequence_of k (item ∷ items) ≡ sequence_of k items) here sequence, subst (λ (k : ℕ). turn_of k (item ∷ items) ≡ Some number) here turn)
    after m false e = (let same_one = apart_same m item items (other_turn n m items e) in (same_one.sequence, same_one.turn))

    eq_sym : (m : ℕ) (b : Bool) → (n == m) ≡ b → (m == n) ≡ b
    eq_sym m true e = ap (λ (k : ℕ). k == n) (sym (eqb-true n m e)) ∙ eq_refl n
    eq_sym m false e = eq_false m n (λ h. eq_apart n m e (sym h))

    each : (m : ℕ) → found m (turning n number followed) ≡ option_map (followed_after m (item ∷ items)) (sequence_of m (item ∷ items))
    each m =
        let now = after m (n == m) refl in
        found_map (asking n number) m followed (asking_keeps n number)
        ∙ (ap (option_map (asking n number)) (s.each m)
        ∙ (asked_for m n number (n == m) (turn_of m items) (sequence_of m items) (eq_sym m (n == m) refl)
        ∙ sym (ap₂ (λ (t : Option ℕ) (o : Option Id). option_map (followed_as m t) o) now.1 now.0)))

    early : (m : ℕ) → answer_to m (item ∷ items) ≡ None → IsUntouched m (item ∷ items)
    early m e =
        let none : answer_to m items ≡ None = sym (call_same m (Next n) items) ∙ e in
        by none (n == m) refl
      where
        by : answer_to m items ≡ None → (b : Bool) → (n == m) ≡ b → IsUntouched m (item ∷ items)
        by none true h = absurd (live_answered n items live (ap (λ (k : ℕ). answer_to k items) (eqb-true n m h) ∙ none))
        by none false h = (let a = other_turn n m items h in untouched_on m item items a.given a.turns (s.early m none))

-- a sequence is given up

other_abort : (n m : ℕ) (items : List RpcItem) → (n == m) ≡ false → IsApart m (Did (Abort n)) items
other_abort n m items apart = record { given = ap (λ (b : Bool). if b then true else has_given_up m items) apart; turns = refl; answers = λ k. call_same k (Abort n) items; running = refl }

found_without : (n m : ℕ) (b : Bool) (followed : List Followed) → (n == m) ≡ b → found m (without n followed) ≡ (if b then None else found m followed)
found_without n m true [] e = refl
found_without n m false [] e = refl
found_without n m b (f ∷ followed) e = by (f.request == n) (f.request == m) refl refl (found_without n m b followed e)
  where
    by : (is this : Bool) → (f.request == n) ≡ is → (f.request == m) ≡ this → found m (without n followed) ≡ (if b then None else found m followed)
        → found m (if not is then f ∷ without n followed else without n followed) ≡ (if b then None else (if this then Some f else found m followed))
    by true this h k ih = ih ∙ passing b e
      where
        passing : (c : Bool) → (n == m) ≡ c → (if c then None else found m followed) ≡ (if c then None else (if this then Some f else found m followed))
        passing true g = refl
        passing false g = absurd_this this k
          where
            absurd_this : (t : Bool) → (f.request == m) ≡ t → found m followed ≡ (if t then Some f else found m followed)
            absurd_this true t = absurd (eq_apart n m g (sym (eqb-true f.request n h) ∙ eqb-true f.request m t))
            absurd_this false t = refl
    by false true h k ih = ap (λ (c : Bool). if c then Some f else found m (without n followed)) k ∙ kept b e
      where
        kept : (c : Bool) → (n == m) ≡ c → Some f ≡ (if c then None else Some f)
        kept true g = absurd (eq_apart f.request n h (eqb-true f.request m k ∙ sym (eqb-true n m g)))
        kept false g = refl
    by false false h k ih = ap (λ (c : Bool). if c then Some f else found m (without n followed)) k ∙ ih

pub aborted_follows : (n : ℕ) (followed : List Followed) (items : List RpcItem) → turn_refusal n items ≡ None → ConsumerStands followed items → ConsumerStands (without n followed) (Did (Abort n) ∷ items)
aborted_follows n followed items accepted s = record {
  each = λ m. found_without n m (n == m) followed refl ∙ each m (n == m) refl;
  once = once_filter (λ f. not (f.request == n)) followed s.once;
  early = λ m e. early m (n == m) refl (sym (call_same m (Abort n) items) ∙ e);
}
  where
    item : RpcItem
    item = Did (Abort n)

    each : (m : ℕ) (b : Bool) → (n == m) ≡ b → (if b then None else found m followed) ≡ option_map (followed_after m (item ∷ items)) (sequence_of m (item ∷ items))
    each m true e = sym (ap (λ (c : Bool). option_map (followed_after m (item ∷ items)) (unless_over ((if c then true else has_given_up m items) || turn_is_last (last_turn m items) (item ∷ items) || not (is_running items)) (adopted_token m (item ∷ items)))) e)
    each m false e = s.each m ∙ sym (found_same m item items (apart_same m item items (other_abort n m items e)))

    early : (m : ℕ) (b : Bool) → (n == m) ≡ b → answer_to m items ≡ None → IsUntouched m (item ∷ items)
    early m true h none = absurd (live_answered n items (is_live n items accepted) (ap (λ (k : ℕ). answer_to k items) (eqb-true n m h) ∙ none))
    early m false h none = (let a = other_abort n m items h in untouched_on m item items a.given a.turns (s.early m none))

-- the end

over_at_end : (g l : Bool) (token : Option Id) → unless_over (g || l || true) token ≡ None
over_at_end true l token = refl
over_at_end false true token = refl
over_at_end false false token = refl

pub ended_follows : (cause : Cause) (followed : List Followed) (items : List RpcItem) → ConsumerStands followed items → ConsumerStands [] (End cause ∷ items)
ended_follows cause followed items s = record {
  each = λ n. sym (ap (option_map (followed_after n (End cause ∷ items))) (over_at_end (has_given_up n items) (turn_is_last (last_turn n items) (End cause ∷ items)) (adopted_token n (End cause ∷ items))));
  once = tt;
  early = λ n e. untouched_on n (End cause) items refl refl (s.early n (sym (end_same n cause items) ∙ e));
}
