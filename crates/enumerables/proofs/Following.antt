-- The sequences of own requests, by the items.
use Rattle.std.specs.Prelude.{Bool, true, false, not, ◌&&◌, ◌||◌, ◌==◌, ◌⊎◌, nat_lt, nat_le, is_some, is_none, option_map, if◌then◌else◌}
use Rattle.std.proofs.Common.{◌≡◌, ℕ, ◌+◌, List, [], ◌∷◌, refl, sym, ◌∙◌, ap, ap₂, inl, inr, arith, Option, Some, None, le-leb, length-append}
use Rattle.std.proofs.lemmas.Bool.{and_from, lt-ltb}
use Rattle.wire_base.specs.declared.text.Id.{Id}
use Rattle.rpc_items.specs.declared.calls.Outcome.{Outcome}
use Rattle.rpc_items.specs.Drawn.{Asked, asked, asked_by, asked_at, drawn, is_drawn}
use Rattle.rpc_items.specs.Items.{RpcItem, Did, Next, is_running}
use Rattle.rpc_items.specs.Outcomes.{answer_to, is_unanswered}
use Rattle.rpc_items.specs.Sequences.{adopted_token, expects_sequence, has_given_up, is_last_page, is_turning, last_turn, sequence_of, token_of, turn_is_last, turn_is_unanswered, unless_over}
use Rattle.rpc_items.proofs.Paging.{with_number-append}
use Rattle.rpc_items.proofs.Stable.{is_drawn_more}
use Rattle.rpc_items.proofs.Undrawn.{drawn_some, unanswered_undrawn}
use Rattle.enumerables.specs.declared.followed.Followed.{Followed}
use Rattle.enumerables.specs.Stands.{turn_of, followed_after}

-- a request for a page is drawn

pub next_drawn : (n : ℕ) (items : List RpcItem) → is_drawn (drawn items + 1) (Did (Next n) ∷ items) ≡ true
next_drawn n items =
    and_from (nat_lt 0 (drawn items + 1)) (nat_le (drawn items + 1) (drawn (Did (Next n) ∷ items))) (lt-ltb 0 (drawn items + 1) (omega arith))
    (le-leb (drawn items + 1) (drawn (Did (Next n) ∷ items)) (omega (arith, length-append (asked items) (asked_by (Did (Next n))))))

-- and stays so

if_turn : (b : Bool) (m k : ℕ) (o : Option ℕ) → (if b then Some m else o) ≡ Some k → ((m ≡ k) ⊎ (o ≡ Some k))
if_turn true m k o e = inl (cc e)
if_turn false m k o e = inr e

pub last_drawn : (n k : ℕ) (items : List RpcItem) → last_turn n items ≡ Some k → is_drawn k items ≡ true
last_drawn n k [] e = absurd (cc e)
last_drawn n k (Did (Next m) ∷ items) e = elim (if_turn (m == n) (drawn items + 1) k (last_turn n items) e) [
  | inl h ↦ ap (λ (j : ℕ). is_drawn j (Did (Next m) ∷ items)) (sym h) ∙ next_drawn m items
  | inr h ↦ is_drawn_more k (Did (Next m)) items (last_drawn n k items h)
]
last_drawn n k (item ∷ items) e = is_drawn_more k item items (last_drawn n k items e)

-- the token of a sequence comes with an answer

if_same : {A : Type 0} (b : Bool) (x : A) → (if b then x else x) ≡ x
if_same true x = refl
if_same false x = refl

pub no_token : (n : ℕ) (items : List RpcItem) → answer_to n items ≡ None → adopted_token n items ≡ None
no_token n items e = ap (λ (a : Option Outcome). if expects_sequence (asked_at n items) then token_of a else None) e ∙ if_same (expects_sequence (asked_at n items)) None

no_sequence : (over : Bool) → unless_over over None ≡ None
no_sequence true = refl
no_sequence false = refl

pub unadopted : (n : ℕ) (items : List RpcItem) → answer_to n items ≡ None → sequence_of n items ≡ None
unadopted n items e =
    let over = has_given_up n items || turn_is_last (last_turn n items) items || not (is_running items) in
    ap (unless_over over) (no_token n items e) ∙ no_sequence over

pub token_same : (n : ℕ) (item : RpcItem) (items : List RpcItem) → answer_to n (item ∷ items) ≡ answer_to n items → adopted_token n (item ∷ items) ≡ adopted_token n items
token_same n item items e = by (asked_at n items) refl
  where
    by : (a : Option Asked) → asked_at n items ≡ a → adopted_token n (item ∷ items) ≡ adopted_token n items
    by (Some a) at = ap₂ (λ (d : Option Asked) (o : Option Outcome). if expects_sequence d then token_of o else None) (with_number-append n (asked items) (asked_by item) a at ∙ sym at) e
    by None at =
        let none : answer_to n items ≡ None = unanswered_undrawn n items (drawn_some n items ∙ ap is_some at) in
        no_token n (item ∷ items) (e ∙ none) ∙ sym (no_token n items none)

-- requests for pages

pub unanswered_same : (k : ℕ) (item : RpcItem) (items : List RpcItem) → is_drawn k items ≡ true → answer_to k (item ∷ items) ≡ answer_to k items → is_running (item ∷ items) ≡ is_running items → is_unanswered k (item ∷ items) ≡ is_unanswered k items
unanswered_same k item items d a r =
    let drawn_too : is_drawn k (item ∷ items) ≡ is_drawn k items = is_drawn_more k item items d ∙ sym d in
    λ i. r i && drawn_too i && is_none (a i)

-- what is kept of a request stays

pub record IsSame (n : ℕ) (item : RpcItem) (items : List RpcItem) : Type 0 where
  pub sequence : sequence_of n (item ∷ items) ≡ sequence_of n items
  pub turn : turn_of n (item ∷ items) ≡ turn_of n items

abbrev pub followed_as : ℕ → Option ℕ → Id → Followed
followed_as n turn token = record { request = n; token = token; turn = turn }

pub found_same : (n : ℕ) (item : RpcItem) (items : List RpcItem) → IsSame n item items → option_map (followed_after n (item ∷ items)) (sequence_of n (item ∷ items)) ≡ option_map (followed_after n items) (sequence_of n items)
found_same n item items s = ap₂ (λ (t : Option ℕ) (o : Option Id). option_map (followed_as n t) o) s.turn s.sequence

-- an item that neither asks for a page of request n's sequence nor gives it up
pub record IsApart (n : ℕ) (item : RpcItem) (items : List RpcItem) : Type 0 where
  pub given : has_given_up n (item ∷ items) ≡ has_given_up n items
  pub turns : last_turn n (item ∷ items) ≡ last_turn n items
  pub answers : (k : ℕ) → answer_to k (item ∷ items) ≡ answer_to k items
  pub running : is_running (item ∷ items) ≡ is_running items

pub apart_same : (n : ℕ) (item : RpcItem) (items : List RpcItem) → IsApart n item items → IsSame n item items
apart_same n item items a = record {
  sequence = (let token = token_same n item items (a.answers n) in λ i. unless_over (a.given i || last i || not (a.running i)) (token i));
  turn = λ i. if turning i then a.turns i else None;
}
  where
    last_by : (t : Option ℕ) → turn_is_last t (item ∷ items) ≡ turn_is_last t items
    last_by (Some k) = ap is_last_page (a.answers k)
    last_by None = refl

    last : turn_is_last (last_turn n (item ∷ items)) (item ∷ items) ≡ turn_is_last (last_turn n items) items
    last = ap (λ (t : Option ℕ). turn_is_last t (item ∷ items)) a.turns ∙ last_by (last_turn n items)

    turning_by : (t : Option ℕ) → last_turn n items ≡ t → turn_is_unanswered t (item ∷ items) ≡ turn_is_unanswered t items
    turning_by (Some k) e = unanswered_same k item items (last_drawn n k items e) (a.answers k) a.running
    turning_by None e = refl

    turning : is_turning n (item ∷ items) ≡ is_turning n items
    turning = ap (λ (t : Option ℕ). turn_is_unanswered t (item ∷ items)) a.turns ∙ turning_by (last_turn n items) refl
