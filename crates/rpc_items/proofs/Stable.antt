-- Outcomes stay.
use Rattle.std.specs.Prelude.{if◌then◌else◌, not, ◌&&◌, nat_lt, nat_le, Bool, true, false, ◌⊎◌}
use Rattle.std.proofs.Common.{◌≡◌, ℕ, ◌≤◌, List, [], ◌∷◌, ◌++◌, refl, ◌∙◌, ap, inl, inr, arith, Option, Some, None, leb-true, le-leb, length-append, subst}
use Rattle.std.proofs.lemmas.Bool.{cases_Bool, and_parts, and_from}
use Rattle.wire_base.specs.Options.{or_else}
use Rattle.rpc_items.specs.declared.calls.Outcome.{Outcome}
use Rattle.rpc_items.specs.declared.calls.Outcome.TheVariants.{Replied, Failed, Lost, Starved}
use Rattle.rpc_items.specs.declared.messages.Message.TheVariants as message
use Rattle.rpc_items.specs.Ids.{same_id, numbered_id}
use Rattle.rpc_items.specs.Items.{RpcItem, Did, Got, End, is_running}
use Rattle.rpc_items.specs.Drawn.{asked, asked_by, drawn, is_drawn, is_forgotten}
use Rattle.rpc_items.specs.Outcomes.{Known, NoRequest, response_to, answer_to, look_at, outcome}
use Rattle.rpc_items.specs.Stable.{IsStable, IsFirst, IsReal, starved}

-- one more item

pub drawn_more : (item : RpcItem) (items : List RpcItem) → drawn items ≤ drawn (item ∷ items)
drawn_more item items = omega (arith, length-append (asked items) (asked_by item))

pub is_drawn_more : (n : ℕ) (item : RpcItem) (items : List RpcItem) → is_drawn n items ≡ true → is_drawn n (item ∷ items) ≡ true
is_drawn_more n item items e =
    let both = and_parts (nat_lt 0 n) (nat_le n (drawn items)) e in
    and_from (nat_lt 0 n) (nat_le n (drawn (item ∷ items))) both.0 (le-leb n (drawn (item ∷ items)) (let le = leb-true n (drawn items) both.1 in omega (arith, drawn_more item items)))

pub ended_more : (item : RpcItem) (items : List RpcItem) → is_running items ≡ false → is_running (item ∷ items) ≡ false
ended_more (Did call) items e = e
ended_more (Got place message) items e = e
ended_more (End cause) items e = refl

pub answer_more : (n : ℕ) (o : Outcome) (item : RpcItem) (items : List RpcItem) → answer_to n items ≡ Some o → answer_to n (item ∷ items) ≡ Some o
answer_more n o item items e = elim (is_running items && is_drawn n items) as (λ b. (if b then or_else (answer_to n items) (response_to n item) else answer_to n items) ≡ Some o) [
  | true ↦ ap (λ a. or_else a (response_to n item)) e
  | false ↦ e
]

pub no_answer_more : (n : ℕ) (item : RpcItem) (items : List RpcItem) → is_running items ≡ false → answer_to n (item ∷ items) ≡ answer_to n items
no_answer_more n item items e = ap (λ b. if b && is_drawn n items then or_else (answer_to n items) (response_to n item) else answer_to n items) e

-- a known answer, or an end without one, among newer items

pub record IsAnswered (n : ℕ) (o : Outcome) (items : List RpcItem) : Type 0 where
  pub drawn : is_drawn n items ≡ true
  pub answer : answer_to n items ≡ Some o

pub record IsLost (n : ℕ) (items : List RpcItem) : Type 0 where
  pub drawn : is_drawn n items ≡ true
  pub answer : answer_to n items ≡ None
  pub stops : is_running items ≡ false

pub answered_newer : (n : ℕ) (o : Outcome) (newer items : List RpcItem) → IsAnswered n o items → IsAnswered n o (newer ++ items)
answered_newer n o [] items a = a
answered_newer n o (item ∷ newer) items a =
    let on = answered_newer n o newer items a in
    record { drawn = is_drawn_more n item (newer ++ items) on.drawn; answer = answer_more n o item (newer ++ items) on.answer }

pub lost_newer : (n : ℕ) (newer items : List RpcItem) → IsLost n items → IsLost n (newer ++ items)
lost_newer n [] items l = l
lost_newer n (item ∷ newer) items l =
    let on = lost_newer n newer items l in
    record {
      drawn = is_drawn_more n item (newer ++ items) on.drawn;
      answer = no_answer_more n item (newer ++ items) on.stops ∙ on.answer;
      stops = ended_more item (newer ++ items) on.stops;
    }

-- outcomes

outcome_by : (n : ℕ) (items : List RpcItem) → is_drawn n items ≡ true
    → ((is_forgotten n items ≡ false) × (outcome false n items ≡ look_at (answer_to n items) (is_running items) false)) ⊎ ((is_forgotten n items ≡ true) × (outcome false n items ≡ NoRequest))
outcome_by n items d = elim (cases_Bool (is_forgotten n items)) [
  | inl e ↦ inr (
    e,
    ap (λ b. if is_drawn n items && not b then look_at (answer_to n items) (is_running items) false else NoRequest) e
        ∙ ap (λ b. if b && false then look_at (answer_to n items) (is_running items) false else NoRequest) d,
  )
  | inr e ↦ inl (
    e,
    ap (λ b. if is_drawn n items && not b then look_at (answer_to n items) (is_running items) false else NoRequest) e
        ∙ ap (λ b. if b && true then look_at (answer_to n items) (is_running items) false else NoRequest) d,
  )
]

answered_stable : (n : ℕ) (o : Outcome) (now : List RpcItem) → IsAnswered n o now → IsStable n now (Known o)
answered_stable n o now a = elim (outcome_by n now a.drawn) [
  | inl h ↦ inl (h.1 ∙ ap (λ answer. look_at answer (is_running now) false) a.answer)
  | inr h ↦ inr (h.1, h.0)
]

lost_stable : (n : ℕ) (now : List RpcItem) → IsLost n now → IsStable n now (Known Lost)
lost_stable n now l = elim (outcome_by n now l.drawn) [
  | inl h ↦ inl (h.1 ∙ (ap (λ answer. look_at answer (is_running now) false) l.answer ∙ ap (λ b. look_at None b false) l.stops))
  | inr h ↦ inr (h.1, h.0)
]

pub stable : (n : ℕ) (newer items : List RpcItem) → IsStable n (newer ++ items) (outcome false n items)
stable n newer items = by (is_drawn n items && not (is_forgotten n items)) refl
  where
    to : (answer : Option Outcome) (runs : Bool) → is_drawn n items ≡ true → answer_to n items ≡ answer → is_running items ≡ runs → IsStable n (newer ++ items) (look_at answer runs false)
    to (Some o) runs d a r = answered_stable n o (newer ++ items) (answered_newer n o newer items (record { drawn = d; answer = a }))
    to None true d a r = tt
    to None false d a r = lost_stable n (newer ++ items) (lost_newer n newer items (record { drawn = d; answer = a; stops = r }))

    by : (b : Bool) → (is_drawn n items && not (is_forgotten n items)) ≡ b → IsStable n (newer ++ items) (if b then look_at (answer_to n items) (is_running items) false else NoRequest)
    by true e = to (answer_to n items) (is_running items) (and_parts (is_drawn n items) (not (is_forgotten n items)) e).0 refl refl
    by false e = tt

-- a stop

pub stopping : (n : ℕ) (items : List RpcItem) → outcome true n items ≡ starved (outcome false n items)
stopping n items = by (is_drawn n items && not (is_forgotten n items))
  where
    to : (answer : Option Outcome) (runs : Bool) → look_at answer runs true ≡ starved (look_at answer runs false)
    to (Some o) runs = refl
    to None true = refl
    to None false = refl

    by : (b : Bool) → (if b then look_at (answer_to n items) (is_running items) true else NoRequest) ≡ starved (if b then look_at (answer_to n items) (is_running items) false else NoRequest)
    by true = to (answer_to n items) (is_running items)
    by false = refl

-- the answer is the first response

first_newer : (n : ℕ) (o : Outcome) (item : RpcItem) (items : List RpcItem) → IsFirst n o items → IsFirst n o (item ∷ items)
first_newer n o item items f = record { newer = item ∷ f.newer; item = f.item; older = f.older; are = ap (λ is. item ∷ is) f.are; says = f.says; drawn = f.drawn; runs = f.runs; none = f.none }

pub answer_first : (n : ℕ) (o : Outcome) (items : List RpcItem) → answer_to n items ≡ Some o → IsFirst n o items
answer_first n o [] e = cc
answer_first n o (item ∷ items) e = by (is_running items && is_drawn n items) refl (λ a. answer_first n o items a) e
  where
    of : (answer : Option Outcome) → answer_to n items ≡ answer → (is_running items && is_drawn n items) ≡ true → (answer_to n items ≡ Some o → IsFirst n o items) → or_else answer (response_to n item) ≡ Some o → IsFirst n o (item ∷ items)
    of (Some older) a both ih g = first_newer n o item items (ih (a ∙ g))
    of None a both ih g =
        let parts = and_parts (is_running items) (is_drawn n items) both in
        record { newer = []; item = item; older = items; are = refl; says = g; drawn = parts.1; runs = parts.0; none = a }

    by : (b : Bool) → (is_running items && is_drawn n items) ≡ b → (answer_to n items ≡ Some o → IsFirst n o items) → (if b then or_else (answer_to n items) (response_to n item) else answer_to n items) ≡ Some o → IsFirst n o (item ∷ items)
    by true both ih g = of (answer_to n items) refl both ih g
    by false both ih g = first_newer n o item items (ih g)

-- a response is a result or an error

abbrev Content : Outcome → Type 0
Content (Replied value) = Unit {0}
Content (Failed code text more) = Unit {0}
Content Lost = ⊥
Content Starved = ⊥

content_if : (b : Bool) (response o : Outcome) → Content response → (if b then Some response else None) ≡ Some o → Content o
content_if true response o c e = subst Content (cc e) c
content_if false response o c e = absurd (cc e)

response_content : (n : ℕ) (item : RpcItem) (o : Outcome) → response_to n item ≡ Some o → Content o
response_content n (Got place (message.Result id value)) o e = content_if (same_id id (numbered_id n)) (Replied value) o tt e
response_content n (Got place (message.Error (Some id) code text more)) o e = content_if (same_id id (numbered_id n)) (Failed code text more) o tt e
response_content n item o e = absurd (cc e)

pub real : (stopped : Bool) (n : ℕ) (items : List RpcItem) → IsReal stopped n items (outcome stopped n items)
real stopped n items = by (is_drawn n items && not (is_forgotten n items))
  where
    first : (o : Outcome) → IsFirst n o items → IsReal stopped n items (Known o)
    first (Replied value) f = f
    first (Failed code text more) f = f
    first Lost f = absurd (response_content n f.item Lost f.says)
    first Starved f = absurd (response_content n f.item Starved f.says)

    to : (answer : Option Outcome) (runs stops : Bool) → answer_to n items ≡ answer → is_running items ≡ runs → stopped ≡ stops → IsReal stopped n items (look_at answer runs stops)
    to (Some o) runs stops a r s = first o (answer_first n o items a)
    to None true true a r s = (s, r, a)
    to None true false a r s = tt
    to None false stops a r s = (r, a)

    by : (b : Bool) → IsReal stopped n items (if b then look_at (answer_to n items) (is_running items) stopped else NoRequest)
    by true = to (answer_to n items) (is_running items) stopped refl refl refl
    by false = tt
