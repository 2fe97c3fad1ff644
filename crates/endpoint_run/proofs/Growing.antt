-- Items are only added, from each moment of a run to each later one.
use Rattle.std.specs.Prelude.{if◌then◌else◌, not, Bool, true, false, zero, suc}
use Rattle.std.proofs.Common.{◌≡◌, ℕ, ◌+◌, ◌≤◌, arith, List, [], ◌∷◌, ◌++◌, refl, sym, ◌∙◌, ap, subst, append_assoc, Option, Some, None}
use Rattle.wire_base.specs.declared.refusal.Refusal.{Refusal}
use Rattle.wire_base.specs.declared.state.Cause.TheVariants as cause
use Rattle.wire_base.specs.declared.frame.Version.{Version}
use Rattle.mux_items.specs.Items.{End}
use Rattle.mux_run.specs.Run.{RunSide, Terms, SideTerms, terms_at_a, terms_at_b, added, is_spent}
use Rattle.mux_run.specs.declared.steps.Side.{Side}
use Rattle.mux_run.specs.declared.steps.Side.TheVariants.{A, B}
use Rattle.endpoint_items.specs.Items.{EndItem, Mux}
use Rattle.endpoint_items.specs.Calls.{EndCall, call_refusal, item_of, unless_refused, called}
use Rattle.endpoint_run.specs.Next.{next_item, with_next, settled_in}
use Rattle.endpoint_run.specs.Run.{EndSide, EndWorld, EndStep, Calls, Delivers, Ends, mux_side, runs, with_item, begun, side_in, turns_of, side_of, happens_at, happens, in_step_at, in_step, start, run_from, end_run}
use Rattle.endpoint_run.specs.Moments.{IsNewer, HasGrown}

newer_same : (items : List EndItem) → IsNewer items items
newer_same items = ([], refl)

newer_more : (xs ys zs : List EndItem) → IsNewer xs ys → IsNewer ys zs → IsNewer xs zs
newer_more xs ys zs p q = (q.0 ++ p.0, q.1 ∙ (ap (λ ys. q.0 ++ ys) p.1 ∙ sym (append_assoc q.0 p.0 xs)))

-- a turn more

settled_newer : (w : SideTerms) (given : ℕ) (y : RunSide) (turns : ℕ) (items : List EndItem) → IsNewer items (settled_in w given y turns items)
settled_newer w given y zero items = newer_same items
settled_newer w given y (suc turns) items = by (next_item w given y items) (λ item. settled_newer w given y turns (item ∷ items))
  where
    by : (next : Option EndItem) → ((item : EndItem) → IsNewer (item ∷ items) (settled_in w given y turns (item ∷ items)))
        → IsNewer items (with_next next items (λ item. settled_in w given y turns (item ∷ items)))
    by (Some item) ih = newer_more items (item ∷ items) (settled_in w given y turns (item ∷ items)) (item ∷ [], refl) (ih item)
    by None ih = newer_same items

turns_newer : (w : SideTerms) (given : ℕ) (y : RunSide) (fewer turns : ℕ) (items : List EndItem) → fewer ≤ turns → IsNewer (settled_in w given y fewer items) (settled_in w given y turns items)
turns_newer w given y zero turns items h = settled_newer w given y turns items
turns_newer w given y (suc fewer) zero items h = absurd (omega (arith, h))
turns_newer w given y (suc fewer) (suc turns) items h = by (next_item w given y items) (λ item. turns_newer w given y fewer turns (item ∷ items) (omega (arith, h)))
  where
    by : (next : Option EndItem) → ((item : EndItem) → IsNewer (settled_in w given y fewer (item ∷ items)) (settled_in w given y turns (item ∷ items)))
        → IsNewer (with_next next items (λ item. settled_in w given y fewer (item ∷ items))) (with_next next items (λ item. settled_in w given y turns (item ∷ items)))
    by (Some item) ih = ih item
    by None ih = newer_same items

-- a step of x

called_newer : (v : Version) (c : EndCall) (items : List EndItem) → IsNewer items (called v c items)
called_newer v c items = by (call_refusal v c items)
  where
    by : (r : Option Refusal) → IsNewer items (unless_refused r (item_of v c items) items)
    by (Some refusal) = newer_same items
    by None = (item_of v c items ∷ [], refl)

begun_newer : (w : SideTerms) (s : EndStep) (x y : EndSide) → IsNewer x.items (begun w s x y).items
begun_newer w (Calls side c) x y = called_newer w.version c x.items
begun_newer w (Delivers side n) x y = by (runs w.version x) (is_spent w n (mux_side w.version x) (mux_side w.version y))
  where
    by : (running spent : Bool) → IsNewer x.items (if not running then x
        else if spent then with_item (Mux (End cause.Spent)) x
        else record { items = x.items; delivered = x.delivered + added w n (mux_side w.version x) (mux_side w.version y) }).items
    by true true = (Mux (End cause.Spent) ∷ [], refl)
    by true false = newer_same x.items
    by false spent = newer_same x.items
begun_newer w (Ends side) x y = elim (runs w.version x) as (λ b. IsNewer x.items (if b then with_item (Mux (End cause.InputEnded)) x else x).items) [
  | true ↦ (Mux (End cause.InputEnded) ∷ [], refl)
  | false ↦ newer_same x.items
]

pub side_newer : (w : SideTerms) (turns : ℕ) (s : EndStep) (x y : EndSide) → IsNewer x.items (side_in w turns s x y).items
side_newer w turns s x y =
    let b = begun w s x y in
    newer_more x.items b.items (side_in w turns s x y).items (begun_newer w s x y) (settled_newer w b.delivered (mux_side w.version y) turns b.items)

-- both sides

same_grown : (w : EndWorld) → HasGrown w w
same_grown w = record { a = newer_same w.a.items; b = newer_same w.b.items }

pub more_grown : (u v w : EndWorld) → HasGrown u v → HasGrown v w → HasGrown u w
more_grown u v w p q = record { a = newer_more u.a.items v.a.items w.a.items p.a q.a; b = newer_more u.b.items v.b.items w.b.items p.b q.b }

step_grown_at : (terms : Terms) (turns : ℕ) (side : Side) (s : EndStep) (w : EndWorld) → HasGrown w (in_step_at terms turns side s w)
step_grown_at terms turns A s w = record { a = side_newer (terms_at_a terms) turns s w.a w.b; b = newer_same w.b.items }
step_grown_at terms turns B s w = record { a = newer_same w.a.items; b = side_newer (terms_at_b terms) turns s w.b w.a }

-- within a step
pub step_grown : (terms : Terms) (turns : ℕ) (s : EndStep) (w : EndWorld) → HasGrown w (in_step terms turns s w)
step_grown terms turns s w = step_grown_at terms turns (side_of s) s w

turns_newer_in : (w : SideTerms) (fewer turns : ℕ) (s : EndStep) (x y : EndSide) → fewer ≤ turns → IsNewer (side_in w fewer s x y).items (side_in w turns s x y).items
turns_newer_in w fewer turns s x y h =
    let b = begun w s x y in
    turns_newer w b.delivered (mux_side w.version y) fewer turns b.items h

turns_grown_at : (terms : Terms) (fewer turns : ℕ) (side : Side) (s : EndStep) (w : EndWorld) → fewer ≤ turns → HasGrown (in_step_at terms fewer side s w) (in_step_at terms turns side s w)
turns_grown_at terms fewer turns A s w h = record { a = turns_newer_in (terms_at_a terms) fewer turns s w.a w.b h; b = newer_same w.b.items }
turns_grown_at terms fewer turns B s w h = record { a = newer_same w.a.items; b = turns_newer_in (terms_at_b terms) fewer turns s w.b w.a h }

pub turns_grown : (terms : Terms) (fewer turns : ℕ) (s : EndStep) (w : EndWorld) → fewer ≤ turns → HasGrown (in_step terms fewer s w) (in_step terms turns s w)
turns_grown terms fewer turns s w h = turns_grown_at terms fewer turns (side_of s) s w h

happens_grown : (terms : Terms) (side : Side) (s : EndStep) (w : EndWorld) → HasGrown w (happens_at terms side s w)
happens_grown terms A s w = step_grown_at terms (turns_of (terms_at_a terms) s w.a w.b) A s w
happens_grown terms B s w = step_grown_at terms (turns_of (terms_at_b terms) s w.b w.a) B s w

run_from_grown : (terms : Terms) (w : EndWorld) (steps : List EndStep) → HasGrown w (run_from terms w steps)
run_from_grown terms w [] = same_grown w
run_from_grown terms w (s ∷ steps) =
    let next = happens terms s w in
    more_grown w next (run_from terms next steps) (happens_grown terms (side_of s) s w) (run_from_grown terms next steps)

pub run_from-append : (terms : Terms) (w : EndWorld) (steps more : List EndStep) → run_from terms w (steps ++ more) ≡ run_from terms (run_from terms w steps) more
run_from-append terms w [] more = refl
run_from-append terms w (s ∷ steps) more = run_from-append terms (happens terms s w) steps more

-- from step to step
pub run_grown : (terms : Terms) (steps more : List EndStep) → HasGrown (end_run terms steps) (end_run terms (steps ++ more))
run_grown terms steps more = subst (HasGrown (end_run terms steps)) (sym (run_from-append terms start steps more)) (run_from_grown terms (end_run terms steps) more)
