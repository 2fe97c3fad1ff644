-- The two sides of every run hang together.
use Rattle.std.specs.Prelude.{if◌then◌else◌, not, Bool, true, false}
use Rattle.std.proofs.Common.{◌≡◌, ℕ, ◌+◌, ◌≤◌, List, [], ◌∷◌, ◌++◌, length, map, refl, ap, arith, length-append, length-drop}
use Rattle.wire_base.specs.declared.state.Cause.{Cause}
use Rattle.wire_base.specs.declared.state.Cause.TheVariants as cause
use Rattle.mux_items.specs.Bodies.{flip, frame_texts}
use Rattle.mux_items.specs.Items.{Item, End, is_running}
use Rattle.mux_items.specs.Calls.{called}
use Rattle.mux_run.specs.Run.{RunSide, World, Terms, SideTerms, terms_at_a, terms_at_b, turned, out, settled, added, is_spent, delivered_to, stopped, side_after, side_of, happens_at, happens, fresh, start, run_from, run}
use Rattle.mux_run.specs.Between.{ahead, Between}
use Rattle.mux_run.specs.Linked.{Linked, Joined}
use Rattle.mux_run.specs.Spending.{RunStep, Makes, Spends, spent_at, comes, come_from, run_through}
use Rattle.mux_run.specs.declared.steps.Side.{Side}
use Rattle.mux_run.specs.declared.steps.Side.TheVariants.{A, B}
use Rattle.mux_items.specs.declared.call.Call.{Call}
use Rattle.mux_run.specs.declared.steps.Step.{Step}
use Rattle.mux_run.specs.declared.steps.Step.TheVariants as step
use Rattle.mux_run.proofs.Growing.{Grown, Advances, settled_advances, called_grown, end_grown, sent_grows, out-more}
use Rattle.mux_run.proofs.Between.{between_after}

pub joined_between : (w : SideTerms) (x y : RunSide) → Joined w x y → Between w.version x.items y.items
joined_between w x y j = record { into = j.into.applied; back = j.back.applied; allowed = j.into.allowed; allowed_peer = j.back.allowed }

-- a step of x

joined_after : (w : SideTerms) (x y : RunSide) (after : List Item) (delivered : ℕ) → Joined w x y → delivered ≤ length (out w.version w.peer y.items) → Advances w.version x.items after (ahead w.version x.items y.items)
    → Joined w (record { items = after; delivered = delivered }) y
joined_after w x y after delivered j bound a =
    let b = (between_after w.version x.items y.items after a.done a.left (joined_between w x y j) a.are a.grown).0 in
    let on = sent_grows w.version x.items after (map flip a.done) a.grown in
    record {
      into = record { applied = b.into; bound = bound; allowed = b.allowed };
      back = record {
        applied = b.back;
        bound = omega (arith, j.back.bound, ap length (out-more w.version w.own x.items after on.0 on.1), length-append (out w.version w.own x.items) (frame_texts w.version on.0));
        allowed = b.allowed_peer;
      };
    }

joined_grown : (w : SideTerms) (x y : RunSide) (after : List Item) → Joined w x y → Grown w.version x.items after [] → Joined w (record { items = after; delivered = x.delivered }) y
joined_grown w x y after j g = joined_after w x y after x.delivered j j.into.bound (record { done = []; left = ahead w.version x.items y.items; are = refl; grown = g })

pub called_joined : (w : SideTerms) (c : Call) (x y : RunSide) → Joined w x y → Joined w (record { items = called w.version c x.items; delivered = x.delivered }) y
called_joined w c x y j = joined_grown w x y (called w.version c x.items) j (called_grown w.version c x.items)

pub settled_joined : (w : SideTerms) (delivered : ℕ) (x y : RunSide) → Joined w x y → delivered ≤ length (out w.version w.peer y.items) → Joined w (settled w delivered x.items y) y
settled_joined w delivered x y j bound = joined_after w x y (settled w delivered x.items y).items delivered j bound (settled_advances w delivered x.items y (ahead w.version x.items y.items) j.into.applied)

-- a delivery ends within what was emitted
pub delivery_bound : (w : SideTerms) (n : ℕ) (x y : RunSide) → x.delivered ≤ length (out w.version w.peer y.items) → x.delivered + added w n x y ≤ length (out w.version w.peer y.items)
delivery_bound w n x y h = omega (arith, length-drop x.delivered (out w.version w.peer y.items))

pub delivered_joined : (w : SideTerms) (n : ℕ) (x y : RunSide) → Joined w x y → Joined w (delivered_to w n x y) y
delivered_joined w n x y j = by (is_running x.items) refl
  where
    within : (b : Bool) → is_running x.items ≡ true → Joined w (if b then record { items = End cause.Spent ∷ x.items; delivered = x.delivered } else settled w (x.delivered + added w n x y) x.items y) y
    within true runs = joined_grown w x y (End cause.Spent ∷ x.items) j (end_grown w.version cause.Spent x.items runs)
    within false runs = settled_joined w (x.delivered + added w n x y) x y j (delivery_bound w n x y j.into.bound)

    by : (b : Bool) → is_running x.items ≡ b → Joined w (if not b then x else if is_spent w n x y then record { items = End cause.Spent ∷ x.items; delivered = x.delivered } else settled w (x.delivered + added w n x y) x.items y) y
    by true runs = within (is_spent w n x y) runs
    by false runs = j

pub stopped_joined : (w : SideTerms) (cause : Cause) (x y : RunSide) → Joined w x y → Joined w (stopped cause x) y
stopped_joined w cause x y j = by (is_running x.items) refl
  where
    by : (b : Bool) → is_running x.items ≡ b → Joined w (if b then record { items = End cause ∷ x.items; delivered = x.delivered } else x) y
    by true runs = joined_grown w x y (End cause ∷ x.items) j (end_grown w.version cause x.items runs)
    by false runs = j

-- a step of x keeps both ways
pub side_after_joined : (w : SideTerms) (s : Step) (x y : RunSide) → Joined w x y → Joined w (side_after w s x y) y
side_after_joined w (step.Call side c) x y j =
    let called_side : RunSide = record { items = called w.version c x.items; delivered = x.delivered } in
    let on = called_joined w c x y j in
    settled_joined w x.delivered called_side y on on.into.bound
side_after_joined w (step.Deliver side n) x y j = delivered_joined w n x y j
side_after_joined w (step.End side) x y j = stopped_joined w cause.InputEnded x y j

-- the same sides, as the other side sees them
pub turned_joined : (w : SideTerms) (x y : RunSide) → Joined w x y → Joined (turned w) y x
turned_joined w x y j = record { into = j.back; back = j.into }

-- runs

pub happens_joined : (terms : Terms) (s : Step) (side : Side) (w : World) → Joined (terms_at_a terms) w.a w.b → Joined (terms_at_a terms) (happens_at terms side s w).a (happens_at terms side s w).b
happens_joined terms s A w j = side_after_joined (terms_at_a terms) s w.a w.b j
happens_joined terms s B w j = turned_joined (terms_at_b terms) (side_after (terms_at_b terms) s w.b w.a) w.a (side_after_joined (terms_at_b terms) s w.b w.a (turned_joined (terms_at_a terms) w.a w.b j))

pub spent_joined : (terms : Terms) (side : Side) (w : World) → Joined (terms_at_a terms) w.a w.b → Joined (terms_at_a terms) (spent_at side w).a (spent_at side w).b
spent_joined terms A w j = stopped_joined (terms_at_a terms) cause.Spent w.a w.b j
spent_joined terms B w j = turned_joined (terms_at_b terms) (stopped cause.Spent w.b) w.a (stopped_joined (terms_at_b terms) cause.Spent w.b w.a (turned_joined (terms_at_a terms) w.a w.b j))

pub comes_joined : (terms : Terms) (s : RunStep) (w : World) → Joined (terms_at_a terms) w.a w.b → Joined (terms_at_a terms) (comes terms s w).a (comes terms s w).b
comes_joined terms (Makes s) w j = happens_joined terms s (side_of s) w j
comes_joined terms (Spends side) w j = spent_joined terms side w j

come_from_joined : (terms : Terms) (w : World) (steps : List RunStep) → Joined (terms_at_a terms) w.a w.b → Joined (terms_at_a terms) (come_from terms w steps).a (come_from terms w steps).b
come_from_joined terms w [] j = j
come_from_joined terms w (s ∷ steps) j = come_from_joined terms (comes terms s w) steps (comes_joined terms s w j)

pub fresh_linked : (w : SideTerms) → Linked w fresh fresh
fresh_linked w = record { applied = refl; bound = omega arith; allowed = tt }

pub fresh_joined : (w : SideTerms) → Joined w fresh fresh
fresh_joined w = record { into = fresh_linked w; back = fresh_linked (turned w) }

pub through_joined : (terms : Terms) (steps : List RunStep) → Joined (terms_at_a terms) (run_through terms steps).a (run_through terms steps).b
through_joined terms steps = come_from_joined terms start steps (fresh_joined (terms_at_a terms))

-- a run in which neither side is spent

come_made : (terms : Terms) (w : World) (steps : List Step) → come_from terms w (map Makes steps) ≡ run_from terms w steps
come_made terms w [] = refl
come_made terms w (s ∷ steps) = come_made terms (happens terms s w) steps

pub through_made : (terms : Terms) (steps : List Step) → run_through terms (map Makes steps) ≡ run terms steps
through_made terms steps = come_made terms start steps

-- one more step at the end

pub come_from-push : (terms : Terms) (w : World) (steps : List RunStep) (s : RunStep) → come_from terms w (steps ++ s ∷ []) ≡ comes terms s (come_from terms w steps)
come_from-push terms w [] s = refl
come_from-push terms w (t ∷ steps) s = come_from-push terms (comes terms t w) steps s
