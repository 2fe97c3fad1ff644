-- Which items steps of one multiplexing end reach, each time with just what was given applied.
use Rattle.std.specs.Prelude.{true}
use Rattle.std.proofs.Common.{◌≡◌, ℕ, List, [], ◌∷◌, ◌++◌, refl, ◌∙◌, ap, subst}
use Rattle.wire_base.specs.declared.state.Cause.TheVariants as cause
use Rattle.mux_items.specs.declared.call.Call.{Call}
use Rattle.mux_items.specs.Calls.{called}
use Rattle.mux_items.specs.Items.{Item, End, is_running}
use Rattle.mux_run.specs.Run.{RunSide, SideTerms, stopped, side_after, side_of}
use Rattle.mux_run.specs.Linked.{Joined}
use Rattle.mux_run.specs.Spending.{RunStep, Makes, Spends}
use Rattle.mux_run.specs.declared.steps.Side.{Side}
use Rattle.mux_run.specs.declared.steps.Step.TheVariants as step
use Rattle.mux_run.proofs.Links.{side_after_joined, stopped_joined}
use Rattle.endpoint_items.specs.Following.{followed}
use Rattle.endpoint_run.proofs.Boundary.{run_side, AtBoundary, called_boundary, call_fine, stopped_now, end_boundary}

-- what a step makes of its side x
abbrev pub x_after_one : SideTerms → RunStep → RunSide → RunSide → RunSide
x_after_one w (Makes s) x y = side_after w s x y
x_after_one w (Spends side) x y = stopped cause.Spent x

-- and these steps, one after the other
abbrev pub x_after : SideTerms → List RunStep → RunSide → RunSide → RunSide
x_after w [] x y = x
x_after w (s ∷ steps) x y = x_after w steps (x_after_one w s x y) y

pub x_after-append : (w : SideTerms) (ss ts : List RunStep) (x y : RunSide) → x_after w (ss ++ ts) x y ≡ x_after w ts (x_after w ss x y) y
x_after-append w [] ts x y = refl
x_after-append w (s ∷ ss) ts x y = x_after-append w ss ts (x_after_one w s x y) y

one_joined : (w : SideTerms) (s : RunStep) (x y : RunSide) → Joined w x y → Joined w (x_after_one w s x y) y
one_joined w (Makes s) x y j = side_after_joined w s x y j
one_joined w (Spends side) x y j = stopped_joined w cause.Spent x y j

pub x_after_joined : (w : SideTerms) (ss : List RunStep) (x y : RunSide) → Joined w x y → Joined w (x_after w ss x y) y
x_after_joined w [] x y j = j
x_after_joined w (s ∷ ss) x y j = x_after_joined w ss (x_after_one w s x y) y (one_joined w s x y j)

-- the side at which a step is made
abbrev pub side_at : RunStep → Side
side_at (Makes s) = side_of s
side_at (Spends side) = side

abbrev pub Each : Side → List RunStep → Type 0
Each side [] = Unit {0}
Each side (s ∷ ss) = (side_at s ≡ side) × Each side ss

each-append : (side : Side) (ss ts : List RunStep) → Each side ss → Each side ts → Each side (ss ++ ts)
each-append side [] ts p q = q
each-append side (s ∷ ss) ts p q = (p.0, each-append side ss ts p.1 q)

-- steps of this side lead from the items m to the items after
pub record IsReached (side : Side) (w : SideTerms) (n : RunSide) (m after : List Item) (d : ℕ) : Type 0 where
  pub steps : List RunStep
  pub at_side : Each side steps
  pub given : ℕ
  pub reaches : x_after w steps (run_side m d) n ≡ run_side after given
  pub boundary : AtBoundary w after given

abbrev pub Reach : Side → SideTerms → RunSide → List Item → List Item → Type 0
Reach side w n m after = (d : ℕ) → Joined w (run_side m d) n → AtBoundary w m d → IsReached side w n m after d

pub reach_same : (side : Side) (w : SideTerms) (n : RunSide) (m : List Item) → Reach side w n m m
reach_same side w n m d j b = record { steps = []; at_side = tt; given = d; reaches = refl; boundary = b }

pub reach_more : (side : Side) (w : SideTerms) (n : RunSide) (m1 m2 m3 : List Item) → Reach side w n m1 m2 → Reach side w n m2 m3 → Reach side w n m1 m3
reach_more side w n m1 m2 m3 p q d j b =
    let one = p d j b in
    let two = q one.given (subst (λ x. Joined w x n) one.reaches (x_after_joined w one.steps (run_side m1 d) n j)) one.boundary in
    record {
      steps = one.steps ++ two.steps;
      at_side = each-append side one.steps two.steps one.at_side two.at_side;
      given = two.given;
      reaches = x_after-append w one.steps two.steps (run_side m1 d) n ∙ (ap (λ x. x_after w two.steps x n) one.reaches ∙ two.reaches);
      boundary = two.boundary;
    }

pub reach_call : (side : Side) (w : SideTerms) (n : RunSide) (m : List Item) (c : Call) → Reach side w n m (called w.version c m)
reach_call side w n m c d j b = record {
  steps = Makes (step.Call side c) ∷ [];
  at_side = (refl, tt);
  given = d;
  reaches = call_fine w side c m d n j b;
  boundary = called_boundary w c m d b;
}

pub reach_calls : (side : Side) (w : SideTerms) (n : RunSide) (m : List Item) (calls : List Call) → Reach side w n m (followed w.version calls m)
reach_calls side w n m [] = reach_same side w n m
reach_calls side w n m (c ∷ calls) = reach_more side w n m (called w.version c m) (followed w.version calls (called w.version c m)) (reach_call side w n m c) (reach_calls side w n (called w.version c m) calls)

pub reach_end : (side : Side) (w : SideTerms) (n : RunSide) (m : List Item) → is_running m ≡ true → Reach side w n m (End cause.InputEnded ∷ m)
reach_end side w n m runs d j b = record {
  steps = Makes (step.End side) ∷ [];
  at_side = (refl, tt);
  given = d;
  reaches = stopped_now cause.InputEnded m d runs;
  boundary = end_boundary w cause.InputEnded m d b;
}

pub reach_spend : (side : Side) (w : SideTerms) (n : RunSide) (m : List Item) → is_running m ≡ true → Reach side w n m (End cause.Spent ∷ m)
reach_spend side w n m runs d j b = record {
  steps = Spends side ∷ [];
  at_side = (refl, tt);
  given = d;
  reaches = stopped_now cause.Spent m d runs;
  boundary = end_boundary w cause.Spent m d b;
}
