-- A side applies one item after the other, up to where its step leads.
use Rattle.std.specs.Prelude.{true, zero, suc}
use Rattle.std.proofs.Common.{◌≡◌, ℕ, ◌+◌, ◌<◌, List, ◌∷◌, refl, sym, ◌∙◌, ap, arith, Option, Some, None}
use Rattle.mux_items.specs.Items.{is_running}
use Rattle.mux_run.specs.Fed.{LieWithin}
use Rattle.mux_run.specs.Run.{RunSide, Terms, SideTerms, terms_at_a, terms_at_b}
use Rattle.mux_run.specs.declared.steps.Side.{Side}
use Rattle.mux_run.specs.declared.steps.Side.TheVariants.{A, B}
use Rattle.endpoint_items.specs.Items.{EndItem}
use Rattle.endpoint_items.specs.Layers.{mux_of}
use Rattle.endpoint_run.specs.Next.{next_item, with_next, settled_in, bytes_left}
use Rattle.endpoint_run.specs.Run.{EndSide, EndWorld, EndStep, mux_side, begun, side_of, end_run}
use Rattle.endpoint_run.specs.Midway.{all_applied, IsMidway, GoesOn, BeginsMidway}
use Rattle.endpoint_run.proofs.Boundary.{run_side}
use Rattle.endpoint_run.proofs.Turns.{if_some}
use Rattle.endpoint_run.proofs.Underway.{IsUnderway, GoesOnWith, underway_next, underway_begun, underway_lies}
use Rattle.endpoint_run.proofs.Settling.{settles, stays, turns_enough}
use Rattle.endpoint_run.proofs.Settled.{AreUnderway, underway_a, underway_b, run_underway}

-- by what the finer steps gave the other side

underway : (w : SideTerms) (given : ℕ) (y : RunSide) (items : List EndItem) (h : IsMidway w given y items) → IsUnderway w given (run_side y.items h.peer) items
underway w given y items h = record {
  fine = h.own;
  joined = h.joined;
  applied = record { boundary = record { at = h.exact; waits = h.waits }; within = h.within; allowed = h.allowed; most = h.most };
}

midway : (w : SideTerms) (given : ℕ) (y : RunSide) (peer : ℕ) (items : List EndItem) → IsUnderway w given (run_side y.items peer) items → IsMidway w given y items
midway w given y peer items u = record {
  own = u.fine;
  peer = peer;
  joined = u.joined;
  exact = u.applied.boundary.at;
  waits = u.applied.boundary.waits;
  within = u.applied.within;
  allowed = u.applied.allowed;
  most = u.applied.most;
}

-- one more item

leads_same : (w : SideTerms) (given : ℕ) (y : RunSide) (item : EndItem) (items : List EndItem) → next_item w given y items ≡ Some item → (fewer turns : ℕ) → fewer < turns
    → next_item w given y (settled_in w given y fewer (item ∷ items)) ≡ None → settled_in w given y fewer (item ∷ items) ≡ settled_in w given y turns items
leads_same w given y item items e fewer zero less none = absurd (omega (arith, less))
leads_same w given y item items e fewer (suc turns) less none =
    let first : settled_in w given y (suc turns) items ≡ settled_in w given y turns (item ∷ items) = ap (λ next. with_next next items (λ item. settled_in w given y turns (item ∷ items))) e in
    sym (first ∙ turns_enough w given y fewer turns (item ∷ items) (omega (arith, less)) none)

pub goes_on : (w : SideTerms) (given : ℕ) (y : RunSide) (item : EndItem) (items : List EndItem) → IsMidway w given y items → next_item w given y items ≡ Some item → GoesOn w given y items item
goes_on w given y item items h e =
    let o = run_side y.items h.peer in
    let on = if_some (GoesOnWith w given o items) (next_item w given o items) item e (underway_next w given o items (underway w given y items h)) in
    record {
      midway = midway w given y h.peer (item ∷ items) on.underway;
      smaller = on.smaller;
      same = leads_same w given y item items e (bytes_left w given (item ∷ items)) (bytes_left w given items) on.smaller (settles w given o (bytes_left w given (item ∷ items)) (item ∷ items) on.underway (omega arith));
    }

pub all_is_applied : (w : SideTerms) (given : ℕ) (y : RunSide) (items : List EndItem) → next_item w given y items ≡ None → all_applied w given y items ≡ items
all_is_applied w given y items e = stays w given y (bytes_left w given items) items e

-- one turn more is one item more
one_turn : (w : SideTerms) (given : ℕ) (y : RunSide) (turns : ℕ) (item : EndItem) (items : List EndItem) → next_item w given y (settled_in w given y turns items) ≡ Some item
    → settled_in w given y (suc turns) items ≡ item ∷ settled_in w given y turns items
one_turn w given y zero item items e = ap (λ next. with_next next items (λ item. item ∷ items)) e
one_turn w given y (suc turns) item items e = by (next_item w given y items) refl (λ first. one_turn w given y turns item (first ∷ items)) e
  where
    by : (next : Option EndItem) → next_item w given y items ≡ next
        → ((first : EndItem) → next_item w given y (settled_in w given y turns (first ∷ items)) ≡ Some item → settled_in w given y (suc turns) (first ∷ items) ≡ item ∷ settled_in w given y turns (first ∷ items))
        → next_item w given y (with_next next items (λ first. settled_in w given y turns (first ∷ items))) ≡ Some item
        → with_next next items (λ first. settled_in w given y (suc turns) (first ∷ items)) ≡ item ∷ with_next next items (λ first. settled_in w given y turns (first ∷ items))
    by (Some first) none more e = more first e
    by None none more e = cc (none, e)

pub turn_more : (w : SideTerms) (given : ℕ) (y : RunSide) (turns : ℕ) (item : EndItem) (items : List EndItem) → next_item w given y (settled_in w given y turns items) ≡ Some item
    → settled_in w given y (turns + 1) items ≡ item ∷ settled_in w given y turns items
turn_more w given y turns item items e =
    let more : turns + 1 ≡ suc turns = omega arith in
    ap (λ n. settled_in w given y n items) more ∙ one_turn w given y turns item items e

pub midway_lies : (w : SideTerms) (given : ℕ) (y : RunSide) (items : List EndItem) → IsMidway w given y items → is_running (mux_of w.version items) ≡ true → LieWithin w given (mux_of w.version items) y
midway_lies w given y items h runs =
    let lie = underway_lies w given (run_side y.items h.peer) items (underway w given y items h) runs in
    record { greeted = lie.greeted; waits = lie.waits; within = lie.within }

-- what a step of this side begins with
pub begun_midway : (w : SideTerms) (s : EndStep) (x y : EndSide) → IsMidway w x.delivered (mux_side w.version y) x.items → IsMidway w (begun w s x y).delivered (mux_side w.version y) (begun w s x y).items
begun_midway w s x y h =
    let o = mux_side w.version y in
    let b = begun w s x y in
    midway w b.delivered o h.peer b.items (underway_begun w s x y h.peer (underway w x.delivered o x.items h))

-- the sides of a run

pub midway_a : (terms : Terms) (steps : List EndStep) → IsMidway (terms_at_a terms) (end_run terms steps).a.delivered (mux_side terms.version (end_run terms steps).b) (end_run terms steps).a.items
midway_a terms steps =
    let w = end_run terms steps in
    let h = run_underway terms steps in
    midway (terms_at_a terms) w.a.delivered (mux_side terms.version w.b) h.fine_b w.a.items (underway_a terms w h)

pub midway_b : (terms : Terms) (steps : List EndStep) → IsMidway (terms_at_b terms) (end_run terms steps).b.delivered (mux_side terms.version (end_run terms steps).a) (end_run terms steps).b.items
midway_b terms steps =
    let w = end_run terms steps in
    let h = run_underway terms steps in
    midway (terms_at_b terms) w.b.delivered (mux_side terms.version w.a) h.fine_a w.b.items (underway_b terms w h)

-- a step of a run

begins_at : (terms : Terms) (side : Side) (s : EndStep) (w : EndWorld) → AreUnderway terms w → BeginsMidway terms side s w
begins_at terms A s w h =
    let at = terms_at_a terms in
    let b = begun at s w.a w.b in
    midway at b.delivered (mux_side terms.version w.b) h.fine_b b.items (underway_begun at s w.a w.b h.fine_b (underway_a terms w h))
begins_at terms B s w h =
    let at = terms_at_b terms in
    let b = begun at s w.b w.a in
    midway at b.delivered (mux_side terms.version w.a) h.fine_a b.items (underway_begun at s w.b w.a h.fine_a (underway_b terms w h))

pub begins_midway : (terms : Terms) (steps : List EndStep) (s : EndStep) → BeginsMidway terms (side_of s) s (end_run terms steps)
begins_midway terms steps s = begins_at terms (side_of s) s (end_run terms steps) (run_underway terms steps)
