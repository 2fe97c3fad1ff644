-- Every run of two ends is, at their multiplexing ends, a run of finer steps, at each of its moments.
use Rattle.std.specs.Prelude.{if◌then◌else◌}
use Rattle.std.proofs.Common.{◌≡◌, ℕ, ◌+◌, ◌≤◌, List, [], ◌∷◌, ◌++◌, length, refl, ◌∙◌, ap, subst, arith}
use Rattle.wire_base.specs.declared.frame.Version.{Version}
use Rattle.wire_base.specs.declared.frame.Version.TheVariants as version
use Rattle.frame_text.specs.Hello.{hello}
use Rattle.mux_items.specs.Bodies.{frame_texts}
use Rattle.mux_items.specs.Limits.{most_bytes}
use Rattle.mux_items.specs.Refusals.{is_ready}
use Rattle.mux_run.specs.Run.{Terms, SideTerms, terms_at_a, terms_at_b}
use Rattle.mux_run.specs.Run as mux_run
use Rattle.mux_run.specs.Linked.{Joined}
use Rattle.mux_run.specs.Spending.{RunStep, come_from, run_through}
use Rattle.mux_run.specs.declared.steps.Side.{Side}
use Rattle.mux_run.specs.declared.steps.Side.TheVariants.{A, B}
use Rattle.mux_run.proofs.Links.{through_joined, turned_joined}
use Rattle.endpoint_run.specs.Run.{EndWorld, EndStep, turns_of, side_of, happens_at as end_happens_at, happens as end_happens, in_step_at, in_step, start, run_from, end_run}
use Rattle.endpoint_run.specs.Moments.{Moment, After, Within, at_moment}
use Rattle.endpoint_run.specs.Finer.{mux_a, mux_b, IsFinerRun}
use Rattle.endpoint_run.proofs.Boundary.{run_side, AtBoundary}
use Rattle.endpoint_run.proofs.OneSide.{at_a, at_b, come_from-append}
use Rattle.endpoint_run.proofs.Beginning.{begun_bounded, reach_step}

pub fresh_boundary : (w : SideTerms) → AtBoundary w [] 0
fresh_boundary w = record { at = λ r. by w.version; waits = λ u. refl }
  where
    by : (v : Version) → 0 ≡ (if is_ready v [] then length (hello v w.peer) + length (frame_texts v []) else 0)
    by version.One = refl
    by version.Two = refl
    by version.Three = refl

-- the world of the finer steps, in which each side was given so much
pub record IsRefined (terms : Terms) (fine : List RunStep) (w : EndWorld) : Type 0 where
  pub given_a : ℕ
  pub given_b : ℕ
  pub is : run_through terms fine ≡ record { a = run_side (mux_a terms w) given_a; b = run_side (mux_b terms w) given_b }
  pub at_a : AtBoundary (terms_at_a terms) (mux_a terms w) given_a
  pub at_b : AtBoundary (terms_at_b terms) (mux_b terms w) given_b

-- no more was delivered to either side than an end is fed
pub record AreBounded (w : EndWorld) : Type 0 where
  pub a : w.a.delivered ≤ most_bytes
  pub b : w.b.delivered ≤ most_bytes

-- the run of these finer steps and some more
pub record GoesOn (terms : Terms) (fine : List RunStep) (w : EndWorld) : Type 0 where
  pub more : List RunStep
  pub refined : IsRefined terms (fine ++ more) w

refined_a : (terms : Terms) (turns : ℕ) (s : EndStep) (w : EndWorld) (fine : List RunStep) → w.a.delivered ≤ most_bytes → IsRefined terms fine w → GoesOn terms fine (in_step_at terms turns A s w)
refined_a terms turns s w fine h r =
    let side = terms_at_a terms in
    let m = mux_a terms w in
    let o = run_side (mux_b terms w) r.given_b in
    let j = subst (λ w. Joined side w.a w.b) r.is (through_joined terms fine) in
    let on = reach_step A side turns s w.a w.b r.given_b h r.given_a j r.at_a in
    record {
      more = on.steps;
      refined = record {
        given_a = on.given;
        given_b = r.given_b;
        is = come_from-append terms mux_run.start fine on.steps ∙ (ap (λ w. come_from terms w on.steps) r.is
            ∙ (at_a terms on.steps (record { a = run_side m r.given_a; b = o }) on.at_side ∙ ap (λ a. record { a = a; b = o }) on.reaches));
        at_a = on.boundary;
        at_b = r.at_b;
      };
    }

refined_b : (terms : Terms) (turns : ℕ) (s : EndStep) (w : EndWorld) (fine : List RunStep) → w.b.delivered ≤ most_bytes → IsRefined terms fine w → GoesOn terms fine (in_step_at terms turns B s w)
refined_b terms turns s w fine h r =
    let side = terms_at_b terms in
    let m = mux_b terms w in
    let o = run_side (mux_a terms w) r.given_a in
    let j = turned_joined (terms_at_a terms) o (run_side m r.given_b) (subst (λ w. Joined (terms_at_a terms) w.a w.b) r.is (through_joined terms fine)) in
    let on = reach_step B side turns s w.b w.a r.given_a h r.given_b j r.at_b in
    record {
      more = on.steps;
      refined = record {
        given_a = r.given_a;
        given_b = on.given;
        is = come_from-append terms mux_run.start fine on.steps ∙ (ap (λ w. come_from terms w on.steps) r.is
            ∙ (at_b terms on.steps (record { a = o; b = run_side m r.given_b }) on.at_side ∙ ap (λ b. record { a = o; b = b }) on.reaches));
        at_a = r.at_a;
        at_b = on.boundary;
      };
    }

refined_at : (terms : Terms) (turns : ℕ) (side : Side) (s : EndStep) (w : EndWorld) (fine : List RunStep) → AreBounded w → IsRefined terms fine w → GoesOn terms fine (in_step_at terms turns side s w)
refined_at terms turns A s w fine h r = refined_a terms turns s w fine h.a r
refined_at terms turns B s w fine h r = refined_b terms turns s w fine h.b r

-- any moment in a step
refined_in : (terms : Terms) (turns : ℕ) (s : EndStep) (w : EndWorld) (fine : List RunStep) → AreBounded w → IsRefined terms fine w → GoesOn terms fine (in_step terms turns s w)
refined_in terms turns s w fine h r = refined_at terms turns (side_of s) s w fine h r

happens_bounded : (terms : Terms) (side : Side) (s : EndStep) (w : EndWorld) → AreBounded w → AreBounded (end_happens_at terms side s w)
happens_bounded terms A s w h = record { a = begun_bounded (terms_at_a terms) s w.a w.b h.a; b = h.b }
happens_bounded terms B s w h = record { a = h.a; b = begun_bounded (terms_at_b terms) s w.b w.a h.b }

-- the end of a step is one of its moments
last_moment : (terms : Terms) (side : Side) (s : EndStep) (w : EndWorld) → (turns : ℕ) × (in_step_at terms turns side s w ≡ end_happens_at terms side s w)
last_moment terms A s w = (turns_of (terms_at_a terms) s w.a w.b, refl)
last_moment terms B s w = (turns_of (terms_at_b terms) s w.b w.a, refl)

refined_happens : (terms : Terms) (s : EndStep) (w : EndWorld) (fine : List RunStep) → AreBounded w → IsRefined terms fine w → GoesOn terms fine (end_happens terms s w)
refined_happens terms s w fine h r =
    let last = last_moment terms (side_of s) s w in
    subst (GoesOn terms fine) last.1 (refined_in terms last.0 s w fine h r)

-- runs

record IsRun (terms : Terms) (w : EndWorld) : Type 0 where
  fine : List RunStep
  refined : IsRefined terms fine w
  bounded : AreBounded w

fresh_run : (terms : Terms) → IsRun terms start
fresh_run terms = record {
  fine = [];
  refined = record {
    given_a = 0;
    given_b = 0;
    is = refl;
    at_a = fresh_boundary (terms_at_a terms);
    at_b = fresh_boundary (terms_at_b terms);
  };
  bounded = record { a = omega arith; b = omega arith };
}

happens_run : (terms : Terms) (s : EndStep) (w : EndWorld) → IsRun terms w → IsRun terms (end_happens terms s w)
happens_run terms s w r =
    let on = refined_happens terms s w r.fine r.bounded r.refined in
    record { fine = r.fine ++ on.more; refined = on.refined; bounded = happens_bounded terms (side_of s) s w r.bounded }

run_from_run : (terms : Terms) (w : EndWorld) (steps : List EndStep) → IsRun terms w → IsRun terms (run_from terms w steps)
run_from_run terms w [] r = r
run_from_run terms w (s ∷ steps) r = run_from_run terms (end_happens terms s w) steps (happens_run terms s w r)

every_run : (terms : Terms) (steps : List EndStep) → IsRun terms (end_run terms steps)
every_run terms steps = run_from_run terms start steps (fresh_run terms)

-- at each moment of every run
pub moment_refined : (terms : Terms) (steps : List EndStep) (moment : Moment) → (fine : List RunStep) × IsRefined terms fine (at_moment terms steps moment)
moment_refined terms steps After =
    let r = every_run terms steps in
    (r.fine, r.refined)
moment_refined terms steps (Within s turns) =
    let r = every_run terms steps in
    let on = refined_in terms turns s (end_run terms steps) r.fine r.bounded r.refined in
    (r.fine ++ on.more, on.refined)

pub run_finer : (terms : Terms) (steps : List EndStep) → IsFinerRun terms steps
run_finer terms steps moment =
    let on = moment_refined terms steps moment in
    (on.0, record { a = ap (λ w. w.a.items) on.1.is; b = ap (λ w. w.b.items) on.1.is })
