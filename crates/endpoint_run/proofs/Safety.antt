-- What holds at every moment of every run of multiplexing ends holds at each moment of a run of ends with connections.
use Rattle.std.specs.Prelude.{false}
use Rattle.std.proofs.Common.{◌≡◌, ◌+◌, List, [], length, take, refl, sym, ap, subst, arith}
use Rattle.std.proofs.lemmas.List.{take_all}
use Rattle.wire_base.specs.declared.frame.Version.{Version}
use Rattle.mux_items.specs.Items.{Item}
use Rattle.mux_run.specs.Run.{Terms}
use Rattle.mux_run.specs.Moments.{IsMoment}
use Rattle.mux_run.specs.Safe.{IsSafe}
use Rattle.mux_run.specs.Spending.{RunStep, run_through, IsMomentThrough}
use Rattle.mux_run.proofs.Safety.{through_safe}
use Rattle.mux_credit.specs.Runs.{KeepsCredit}
use Rattle.mux_credit.proofs.Runs.{through_keeps_credit}
use Rattle.rpc_items.specs.Stable.{IsStable}
use Rattle.endpoint_items.specs.Items.{EndItem}
use Rattle.endpoint_items.specs.Connections.{items_of}
use Rattle.endpoint_items.specs.Layers.{rpc_of}
use Rattle.endpoint_items.specs.Outcomes.{outcome_on}
use Rattle.endpoint_items.proofs.Growing.{outcome_stays, outcome_real}
use Rattle.endpoint_run.specs.Run.{EndStep}
use Rattle.endpoint_run.specs.Moments.{Moment, at_moment}
use Rattle.endpoint_run.specs.Finer.{mux_a, mux_b}
use Rattle.endpoint_run.specs.Safe.{HasOneOutcome, IsSafeRun}
use Rattle.endpoint_run.proofs.Refining.{run_finer}

-- the end of a run is one of its moments

no_more : (items after : List Item) → after ≡ items → IsMoment items after items
no_more items after e = record { since = []; later = []; is = refl; more = e }

pub last_moment : (terms : Terms) (steps : List RunStep) → IsMomentThrough terms steps (run_through terms steps).a.items (run_through terms steps).b.items
last_moment terms steps =
    let n = length steps in
    let all = take_all n steps (omega arith) in
    let more = take_all (n + 1) steps (omega arith) in
    let w = run_through terms steps in
    let next = run_through terms (take (n + 1) steps) in
    let same : next ≡ w = ap (run_through terms) more in
    record {
      made = n;
      at_a = subst (λ steps. IsMoment (run_through terms steps).a.items next.a.items w.a.items) (sym all) (no_more w.a.items next.a.items (ap (λ w. w.a.items) same));
      at_b = subst (λ steps. IsMoment (run_through terms steps).b.items next.b.items w.b.items) (sym all) (no_more w.b.items next.b.items (ap (λ w. w.b.items) same));
    }

pub carried : (P : (a b : List Item) → Type 0) (terms : Terms) → ((fine : List RunStep) (a b : List Item) → IsMomentThrough terms fine a b → P a b)
    → (steps : List EndStep) (moment : Moment) → P (mux_a terms (at_moment terms steps moment)) (mux_b terms (at_moment terms steps moment))
carried P terms law steps moment =
    let on = run_finer terms steps moment in
    let w = run_through terms on.0 in
    subst (λ a. P a (mux_b terms (at_moment terms steps moment))) on.1.a (subst (P w.a.items) on.1.b (law on.0 w.a.items w.b.items (last_moment terms on.0)))

pub one_outcome : (v : Version) (items : List EndItem) → HasOneOutcome v items
one_outcome v items = record {
  stays = λ c n newer older e. subst (λ items. IsStable n (items_of (rpc_of v c items)) (outcome_on false v c n older)) (sym e) (outcome_stays v c n newer older);
  real = λ stopped c n. outcome_real stopped v c n items;
}

pub run_safe : (terms : Terms) (steps : List EndStep) → IsSafeRun terms steps
run_safe terms steps moment = record {
  mux = carried (IsSafe terms.version) terms (λ fine a b m. through_safe terms fine a b m) steps moment;
  credit = carried (KeepsCredit terms) terms (λ fine a b m. (through_keeps_credit terms fine).always a b m) steps moment;
  outcomes_a = one_outcome terms.version (at_moment terms steps moment).a.items;
  outcomes_b = one_outcome terms.version (at_moment terms steps moment).b.items;
}
