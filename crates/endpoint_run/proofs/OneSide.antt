-- Finer steps of one side in a world of two.
use Rattle.std.proofs.Common.{◌≡◌, List, [], ◌∷◌, ◌++◌, refl, ◌∙◌, ap}
use Rattle.mux_run.specs.Run.{World, Terms, terms_at_a, terms_at_b, happens_at}
use Rattle.mux_run.specs.Spending.{RunStep, Makes, Spends, spent_at, comes, come_from}
use Rattle.mux_run.specs.declared.steps.Side.TheVariants.{A, B}
use Rattle.endpoint_run.proofs.Reaching.{x_after_one, x_after, side_at, Each}

one_at_a : (terms : Terms) (s : RunStep) (w : World) → side_at s ≡ A → comes terms s w ≡ record { a = x_after_one (terms_at_a terms) s w.a w.b; b = w.b }
one_at_a terms (Makes s) w e = ap (λ side. happens_at terms side s w) e
one_at_a terms (Spends side) w e = ap (λ side. spent_at side w) e

one_at_b : (terms : Terms) (s : RunStep) (w : World) → side_at s ≡ B → comes terms s w ≡ record { a = w.a; b = x_after_one (terms_at_b terms) s w.b w.a }
one_at_b terms (Makes s) w e = ap (λ side. happens_at terms side s w) e
one_at_b terms (Spends side) w e = ap (λ side. spent_at side w) e

pub at_a : (terms : Terms) (ss : List RunStep) (w : World) → Each A ss → come_from terms w ss ≡ record { a = x_after (terms_at_a terms) ss w.a w.b; b = w.b }
at_a terms [] w e = refl
at_a terms (s ∷ ss) w e = ap (λ w. come_from terms w ss) (one_at_a terms s w e.0) ∙ at_a terms ss (record { a = x_after_one (terms_at_a terms) s w.a w.b; b = w.b }) e.1

pub at_b : (terms : Terms) (ss : List RunStep) (w : World) → Each B ss → come_from terms w ss ≡ record { a = w.a; b = x_after (terms_at_b terms) ss w.b w.a }
at_b terms [] w e = refl
at_b terms (s ∷ ss) w e = ap (λ w. come_from terms w ss) (one_at_b terms s w e.0) ∙ at_b terms ss (record { a = w.a; b = x_after_one (terms_at_b terms) s w.b w.a }) e.1

pub come_from-append : (terms : Terms) (w : World) (ss ts : List RunStep) → come_from terms w (ss ++ ts) ≡ come_from terms (come_from terms w ss) ts
come_from-append terms w [] ts = refl
come_from-append terms w (s ∷ ss) ts = come_from-append terms (comes terms s w) ss ts
