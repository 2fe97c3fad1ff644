-- The lines of steps, one after the other, and what holds of their run.
use Rattle.std.proofs.Common.{◌≡◌, ℕ, ◌+◌, ◌≤◌, List, [], ◌∷◌, ◌++◌, length, length-append, refl, sym, ◌∙◌, ap, subst, arith, append_assoc}
use Rattle.std.proofs.lemmas.List.{append-nil}
use Rattle.mux_run.specs.Run.{Terms}
use Rattle.endpoint_run.specs.declared.steps.Step.{Step}
use Rattle.endpoint_run.specs.Answers.{made_step, run, world_by}
use Rattle.endpoint_run.proofs.Telling.{run_goes_on}
use Rattle.duo_world.specs.Holding.{DuoState, StandsForRun}
use Rattle.duo_world.specs.Stepping.{RunHolds}
use Rattle.duo_world.proofs.Worlds.{run_holds}
use Rattle.transcript.specs.Report.{step_lines, steps_lines}

pub stored_next : (all xs ys rest now : List Step) (s : Step) → rest ≡ s ∷ ys → xs ++ rest ≡ all → now ≡ xs ++ s ∷ [] → now ++ ys ≡ all
stored_next all xs ys rest now s next is made = ap (λ xs. xs ++ ys) made ∙ (append_assoc xs (s ∷ []) ys ∙ (ap (λ r. xs ++ r) (sym next) ∙ is))

-- one step more was told
pub lines_next : (terms : Terms) (k : ℕ) (xs ys rest made : List Step) (s : Step) (told now all : List ℕ) → rest ≡ s ∷ ys → made ≡ xs ++ s ∷ []
    → now ≡ told ++ step_lines terms (k + 1) s (run terms xs)
    → told ++ steps_lines terms (k + 1) (run terms xs) rest ≡ all → now ++ steps_lines terms (k + 1 + 1) (run terms made) ys ≡ all
lines_next terms k xs ys rest made s told now all next stored is before =
    let world : run terms made ≡ world_by terms (made_step s) (run terms xs) = ap (run terms) stored ∙ run_goes_on terms s xs in
    let first = step_lines terms (k + 1) s (run terms xs) in
    let later = steps_lines terms (k + 1 + 1) (world_by terms (made_step s) (run terms xs)) ys in
    ap (λ w. now ++ steps_lines terms (k + 1 + 1) w ys) world
    ∙ (ap (λ bs. bs ++ later) is
    ∙ (append_assoc told first later
    ∙ (ap (λ r. told ++ steps_lines terms (k + 1) (run terms xs) r) (sym next) ∙ before)))

-- how many steps were made is less than how many there are
pub number_fits : (all xs ys rest : List Step) (s : Step) → rest ≡ s ∷ ys → xs ++ rest ≡ all → length xs + 1 ≤ length all
number_fits all xs ys rest s next is = omega (arith, ap length is, length-append xs rest, ap length next)

nil_of_length : (xs : List Step) → length xs ≡ 0 → xs ≡ []
nil_of_length [] e = refl
nil_of_length (x ∷ xs) e = absurd (omega arith)

-- nothing is left, so all were made
pub all_stored : (all xs rest : List Step) → length rest ≡ 0 → xs ++ rest ≡ all → xs ≡ all
all_stored all xs rest none is = sym (append-nil xs) ∙ (ap (λ r. xs ++ r) (sym (nil_of_length rest none)) ∙ is)

-- what holds of the run of a world that made all of them
pub all_hold : (terms : Terms) (steps : List Step) (d : DuoState) → d.terms ≡ terms → d.steps ≡ steps → StandsForRun d → RunHolds terms steps
all_hold terms steps d terms_are stored stands = subst (λ t. RunHolds t steps) terms_are (subst (RunHolds d.terms) stored (run_holds d.terms d.steps d.a d.b stands))
