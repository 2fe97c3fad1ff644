-- One more line in a script.
use Rattle.std.proofs.Common.{◌≡◌, ◌<◌, ◌≤◌, ◌+◌, true, List, [], ◌∷◌, ◌++◌, length, length-append, refl, arith}
use Rattle.std.specs.List.{list_all}
use Rattle.std.proofs.lemmas.Bool.{and_parts}
use Rattle.std.proofs.lemmas.List.Folds.{list_all-append}
use Rattle.script.specs.Limits.{most_steps, most_filled}
use Rattle.script.specs.Spelling.{StepLine, AreScripted, is_spellable, filled_by, filled_in}

pub filled_in-append : (lines more : List StepLine) → filled_in (lines ++ more) ≡ filled_in lines + filled_in more
filled_in-append [] more = omega arith
filled_in-append (line ∷ lines) more = let ih = filled_in-append lines more in omega arith

-- a line that stands behind these
pub record MayStand (lines : List StepLine) (line : StepLine) : Type 0 where
  pub spellable : is_spellable line ≡ true
  pub few : length lines < most_steps
  pub within : filled_in lines + filled_by line ≤ most_filled

pub one_more : (lines : List StepLine) (line : StepLine) → AreScripted lines → MayStand lines line → AreScripted (lines ++ line ∷ [])
one_more lines line h stands =
    let filled = filled_in-append lines (line ∷ []) in
    let few = stands.few in
    let within = stands.within in
    record {
      spellable = rw (list_all-append is_spellable lines (line ∷ []), h.spellable, stands.spellable) refl;
      few = simp length-append (omega arith);
      within = omega arith;
    }

pub next_stands : (lines more : List StepLine) (line : StepLine) → AreScripted (lines ++ line ∷ more) → MayStand lines line
next_stands lines more line h =
    let spelled = rw (list_all-append is_spellable lines (line ∷ more)) at (h.spellable) in
    let filled = filled_in-append lines (line ∷ more) in
    let few = h.few in
    let within = h.within in
    record {
      spellable = (and_parts (is_spellable line) (list_all is_spellable more) (and_parts (list_all is_spellable lines) (list_all is_spellable (line ∷ more)) spelled).1).0;
      few = let n = length-append lines (line ∷ more) in omega arith;
      within = omega arith;
    }
