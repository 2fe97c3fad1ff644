-- The letter in front of a channel's id.
use Rattle.std.proofs.Common.{◌≡◌, ◌≢◌, ℕ, List, [], ◌∷◌, true, false, refl, Some, None, eqb, ◌&&◌, ap, arith}
use Rattle.std.proofs.lemmas.Bool.Decides.{nat_tests}
use Rattle.mux_run.specs.declared.steps.Side.TheVariants.{A, B}
use Rattle.text_words.specs.Reading.{front_in, side_in}

pub front_in-a : (word digits : List ℕ) → word ≡ 65 ∷ digits → front_in word ≡ Some (A, digits)
unfolding front_in side_in
front_in-a word digits e = rw e refl

pub front_in-b : (word digits : List ℕ) → word ≡ 66 ∷ digits → front_in word ≡ Some (B, digits)
unfolding front_in side_in
front_in-b word digits e = rw e refl

other : (c d : ℕ) → c ≢ d → (eqb c d && true) ≡ false
other c d h = grind (arith, nat_tests)

pub front_in-none : (word : List ℕ) → ((rest : List ℕ) → word ≢ 65 ∷ rest) → ((rest : List ℕ) → word ≢ 66 ∷ rest) → front_in word ≡ None
unfolding front_in side_in
front_in-none [] a b = refl
front_in-none (c ∷ cs) a b = rw (other c 65 (λ e. a cs (ap (λ x. x ∷ cs) e)), other c 66 (λ e. b cs (ap (λ x. x ∷ cs) e))) refl
