-- Levels that are left.
use Rattle.std.proofs.Common.{◌≡◌, ◌<◌, ◌-◌, ℕ, zero, suc, List, length, Err, refl, ap, arith}
use Rattle.wire_base.specs.declared.reason.Reason.TheVariants.{TooDeep}
use Rattle.wire_base.specs.Head.{head_of}
use Rattle.wire_base.specs.declared.reading.Fault.TheVariants.{Breaks}
use Rattle.pack_value.specs.Reading.{value_at, items_at, pairs_at, counted_of, pair_at, at_head}

pub value_at-is : (d : ℕ) (rest : List ℕ) → value_at d rest ≡ at_head d (items_at d (length rest)) (pairs_at d (length rest)) (head_of rest) rest
unfolding value_at items_at pairs_at
value_at-is zero rest = refl
value_at-is (suc d) rest = refl

pub items_at-deeper : (d left n : ℕ) (rest : List ℕ) → 0 < d → items_at d left n rest ≡ counted_of left (value_at (d - 1)) n rest
unfolding items_at
items_at-deeper zero left n rest h = absurd (omega arith)
items_at-deeper (suc d) left n rest h = let e : d ≡ suc d - 1 = omega arith in ap (λ k. counted_of left (value_at k) n rest) e

pub pairs_at-deeper : (d left n : ℕ) (rest : List ℕ) → 0 < d → pairs_at d left n rest ≡ counted_of left (pair_at (d - 1) (value_at (d - 1))) n rest
unfolding pairs_at
pairs_at-deeper zero left n rest h = absurd (omega arith)
pairs_at-deeper (suc d) left n rest h = let e : d ≡ suc d - 1 = omega arith in ap (λ k. counted_of left (pair_at k (value_at k)) n rest) e

pub items_at-flat : (d left n : ℕ) (rest : List ℕ) → d ≡ 0 → items_at d left n rest ≡ Err (Breaks left TooDeep)
unfolding items_at
items_at-flat zero left n rest h = refl
items_at-flat (suc d) left n rest h = absurd (omega arith)

pub pairs_at-flat : (d left n : ℕ) (rest : List ℕ) → d ≡ 0 → pairs_at d left n rest ≡ Err (Breaks left TooDeep)
unfolding pairs_at
pairs_at-flat zero left n rest h = refl
pairs_at-flat (suc d) left n rest h = absurd (omega arith)

pub ruleset levels = (value_at-is, items_at-deeper, pairs_at-deeper, items_at-flat, pairs_at-flat)
