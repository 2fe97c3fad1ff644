-- Each part of a list weighs less than the list.
use Rattle.std.proofs.Common.{ℕ, zero, suc, ◌<◌, List, [], ◌∷◌, length, get_or, arith}
use Rattle.wire_base.specs.Tree.{Tree, weight, list_size, pair_size}

pub weight_at : (ts : List Tree) (i : ℕ) (d : Tree) → i < length ts → weight (get_or ts i d) < list_size ts
weight_at [] i d h = absurd (omega arith)
weight_at (t ∷ ts) zero d h = omega arith
weight_at (t ∷ ts) (suc i) d h = let r : weight (get_or ts i d) < list_size ts = weight_at ts i d (omega arith) in omega (arith, r)

pub pair_weight_at : (ps : List (List ℕ × Tree)) (i : ℕ) (d : List ℕ × Tree) → i < length ps → weight (get_or ps i d).1 < pair_size ps
pair_weight_at [] i d h = absurd (omega arith)
pair_weight_at (p ∷ ps) zero d h = omega arith
pair_weight_at (p ∷ ps) (suc i) d h = let r : weight (get_or ps i d).1 < pair_size ps = pair_weight_at ps i d (omega arith) in omega (arith, r)

pub ruleset walks = (weight_at, pair_weight_at)
