-- Lists of values and of pairs are what they were made of.
use Rattle.std.proofs.Common.{◌≡◌, ℕ, List, [], ◌∷◌, refl, ap}
use Rattle.wire_base.specs.Tree.{Tree, Trees, no_items, item, Pairs, no_pairs, pair, trees_of, pairs_of, list_of, pair_list_of}

-- to a value's pairs and back
pub pair_list_of-pairs_of : (ps : List (List ℕ × Tree)) → pair_list_of (pairs_of ps) ≡ ps
pair_list_of-pairs_of [] = refl
pair_list_of-pairs_of (p ∷ ps) = ap (λ (qs : List (List ℕ × Tree)). p ∷ qs) (pair_list_of-pairs_of ps)

-- from a value's items and its pairs, and back
pub trees_of-list_of : (ts : Trees) → trees_of (list_of ts) ≡ ts
trees_of-list_of no_items = refl
trees_of-list_of (item t ts) = ap (item t) (trees_of-list_of ts)

pub pairs_of-list_of : (ps : Pairs) → pairs_of (pair_list_of ps) ≡ ps
pairs_of-list_of no_pairs = refl
pairs_of-list_of (pair k t ps) = ap (pair k t) (pairs_of-list_of ps)

-- for callers that take a value apart
pub ruleset back = (pair_list_of-pairs_of)
