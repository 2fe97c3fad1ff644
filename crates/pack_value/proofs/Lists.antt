-- Lists of trees, by their lengths and their items.
use Rattle.std.proofs.Common.{◌≡◌, ℕ, ◌+◌, ◌<◌, List, [], ◌∷◌, length, get_or, drop, refl, sym, ap, ◌∙◌, append_assoc, arith}
use Rattle.std.proofs.lemmas.List.{drop_more}
use Rattle.wire_base.specs.Tree.{Tree, trees_of, pairs_of}
use Rattle.wire_base.proofs.Walks.{weight_at, pair_weight_at}
use Rattle.wire_base.proofs.AppendsLemmas.{appends_none, appends_first, appends_second, to_all, to_rest, to_none, to_cut}
use Rattle.pack_value.specs.Spelling.{count, pair_count}

pub count-length : (ts : List Tree) → count (trees_of ts) ≡ length ts
count-length [] = refl
count-length (t ∷ ts) = omega (arith, count-length ts)

pub pair_count-length : (ps : List (List ℕ × Tree)) → pair_count (pairs_of ps) ≡ length ps
pair_count-length [] = refl
pair_count-length (p ∷ ps) = omega (arith, pair_count-length ps)

-- an item, and those behind it
pub here : {A : Type 0} (xs : List A) (i : ℕ) (x : A) → i < length xs → x ≡ get_or xs i x → drop i xs ≡ x ∷ drop (i + 1) xs
here xs i x lt at = drop_more xs i x lt ∙ ap (λ y. y ∷ drop (i + 1) xs) (sym at)

pub ruleset fits = (weight_at, pair_weight_at, count-length, pair_count-length)

pub ruleset puts = (weight_at, pair_weight_at, count-length, pair_count-length, appends_none, appends_first, appends_second, to_all, to_rest, to_none, to_cut, append_assoc)
