-- What bytes are read as.
use Rattle.std.proofs.Common.{◌≡◌, ℕ, List, [], ◌∷◌, ◌++◌, Option, Some, None, option_map, refl, sym, ap, ◌∙◌, append_assoc}
use Rattle.serde_json.specs.Data.{Data, Members, member}
use Rattle.wire_base.specs.Tree.{Tree}
use Rattle.json_value.specs.Reading.{tree_of, pair_list, IsReading, HasNoReading, HasFloat}

-- a pair before the others is one behind those that came before
pairs_more : (done : List (List ℕ × Tree)) (p : List ℕ × Tree) (rest : Option (List (List ℕ × Tree))) → option_map (λ ps. done ++ ps) (option_map (λ ps. p ∷ ps) rest) ≡ option_map (λ ps. (done ++ p ∷ []) ++ ps) rest
pairs_more done p None = refl
pairs_more done p (Some ps) = ap Some (sym (append_assoc done (p ∷ []) ps))

-- a member whose value is read
pub member_read : (done : List (List ℕ × Tree)) (k : List ℕ) (d : Data) (t : Tree) (ms : Members) → tree_of d ≡ Some t
    → option_map (λ ps. done ++ ps) (pair_list (member k d ms)) ≡ option_map (λ ps. (done ++ (k, t) ∷ []) ++ ps) (pair_list ms)
member_read done k d t ms e = rw e (pairs_more done (k, t) (pair_list ms))

-- ---- readings

module _ {T : Type 0} where
  pub some_is_one : (a b : T) → Some a ≡ Some b → a ≡ b
  some_is_one a b e = cc

pub one_reading : (b : List ℕ) (t u : Tree) → IsReading b t → IsReading b u → t ≡ u
one_reading b t u x y =
    let same = some_is_one x.0 y.0 (sym x.1.1 ∙ y.1.1) in
    some_is_one t u (sym x.2 ∙ (ap tree_of same ∙ y.2))

pub reading_is_json : (b : List ℕ) (t : Tree) → IsReading b t → HasNoReading b → ⊥
reading_is_json b t x none = none x.0 x.1

pub reading_is_whole : (b : List ℕ) (t : Tree) → IsReading b t → HasFloat b → ⊥
reading_is_whole b t x y =
    let same = some_is_one x.0 y.0 (sym x.1.1 ∙ y.1.1) in
    let none : Some t ≡ None = sym x.2 ∙ (ap tree_of same ∙ y.2) in
    cc
