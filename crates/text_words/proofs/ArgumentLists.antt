-- What the values of arguments stand for, by the lists in them.
use Rattle.std.proofs.Common.{◌≡◌, ◌≢◌, ℕ, List, [], ◌∷◌, length, map, refl, false, Some, None}
use Rattle.std.specs.Str.{bytes_eq}
use Rattle.wire_base.specs.Tree.{Tree, items, pairs, trees_of, pairs_of}
use Rattle.rpc_items.specs.declared.calls.Arguments.TheVariants.{List as Listed, Named}
use Rattle.wire_base.proofs.Back.{pair_list_of-pairs_of}
use Rattle.rpc_items.proofs.Reading.{list_of-trees_of}
use Rattle.text_words.specs.Written.{hyphen}
use Rattle.text_words.specs.Json.{arg_of, array_in, marked_in, object_in, json_in, arguments_in}

-- an object has two parts
pub object_in-other : (values : List Tree) → length values ≢ 2 → object_in (items (trees_of values)) ≡ None
object_in-other [] h = refl
object_in-other (a ∷ []) h = refl
object_in-other (a ∷ b ∷ []) h = absurd (h refl)
object_in-other (a ∷ b ∷ c ∷ values) h = refl

-- a map that stands for more than itself has one member
pub marked_in-other : (members : List (List ℕ × Tree)) → length members ≢ 1 → marked_in (pairs (pairs_of members)) ≡ None
marked_in-other [] h = refl
marked_in-other (a ∷ []) h = absurd (h refl)
marked_in-other (a ∷ b ∷ members) h = refl

pub array_in-items : (text : List ℕ) (values : List Tree) → json_in text ≡ Some (items (trees_of values)) → array_in text ≡ Some values
unfolding array_in
array_in-items text values e = rw (e, list_of-trees_of values) refl

pub arguments_in-items : (text : List ℕ) (values : List Tree) → bytes_eq text hyphen ≡ false → json_in text ≡ Some (items (trees_of values))
    → arguments_in text ≡ Some (Listed (map arg_of values))
unfolding arguments_in
arguments_in-items text values h e = rw (h, e, list_of-trees_of values) refl

pub arguments_in-pairs : (text : List ℕ) (members : List (List ℕ × Tree)) → bytes_eq text hyphen ≡ false → json_in text ≡ Some (pairs (pairs_of members))
    → arguments_in text ≡ Some (Named members)
unfolding arguments_in
arguments_in-pairs text members h e = rw (h, e, pair_list_of-pairs_of members) refl
