-- A nonce is greater by its first byte that differs, as Rust compares arrays.
use Rattle.std.proofs.Common.{◌≡◌, ℕ, List, Bool, Some, refl, arith}
use Rattle.std.specs.Ordering.{nat_cmp, is_gt, is_some_and}
use Rattle.std.specs.Cmp.Lexicographic.{slice_partial_cmp}
use Rattle.std.proofs.lemmas.Cmp.{same_from_slice_cmp_tested}
use Rattle.std.proofs.lemmas.Bool.Decides.{nat_tests}
use Rattle.mux_items.specs.Parties.{is_greater}

pub greater : (xs ys : List ℕ) (r : Bool) → r ≡ is_some_and is_gt (slice_partial_cmp (λ x y. Some (nat_cmp x y)) xs ys) → r ≡ is_greater xs ys
greater = same_from_slice_cmp_tested nat_cmp is_gt is_greater refl (λ _ _. refl) (λ _ _. refl) (λ x y xs ys o h. grind (arith, nat_tests))
