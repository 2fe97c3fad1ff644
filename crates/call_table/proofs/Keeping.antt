-- A request that becomes another.
use Rattle.std.specs.Prelude.{slice_get, zero, suc}
use Rattle.std.proofs.Common.{◌≡◌, ℕ, ◌<◌, List, [], ◌∷◌, ◌++◌, length, get_or, refl, sym, ap, arith, Option, Some, None, IsSome, option_to_list}
use Rattle.wire_base.specs.Tree.{Tree}
use Rattle.call_table.specs.declared.entry.Entry.{Entry}

-- the request at a place that is within the list
pub got_is_some : (entries : List Entry) (i : ℕ) (entry : Entry) → entry ≡ get_or entries i entry → i < length entries → slice_get entries i ≡ Some entry
got_is_some [] i entry e l = absurd (omega (arith, l))
got_is_some (x ∷ xs) zero entry e l = ap (λ (y : Entry). Some y) (sym e)
got_is_some (x ∷ xs) (suc i) entry e l = got_is_some xs i entry e (omega (arith, l))

-- what is taken from the front is the first
pub first_taken : (result : Option Tree) (old new : List Tree) → old ≡ option_to_list result ++ new → (0 < length old → IsSome result) → result ≡ slice_get old 0
first_taken (Some x) old new e is = sym (ap (λ (ts : List Tree). slice_get ts 0) e)
first_taken None [] new e is = refl
first_taken None (x ∷ xs) new e is = absurd (cc (is (omega arith)))
