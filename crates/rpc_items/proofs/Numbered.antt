-- The one with a number stands before that place.
use Rattle.std.specs.Prelude.{◌&&◌, ◌==◌, Bool, true, false, nat_lt, nat_le, is_some, slice_get}
use Rattle.std.proofs.Common.{◌≡◌, ℕ, ◌+◌, ◌-◌, ◌<◌, List, ◌++◌, length, refl, sym, ◌∙◌, ap, inl, inr, arith, None, if◌then◌else◌, le-leb}
use Rattle.std.proofs.lemmas.Bool.{cases_Bool, cases_lt, lt-ltb, lt-leb, eqb-true}
use Rattle.std.proofs.lemmas.Option.{slice_get_past}
use Rattle.wire_base.proofs.Places.{above_zero, above_none, get_kept, get_within}
use Rattle.rpc_items.specs.Drawn.{with_number}

pub numbered_at : {A : Type 0} (n : ℕ) (xs : List A) → 0 < n → with_number n xs ≡ slice_get xs (n - 1)
numbered_at n xs l = rw (above_none n l) refl

pub numbered_next : {A : Type 0} (place : ℕ) (xs : List A) → with_number (place + 1) xs ≡ slice_get xs place
numbered_next place xs = numbered_at (place + 1) xs (omega arith) ∙ ap (slice_get xs) (let back : place + 1 - 1 ≡ place = omega arith in back)

-- a number is that of one in the list where it isn't above the length
pub numbered_some : {A : Type 0} (n : ℕ) (xs : List A) → (nat_lt 0 n && nat_le n (length xs)) ≡ is_some (with_number n xs)
numbered_some n xs = elim (cases_Bool (n == 0)) [
  | inl e ↦ rw e (let none : n ≡ 0 = eqb-true n 0 e in ap (λ m. nat_lt 0 m && nat_le m (length xs)) none)
  | inr e ↦ rw e (let some : 0 < n = above_zero n e in rw (lt-ltb 0 n some) (elim (cases_lt (length xs) n) [
    | inl l ↦ rw (lt-leb n (length xs) l) (ap is_some (sym (slice_get_past xs (n - 1) (omega (arith, l)))))
    | inr l ↦ rw (le-leb n (length xs) l) (sym (get_within xs (n - 1) (omega (arith, l, some))))
  ]))
]

-- what isn't in more isn't in less

if_kept : {A : Type 0} (b : Bool) (n : ℕ) (xs ys : List A) → (if b then None else slice_get (xs ++ ys) n) ≡ None → (if b then None else slice_get xs n) ≡ None
if_kept true n xs ys e = refl
if_kept false n xs ys e = get_kept xs ys n e

pub numbered_kept : {A : Type 0} (n : ℕ) (xs ys : List A) → with_number n (xs ++ ys) ≡ None → with_number n xs ≡ None
numbered_kept n xs ys e = if_kept (n == 0) (n - 1) xs ys e
