-- What stands at a place of a list, when more is added, and when elements become others.
use Rattle.std.specs.Prelude.{◌==◌, true, false, ◌⊎◌, is_some, set, slice_get, zero, suc}
use Rattle.std.proofs.Common.{◌≡◌, ◌≢◌, ℕ, ◌+◌, ◌<◌, ◌≤◌, List, [], ◌∷◌, ◌++◌, length, take, drop, map, get_or, refl, sym, ◌∙◌, ap, inl, inr, arith, add-one, Some, None}
use Rattle.std.proofs.lemmas.Bool.{cases_Bool, cases_lt, eq-eqb, eqb-true}
use Rattle.wire_base.specs.Lists.{changed_at}

-- numbers that are the same, or aren't

pub eq_refl : (n : ℕ) → (n == n) ≡ true
eq_refl n = eq-eqb n n refl

pub eq_apart : (n m : ℕ) → (n == m) ≡ false → n ≢ m
eq_apart n m e same = cc (sym (eq-eqb n m same) ∙ e)

pub above_zero : (n : ℕ) → (n == 0) ≡ false → 0 < n
above_zero n e = elim (cases_lt 0 n) [ inl l ↦ l | inr l ↦ absurd (cc (sym (eq-eqb n 0 (omega (arith, l))) ∙ e)) ]

pub above_none : (n : ℕ) → 0 < n → (n == 0) ≡ false
above_none n l = elim (cases_Bool (n == 0)) [ inl e ↦ absurd (omega (arith, eqb-true n 0 e, l)) | inr e ↦ e ]

pub three_ways : (i n : ℕ) → (i < n) ⊎ ((i ≡ n) ⊎ (n < i))
three_ways zero zero = inr (inl refl)
three_ways zero (suc n) = inl (omega arith)
three_ways (suc i) zero = inr (inr (omega arith))
three_ways (suc i) (suc n) = elim (three_ways i n) [
  | inl l ↦ inl (omega (arith, l))
  | inr r ↦ elim r [
    | inl e ↦ inr (inl (ap suc e))
    | inr l ↦ inr (inr (omega (arith, l)))
  ]
]

-- more at the end

pub get_before : {A : Type 0} (xs ys : List A) (i : ℕ) → i < length xs → slice_get (xs ++ ys) i ≡ slice_get xs i
get_before [] ys i l = absurd (omega (arith, l))
get_before (a ∷ xs) ys zero l = refl
get_before (a ∷ xs) ys (suc i) l = get_before xs ys i (omega (arith, l))

pub get_behind : {A : Type 0} (xs ys : List A) (i : ℕ) → slice_get (xs ++ ys) (length xs + i) ≡ slice_get ys i
get_behind [] ys i = ap (slice_get ys) (let same : 0 + i ≡ i = omega arith in same)
get_behind (a ∷ xs) ys i = ap (slice_get (a ∷ (xs ++ ys))) (let same : suc (length xs) + i ≡ suc (length xs + i) = omega arith in same) ∙ get_behind xs ys i

pub get_last : {A : Type 0} (xs : List A) (x : A) (i : ℕ) → i ≡ length xs → slice_get (xs ++ (x ∷ [])) i ≡ Some x
get_last [] x zero e = refl
get_last [] x (suc i) e = absurd (omega (arith, e))
get_last (a ∷ xs) x zero e = absurd (omega (arith, e))
get_last (a ∷ xs) x (suc i) e = get_last xs x i (omega (arith, e))

pub get_within : {A : Type 0} (xs : List A) (i : ℕ) → i < length xs → is_some (slice_get xs i) ≡ true
get_within [] i l = absurd (omega (arith, l))
get_within (a ∷ xs) zero l = refl
get_within (a ∷ xs) (suc i) l = get_within xs i (omega (arith, l))

pub get_past : {A : Type 0} (xs : List A) (i : ℕ) → length xs ≤ i → slice_get xs i ≡ None
get_past [] i l = refl
get_past (a ∷ xs) zero l = absurd (omega (arith, l))
get_past (a ∷ xs) (suc i) l = get_past xs i (omega (arith, l))

pub get_kept : {A : Type 0} (xs ys : List A) (i : ℕ) → slice_get (xs ++ ys) i ≡ None → slice_get xs i ≡ None
get_kept [] ys i e = refl
get_kept (a ∷ xs) ys zero e = absurd (cc e)
get_kept (a ∷ xs) ys (suc i) e = get_kept xs ys i e

-- one becomes another

pub changed_at_same : {A : Type 0} (place : ℕ) (change : A → A) (xs : List A) (x : A) → slice_get xs place ≡ Some x → slice_get (changed_at place change xs) place ≡ Some (change x)
changed_at_same place change [] x e = absurd (cc e)
changed_at_same zero change (y ∷ ys) x e = ap (λ z. Some (change z)) (let same : y ≡ x = cc e in same)
changed_at_same (suc place) change (y ∷ ys) x e = changed_at_same place change ys x e

pub changed_at_other : {A : Type 0} (place other : ℕ) (change : A → A) (xs : List A) → other ≢ place → slice_get (changed_at place change xs) other ≡ slice_get xs other
changed_at_other place other change [] d = refl
changed_at_other zero zero change (x ∷ xs) d = absurd (d refl)
changed_at_other zero (suc other) change (x ∷ xs) d = refl
changed_at_other (suc place) zero change (x ∷ xs) d = refl
changed_at_other (suc place) (suc other) change (x ∷ xs) d = changed_at_other place other change xs (λ e. d (ap suc e))

pub length-changed_at : {A : Type 0} (place : ℕ) (change : A → A) (xs : List A) → length (changed_at place change xs) ≡ length xs
length-changed_at place change [] = refl
length-changed_at zero change (x ∷ xs) = refl
length-changed_at (suc place) change (x ∷ xs) = ap suc (length-changed_at place change xs)

-- a write of the changed one
pub changed_is_set : {A : Type 0} (xs : List A) (i : ℕ) (change : A → A) (x : A) → x ≡ get_or xs i x → i < length xs → set xs i (change x) ≡ changed_at i change xs
changed_is_set [] i change x e l = absurd (omega (arith, l))
changed_is_set (y ∷ ys) zero change x e l = ap (λ z. change z ∷ ys) e
changed_is_set (y ∷ ys) (suc i) change x e l = ap (λ zs. y ∷ zs) (changed_is_set ys i change x e (omega (arith, l)))

-- all are changed, those before this place one by one

pub changes_next : {A : Type 0} (f : A → A) (xs : List A) (i : ℕ) (x y : A) → i < length xs → x ≡ get_or xs i x → y ≡ f x → take (suc i) (set xs i y) ++ map f (drop (suc i) (set xs i y)) ≡ take i xs ++ map f (drop i xs)
changes_next f [] i x y within is e = absurd (omega arith)
changes_next f (z ∷ zs) zero x y within is e = ap (λ w. w ∷ map f zs) (e ∙ ap f is)
changes_next f (z ∷ zs) (suc i) x y within is e = ap (λ ws. z ∷ ws) (changes_next f zs i x y (omega arith) is e)

pub changes_more : {A : Type 0} (f : A → A) (xs : List A) (i : ℕ) (x y : A) → i < length xs → x ≡ get_or xs i x → y ≡ f x → take (i + 1) (set xs i y) ++ map f (drop (i + 1) (set xs i y)) ≡ take i xs ++ map f (drop i xs)
changes_more f xs i x y within is e = rw add-one (changes_next f xs i x y within is e)

pub changed_all : {A : Type 0} (f : A → A) (xs : List A) (i : ℕ) → length xs ≤ i → take i xs ++ map f (drop i xs) ≡ xs
changed_all f [] zero past = refl
changed_all f [] (suc i) past = refl
changed_all f (x ∷ xs) zero past = absurd (omega arith)
changed_all f (x ∷ xs) (suc i) past = ap (λ ys. x ∷ ys) (changed_all f xs i (omega arith))
