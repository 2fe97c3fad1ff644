-- What is given of a stream depends on the stream alone.
use Rattle.std.proofs.Common.{◌≡◌, ℕ, ◌+◌, ◌<◌, ◌≤◌, List, [], ◌∷◌, ◌++◌, length, drop, refl, sym, ap, subst, ◌∙◌, arith, length-drop}
use Rattle.std.proofs.lemmas.List.{drop-append-le}
use Rattle.wire_base.specs.declared.place.Place.{Place}
use Rattle.wire_base.specs.Front.{Front, Whole}
use Rattle.wire_base.specs.Given.{Way, First, Begins, HasNone}
use Rattle.wire_base.proofs.Fronts.{IsFrontWithin, IsFrontSteady}

-- places are equal by their numbers
pub place_is : (p q : Place) → p.0 ≡ q.0 → p ≡ q
place_is p q e = subst (λ n. p ≡ record { 0 = n }) e refl

-- what stands at the front stands within the bytes, and stays so whatever follows
pub record IsSteadyWay {A B : Type 0} (way : Way A B) : Type 0 where
  pub within : (bytes : List ℕ) → IsFrontWithin (length bytes) (way.front bytes)
  pub stays : (bytes more : List ℕ) → IsFrontSteady (way.front bytes) (way.front (bytes ++ more))

pub value_is : {A : Type 0} (a b : A) (m n : ℕ) → Whole a m ≡ Whole b n → a ≡ b
value_is a b m n e = cc

size_is : {A : Type 0} (a b : A) (m n : ℕ) → Whole a m ≡ Whole b n → m ≡ n
size_is a b m n e = cc

module _ {A B : Type 0} (way : Way A B) (steady : IsSteadyWay way) where
  pub first_within : (at : ℕ) (stream : List ℕ) (x : B) → (h : First way at stream x) → (0 < h.size) × (h.size ≤ length stream)
  first_within at stream x h = subst (λ (f : Front A). IsFrontWithin (length stream) f) h.whole (steady.within stream)

  first_more : (at : ℕ) (stream more : List ℕ) (x : B) → First way at stream x → First way at (stream ++ more) x
  first_more at stream more x h = record {
    value = h.value;
    size = h.size;
    whole = subst (λ (f : Front A). IsFrontSteady f (way.front (stream ++ more))) h.whole (steady.stays stream more);
    given_is = h.given_is;
  }

  -- more of the stream stands behind the rest
  pub begins_more : (at : ℕ) (stream : List ℕ) (given : List B) (rest more : List ℕ) → Begins way at stream given rest → Begins way at (stream ++ more) given (rest ++ more)
  unfolding first_more
  begins_more at stream [] rest more h = ap (λ (s : List ℕ). s ++ more) h
  begins_more at stream (x ∷ xs) rest more h =
      let size = h.0.size in
      let within = first_within at stream x h.0 in
      let then : Begins way (at + size) (drop size stream ++ more) xs (rest ++ more) = begins_more (at + size) (drop size stream) xs rest more h.1 in
      (first_more at stream more x h.0, rw (drop-append-le size stream more within.1) then)

  -- what is whole at the front of the rest is given next
  pub begins_next : (at : ℕ) (stream : List ℕ) (given : List B) (rest : List ℕ) (there : ℕ) (x : B) → Begins way at stream given rest → there + length rest ≡ at + length stream → (next : First way there rest x)
      → Begins way at stream (given ++ x ∷ []) (drop next.size rest)
  begins_next at stream [] rest there x h p next =
      let same : length stream ≡ length rest = ap length h in
      let here : there ≡ at = omega (arith, p, same) in
      (record { value = next.value; size = next.size; whole = rw h next.whole; given_is = next.given_is ∙ ap (λ n. way.give n next.value) here }, ap (drop next.size) h)
  begins_next at stream (y ∷ ys) rest there x h p next =
      let size = h.0.size in
      let within = first_within at stream y h.0 in
      let later : there + length rest ≡ (at + size) + length (drop size stream) = omega (arith, p, within.1, length-drop size stream) in
      (h.0, begins_next (at + size) (drop size stream) ys rest there x h.1 later next)

  -- two that are first in one stream are one, and so is what follows
  record OneFirst (at : ℕ) (stream : List ℕ) (x y : B) (ys : List B) (rest : List ℕ) (size : ℕ) : Type 0 where
    same : x ≡ y
    then : Begins way (at + size) (drop size stream) ys rest

  one_first : (at : ℕ) (stream : List ℕ) (x y : B) (ys : List B) (rest : List ℕ) → (h : First way at stream x) → Begins way at stream (y ∷ ys) rest → OneFirst at stream x y ys rest h.size
  one_first at stream x y ys rest h k =
      let both : Whole h.value h.size ≡ Whole k.0.value k.0.size = sym h.whole ∙ k.0.whole in
      let size : k.0.size ≡ h.size = sym (size_is h.value k.0.value h.size k.0.size both) in
      record {
        same = h.given_is ∙ ap (way.give at) (value_is h.value k.0.value h.size k.0.size both) ∙ sym k.0.given_is;
        then = subst (λ n. Begins way (at + n) (drop n stream) ys rest) size k.1;
      }

  -- of two lists that a stream begins with, the shorter one is a front of the other
  pub first_given : (at : ℕ) (stream : List ℕ) (xs ys : List B) (a b : List ℕ) → Begins way at stream xs a → Begins way at stream ys b → length xs ≤ length ys → (later : List B) × (ys ≡ xs ++ later)
  first_given at stream [] ys a b h k le = (ys, refl)
  first_given at stream (x ∷ xs) [] a b h k le = absurd (omega arith)
  first_given at stream (x ∷ xs) (y ∷ ys) a b h k le =
      let one = one_first at stream x y ys b h.0 k in
      let r = first_given (at + h.0.size) (drop h.0.size stream) xs ys a b h.1 one.then (omega arith) in
      let same = one.same in
      let then = r.1 in
      (r.0, cc)

  -- two of one length are one, and so is what follows
  pub same_given : (at : ℕ) (stream : List ℕ) (xs ys : List B) (a b : List ℕ) → Begins way at stream xs a → Begins way at stream ys b → length xs ≡ length ys → (xs ≡ ys) × (a ≡ b)
  same_given at stream [] [] a b h k le = (refl, sym h ∙ k)
  same_given at stream [] (y ∷ ys) a b h k le = absurd (omega arith)
  same_given at stream (x ∷ xs) [] a b h k le = absurd (omega arith)
  same_given at stream (x ∷ xs) (y ∷ ys) a b h k le =
      let one = one_first at stream x y ys b h.0 k in
      let r = same_given (at + h.0.size) (drop h.0.size stream) xs ys a b h.1 one.then (omega arith) in
      let same = one.same in
      let then = r.0 in
      (cc, r.1)

  -- where nothing whole stands behind them, they are all
  pub all_given : (at : ℕ) (stream : List ℕ) (xs ys : List B) (a b : List ℕ) → Begins way at stream xs a → HasNone way a → Begins way at stream ys b → (later : List B) × (xs ≡ ys ++ later)
  all_given at stream xs [] a b h none k = (xs, refl)
  all_given at stream [] (y ∷ ys) a b h none k = absurd (none k.0.value k.0.size (rw (← h) k.0.whole))
  all_given at stream (x ∷ xs) (y ∷ ys) a b h none k =
      let one = one_first at stream x y ys b h.0 k in
      let r = all_given (at + h.0.size) (drop h.0.size stream) xs ys a b h.1 none one.then in
      let same = one.same in
      let then = r.1 in
      (r.0, cc)

  pub begins_within : (at : ℕ) (stream : List ℕ) (given : List B) (rest : List ℕ) → Begins way at stream given rest → length rest ≤ length stream
  begins_within at stream [] rest h = omega (arith, ap length h)
  begins_within at stream (x ∷ xs) rest h =
      omega (arith, begins_within (at + h.0.size) (drop h.0.size stream) xs rest h.1, length-drop h.0.size stream)

  -- the last one that is given stands whole at the front behind the others
  pub record Last (at : ℕ) (stream : List ℕ) (given : List B) (x : B) : Type 0 where
    pub rest : List ℕ
    pub there : ℕ
    pub begins : Begins way at stream given rest
    pub first : First way there rest x
    pub place_is : there + length rest ≡ at + length stream

  pub last_given : (at : ℕ) (stream : List ℕ) (given : List B) (x : B) (rest : List ℕ) → Begins way at stream (given ++ x ∷ []) rest → Last at stream given x
  last_given at stream [] x rest h = record { rest = stream; there = at; begins = refl; first = h.0; place_is = refl }
  last_given at stream (y ∷ ys) x rest h =
      let size = h.0.size in
      let within = first_within at stream y h.0 in
      let last = last_given (at + size) (drop size stream) ys x rest h.1 in
      record {
        rest = last.rest;
        there = last.there;
        begins = (h.0, last.begins);
        first = last.first;
        place_is = omega (arith, last.place_is, within.1, length-drop size stream);
      }
