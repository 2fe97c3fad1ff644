-- Reading one after the other, as a loop does.
use Rattle.std.proofs.Common.{◌≡◌, ℕ, suc, ◌-◌, ◌+◌, ◌≤◌, ◌<◌, List, [], ◌∷◌, ◌++◌, Ok, Err, refl, sym, ap, ◌∙◌, append_assoc, arith}
use Rattle.std.proofs.lemmas.List.{append-nil}
use Rattle.wire_base.specs.declared.reading.DecodeError.{DecodeError}
use Rattle.wire_base.specs.declared.reading.DecodeError.TheVariants as errors
use Rattle.wire_base.specs.Tokens.{Reading, Reader, Fails, follow, done}
use Rattle.pack_value.specs.Reading.{repeat}

-- what was read before, and what is still read
abbrev pub with_front : {A : Type 0} → List A → Reading (List A) → Reading (List A)
with_front front read = follow read (λ xs. done (front ++ xs))

regroup : {A : Type 0} (front : List A) (t : A) (read : Reading (List A)) → with_front front (follow read (λ xs. done (t ∷ xs))) ≡ with_front (front ++ t ∷ []) read
regroup {A} front t (Ok x) = ap (λ (ts : List A). Ok (ts, x.1)) (simp append_assoc)
regroup front t (Err f) = refl

module _ {A : Type 0} (read : Reader A) (front : List A) (count i : ℕ) (rest : List ℕ) (total : Reading (List A)) where
  pub goes_on : (t : A) (after : List ℕ) → i < count → read rest ≡ Ok (t, after)
      → with_front front (repeat read (count - i) rest) ≡ total → with_front (front ++ t ∷ []) (repeat read (count - (i + 1)) after) ≡ total
  unfolding repeat
  goes_on t after lt h so_far =
      let k : count - i ≡ suc (count - (i + 1)) = omega arith in
      let one : with_front front (repeat read (count - i) rest) ≡ with_front (front ++ t ∷ []) (repeat read (count - (i + 1)) after) = rw (k, h) (regroup front t (repeat read (count - (i + 1)) after)) in
      sym one ∙ so_far

  pub ends : (e : DecodeError) → i < count → Fails e (read rest) → with_front front (repeat read (count - i) rest) ≡ total → Fails e total
  unfolding repeat
  ends errors.Memory lt h so_far = tt
  ends (errors.Fault f) lt h so_far =
      let k : count - i ≡ suc (count - (i + 1)) = omega arith in
      let one : with_front front (repeat read (count - i) rest) ≡ Err f = rw (k, h) refl in
      sym so_far ∙ one

  pub is_done : count ≤ i → with_front front (repeat read (count - i) rest) ≡ total → total ≡ Ok (front, rest)
  unfolding repeat
  is_done le so_far =
      let k : count - i ≡ 0 = omega arith in
      let one : with_front front (repeat read (count - i) rest) ≡ Ok (front, rest) = rw k (ap (λ (ts : List A). Ok (ts, rest)) (append-nil front)) in
      sym so_far ∙ one
