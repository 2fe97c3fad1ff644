-- What follows a front, where a text begins with it.
use Rattle.std.specs.Prelude.{◌==◌, ◌≢◌, MatchOption, Option, Some, None}
use Rattle.std.specs.Str.Pattern.{FindsTextPrefix, StripsPrefix}
use Rattle.std.proofs.Common.{◌≡◌, ℕ, List, [], ◌∷◌, ◌++◌, refl, sym, ◌∙◌, ap, ap₂, inl, inr, eq-eqb}
use Rattle.std.proofs.lemmas.Bool.{cases_Bool}
use Rattle.std.proofs.lemmas.Bool.Decides.{Decides-eqb}
use denote.Ref.{Bor}
use Rattle.rpc_items.specs.Methods.{after_front}

after_it : (front rest : List ℕ) → after_front front (front ++ rest) ≡ Some rest
after_it [] rest = refl
after_it (a ∷ front) rest = rw (eq-eqb a a refl) (after_it front rest)

pub not_there : (front s : List ℕ) → ((rest : List ℕ) → s ≢ front ++ rest) → after_front front s ≡ None
not_there [] s none = absurd (none s refl)
not_there (a ∷ front) [] none = refl
not_there (a ∷ front) (b ∷ s) none = elim (cases_Bool (a == b)) [
  | inl e ↦ rw e (not_there front s (λ rest same. none rest (ap₂ (λ (c : ℕ) (t : List ℕ). c ∷ t) (sym ((Decides-eqb a b).0 e)) same)))
  | inr e ↦ rw e refl
]

-- the text behind a front, where it was cut off
abbrev pub behind : Option (Bor (List ℕ)) → Option (List ℕ)
behind (Some text) = Some text.now
behind None = None

pub stripped : (front s : List ℕ) (r : Option (Bor (List ℕ))) → MatchOption r (FindsTextPrefix front s None) (λ x. StripsPrefix (FindsTextPrefix front) s x.now) → after_front front s ≡ behind r
stripped front s (Some text) h = ap (after_front front) (h.1.1 ∙ ap (λ (rest : List ℕ). front ++ rest) (sym h.2)) ∙ after_it front text.now
stripped front s None none = not_there front s none
