-- Ids that are the same.
use Rattle.std.specs.Prelude.{true}
use Rattle.std.proofs.Common.{◌≡◌, ℕ, sym, refl, ◌∙◌, ap, inl, inr}
use Rattle.std.proofs.lemmas.Bool.{cases_Bool}
use Rattle.std.proofs.lemmas.Bool.Decides.{Decides-int_eq}
use Rattle.std.proofs.lemmas.Slice.Eq.{bytes_eq-Decides}
use Rattle.wire_base.specs.declared.text.Id.{Id}
use Rattle.wire_base.specs.declared.text.Id.TheVariants.{Number, Name}
use Rattle.rpc_items.specs.Ids.{numbered_id, same_id}

pub same_id_eq : (a b : Id) → same_id a b ≡ true → a ≡ b
same_id_eq (Number a) (Number b) e = ap Number ((Decides-int_eq a b).0 e)
same_id_eq (Name a) (Name b) e = ap Name ((bytes_eq-Decides a b).0 e)
same_id_eq (Number a) (Name b) e = absurd (cc e)
same_id_eq (Name a) (Number b) e = absurd (cc e)

pub same_id_refl : (id : Id) → same_id id id ≡ true
same_id_refl (Number z) = (Decides-int_eq z z).1 refl
same_id_refl (Name s) = (bytes_eq-Decides s s).1 refl

pub same_id_sym : (a b : Id) → same_id a b ≡ same_id b a
same_id_sym a b = elim (cases_Bool (same_id a b)) [
  | inl e ↦ e ∙ sym (ap (λ (x : Id). same_id b x) (same_id_eq a b e) ∙ same_id_refl b)
  | inr e ↦ elim (cases_Bool (same_id b a)) [
    | inl f ↦ absurd (cc (sym (ap (λ (x : Id). same_id a x) (same_id_eq b a f) ∙ same_id_refl a) ∙ e))
    | inr f ↦ e ∙ sym f
  ]
]

-- of those that are numbers, the numbers
pub number_eq : (a b : ℕ) → numbered_id a ≡ numbered_id b → a ≡ b
number_eq a b e = cc e
