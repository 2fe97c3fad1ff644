-- Whether two names of channels are the same.
use Rattle.std.specs.Prelude.{Bool, true, false, not, ◌==◌}
use Rattle.std.proofs.Common.{◌≡◌, ◌⊎◌, inl, inr, ℕ, refl, sym, subst, arith}
use Rattle.std.proofs.lemmas.Bool.{and_parts, cases_Bool, eqb-true}
use Rattle.std.proofs.lemmas.Bool.Decides.{nat_tests}
use Rattle.mux_items.specs.declared.channel.ChannelKey.{ChannelKey}
use Rattle.mux_items.specs.Bodies.{same_bool, same_key, other_key}

same_bool_refl : (b : Bool) → same_bool b b ≡ true
same_bool_refl true = refl
same_bool_refl false = refl

same_bool_true : (a b : Bool) → same_bool a b ≡ true → a ≡ b
same_bool_true true true e = refl
same_bool_true true false e = sym e
same_bool_true false true e = e
same_bool_true false false e = refl

same_bool-not : (a b : Bool) → same_bool (not a) (not b) ≡ same_bool a b
same_bool-not true true = refl
same_bool-not true false = refl
same_bool-not false true = refl
same_bool-not false false = refl

same_number : (n : ℕ) → (n == n) ≡ true
same_number n = grind (arith, nat_tests)

pub same_key_refl : (c : ChannelKey) → same_key c c ≡ true
same_key_refl c = rw (same_number c.id, same_bool_refl c.own) refl

abbrev key_of_parts : ℕ → Bool → ChannelKey
key_of_parts id own = record { id = id; own = own }

same_parts : (i j : ℕ) (p q : Bool) → i ≡ j → p ≡ q → key_of_parts i p ≡ key_of_parts j q
same_parts i j p q e f = cc

pub same_key_true : (a b : ChannelKey) → same_key a b ≡ true → a ≡ b
same_key_true a b e =
    let parts = and_parts (a.id == b.id) (same_bool a.own b.own) e in
    same_parts a.id b.id a.own b.own (eqb-true a.id b.id parts.0) (same_bool_true a.own b.own parts.1)

pub same_key_turned : (a b : ChannelKey) → same_key a b ≡ true → same_key b a ≡ true
same_key_turned a b e = subst (λ k. same_key k a ≡ true) (same_key_true a b e) (same_key_refl a)

pub same_key_other : (a b : ChannelKey) → same_key (other_key a) (other_key b) ≡ same_key a b
same_key_other a b = rw (same_bool-not a.own b.own) refl

pub key_cases : (a b : ChannelKey) → (a ≡ b) ⊎ (same_key a b ≡ false)
key_cases a b = elim (cases_Bool (same_key a b)) [
  | inl e ↦ inl (same_key_true a b e)
  | inr e ↦ inr e
]
