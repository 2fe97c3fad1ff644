-- Values without blanks, and parts up to a mark.
use Rattle.std.proofs.Common.{◌≡◌, ℕ, ◌<◌, ◌^◌, ◌*◌, ◌+◌, zero, suc, true, false, List, [], ◌∷◌, ◌++◌, refl, ap, arith, add-one, ◌==◌}
use Rattle.std.proofs.lemmas.Bool.{or_parts}
use Rattle.std.proofs.Math.Nat.{pow-suc}
use Rattle.message_framing.specs.Fields.{is_blank, onto_trimmed, trim_back, before, has}

pub trim_back-blank : (bytes : List ℕ) (b : ℕ) → is_blank b ≡ true → trim_back (bytes ++ b ∷ []) ≡ trim_back bytes
trim_back-blank [] b e = rw e refl
trim_back-blank (c ∷ bytes) b e = ap (onto_trimmed c) (trim_back-blank bytes b e)

pub trim_back-other : (bytes : List ℕ) (b : ℕ) → is_blank b ≡ false → trim_back (bytes ++ b ∷ []) ≡ bytes ++ b ∷ []
trim_back-other [] b e = rw e refl
trim_back-other (c ∷ []) b e = ap (onto_trimmed c) (trim_back-other [] b e)
trim_back-other (c ∷ d ∷ bytes) b e = ap (onto_trimmed c) (trim_back-other (d ∷ bytes) b e)

pub ruleset trims = (trim_back-blank, trim_back-other)

-- where no byte is the mark, all stand before it
pub before_none : (mark : ℕ) (bytes : List ℕ) → has mark bytes ≡ false → before mark bytes ≡ bytes
before_none mark [] e = refl
before_none mark (b ∷ bytes) e =
    let none = or_parts (b == mark) (has mark bytes) e in
    rw none.0 (ap (λ (rest : List ℕ). b ∷ rest) (before_none mark bytes none.1))

pub ruleset parts = (before_none)

-- fewer than 8 digits say less than ten million
digits_fit : (n i : ℕ) → n < 10 ^ i → i < 8 → n < 10 ^ 7
digits_fit n zero h lt = omega arith
digits_fit n (suc zero) h lt = omega arith
digits_fit n (suc (suc zero)) h lt = omega arith
digits_fit n (suc (suc (suc zero))) h lt = omega arith
digits_fit n (suc (suc (suc (suc zero)))) h lt = omega arith
digits_fit n (suc (suc (suc (suc (suc zero))))) h lt = omega arith
digits_fit n (suc (suc (suc (suc (suc (suc zero)))))) h lt = omega arith
digits_fit n (suc (suc (suc (suc (suc (suc (suc zero))))))) h lt = omega arith
digits_fit n (suc (suc (suc (suc (suc (suc (suc (suc i)))))))) h lt = absurd (omega arith)

-- and one digit more fits
pub number_fits : (n i d : ℕ) → n < 10 ^ i → i < 8 → d < 10 → n * 10 + d < 10 ^ 8
number_fits n i d h lt digit = omega (arith, digits_fit n i h lt)

pub number_grows : (n i d : ℕ) → n < 10 ^ i → d < 10 → n * 10 + d < 10 ^ (i + 1)
number_grows n i d h digit = rw (add-one i, pow-suc 10 i) (omega arith)

pub ruleset numbers = (number_fits, number_grows)
