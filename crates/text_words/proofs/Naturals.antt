-- Whole numbers from 0 up.
use Rattle.std.proofs.Common.{◌≡◌, ℕ, ℤ, pos, negsuc, refl, ap, Some, Result, Ok, Err, w64, arith}
use Rattle.std.specs.Int.{FitsUnsigned}
use Rattle.std.specs.Int.RustNames.{unsigned_abs}
use Rattle.std.specs.Result.{OkIff, result_ok}
use Rattle.std.proofs.lemmas.Int.{ints}
use Rattle.wire_base.specs.Whole.{IsWhole}
use Rattle.text_words.specs.Json.{natural_of}

-- what a cast to 64 bits without a sign makes of one
pub natural_from_try : {E : Type 0} (z : ℤ) (r : Result ℕ E) → OkIff r (FitsUnsigned w64 z) (unsigned_abs z) → IsWhole z → result_ok r ≡ natural_of z
natural_from_try (pos n) (Ok x) h fits = ap Some h.1
natural_from_try (pos n) (Err e) h fits = absurd (h (omega (arith, ints), fits.1))
natural_from_try (negsuc n) (Ok x) h fits = absurd (omega (arith, ints, h.0.0))
natural_from_try (negsuc n) (Err e) h fits = refl
