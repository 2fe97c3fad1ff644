-- Numbers that digits say.
use Rattle.std.specs.Prelude.{◌^◌}
use Rattle.std.proofs.Common.{ℕ, ◌+◌, ◌*◌, ◌<◌, ◌≤◌, arith, add-one}
use Rattle.std.proofs.Math.Nat.{pow-suc, pow-le-pow_right}

-- fewer than 19 digits and one more say a number of 64 bits
pub handle_fits : (n i d : ℕ) → n < 10 ^ i → i < 19 → d < 10 → n * 10 + d < 10 ^ 19
handle_fits n i d l few digit =
    let most : 10 ^ i ≤ 10 ^ 18 = pow-le-pow_right {n = 10} (omega arith) {j = 18} (omega (arith, few)) in
    omega (arith, l, most, digit)

pub handle_grows : (n i d : ℕ) → n < 10 ^ i → d < 10 → n * 10 + d < 10 ^ (i + 1)
handle_grows n i d l digit = rw (add-one i, pow-suc 10 i) (omega arith)

pub ruleset handles = (handle_fits, handle_grows)
