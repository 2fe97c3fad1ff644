use Rattle.std.proofs.Common.{arith}
use Rattle.message_framing.proofs.FieldLemmas.{number_fits}
use Rattle.message_framing.proofs.field.number.Goals as goal

pub overflow_mul-number : goal.overflow_mul-number
overflow_mul-number c =
    omega (arith, number_fits c.loop-byte.number c.loop-byte.byte-index 0 c.loop-byte.invariant.1 (omega (arith, c.loop-byte-test.true, c.if-value-gt-MAX_DIGITS.false)) (omega arith))

pub overflow_add-number : goal.overflow_add-number
overflow_add-number c =
    omega (arith, number_fits c.loop-byte.number c.loop-byte.byte-index c.in_ok-digit.digit c.loop-byte.invariant.1 (omega (arith, c.loop-byte-test.true, c.if-value-gt-MAX_DIGITS.false)) c.in_ok-digit.ensures.below)
