use Rattle.std.proofs.Common.{◌≡◌, length}
use Rattle.message_framing.specs.Fields.{trim_back}
use Rattle.message_framing.proofs.field.trim_back.Given as goal

abbrev pub invariant-loop-last : goal.invariant-loop-last
invariant-loop-last l = trim_back l.fn.bytes ≡ trim_back l.bytes

abbrev pub decreases-loop-last : goal.decreases-loop-last
decreases-loop-last l = length l.bytes
