use Rattle.std.proofs.Common.{◌≡◌, drop}
use Rattle.message_framing.specs.Fields.{trim_front}
use Rattle.message_framing.proofs.field.trim_front.Given as goal

abbrev pub invariant-loop-i : goal.invariant-loop-i
invariant-loop-i l = trim_front l.bytes ≡ trim_front (drop l.i l.bytes)
