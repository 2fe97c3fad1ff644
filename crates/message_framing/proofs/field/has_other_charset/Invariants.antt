use Rattle.std.proofs.Common.{◌≡◌, drop}
use Rattle.message_framing.specs.Fields.{has_other_charset}
use Rattle.message_framing.proofs.field.has_other_charset.Given as goal

abbrev pub invariant-loop-i : goal.invariant-loop-i
invariant-loop-i l = has_other_charset l.value ≡ has_other_charset (drop l.i l.value)
