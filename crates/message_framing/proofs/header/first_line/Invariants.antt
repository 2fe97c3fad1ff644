use Rattle.message_framing.proofs.LineLemmas.{Passed}
use Rattle.message_framing.proofs.header.first_line.Given as goal

abbrev pub invariant-loop-i : goal.invariant-loop-i
invariant-loop-i l = Passed l.bytes l.i
