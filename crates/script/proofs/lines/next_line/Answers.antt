use Rattle.std.proofs.Common.{◌<◌, ◌+◌, length, arith, sym, ◌∙◌}
use Rattle.std.proofs.lemmas.List.{take_rest}
use Rattle.std.proofs.lemmas.Bool.Decides.{nat_tests}
use Rattle.script.proofs.LineLemmas.{lines_of-ended, lines_of-open, lines_of_end}
use Rattle.script.proofs.lines.next_line.Goals as goal

pub returns-in-Some-clause-line : goal.returns-in-Some-clause-line
returns-in-Some-clause-line c =
    rw (take_rest c.args.bytes.now (c.in-Some.end + 1)) (lines_of-ended c.args.bytes.now c.in-Some.end (sym c.line_end.ensures ∙ c.in-Some.is))

pub returns-in-None-clause-line : goal.returns-in-None-clause-line
returns-in-None-clause-line c =
    let some : 0 < length c.args.bytes.now = grind (arith, nat_tests, c.is_empty.ensures, c.if-is_empty.false) in
    rw (take_rest c.args.bytes.now (length c.args.bytes.now), lines_of_end c.args.bytes.now)
    (lines_of-open c.args.bytes.now some (sym c.line_end.ensures ∙ c.in-None.is))
