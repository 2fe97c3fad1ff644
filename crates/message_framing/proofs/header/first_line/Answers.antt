use Rattle.std.proofs.Common.{sym, ◌∙◌}
use Rattle.message_framing.proofs.LineLemmas.{lines-more, lines-found, lines-none, end_fits, line_sizes}
use Rattle.message_framing.proofs.header.first_line.Goals as goal

pub returns-then-is_end : goal.returns-then-is_end
returns-then-is_end c =
    let bytes = c.args.bytes.now in
    let i = c.loop-i.i in
    let ends = sym c.is_end.ensures ∙ c.if-is_end.true in
    (lines-found bytes i c.loop-i-test.true c.loop-i.invariant ends, line_sizes bytes i (end_fits bytes i ends))

pub loop-i-preserved : goal.loop-i-preserved
loop-i-preserved c =
    lines-more c.args.bytes.now c.loop-i.i c.loop-i-test.true c.loop-i.invariant (sym c.is_end.ensures ∙ c.if-is_end.false)

pub returns : goal.returns
returns c = lines-none c.args.bytes.now c.loop-i.i c.loop-i-test.false c.loop-i.invariant
