use Rattle.std.proofs.Common.{◌++◌, ap, ◌∙◌}
use Rattle.mux_run.specs.declared.steps.Side.TheVariants.{A, B}
use Rattle.transcript.specs.Words.{emitted_line}
use Rattle.transcript.proofs.Whole.{opening_is}
use Rattle.transcript.proofs.running.push_opening.Goals as goal

pub returns : goal.returns
returns c =
    opening_is c.args.duo.now c.args.out.now.items _ _ _ c.requires.fresh c.requires.stands c.in_ok-push_text.ensures
    (c.in_ok-push_emitted_line.ensures ∙ ap (λ bs. c.push_text.new.out.items ++ emitted_line A bs) c.in_flight.ensures.output)
    (c.in_ok-push_emitted_line-2.ensures ∙ ap (λ bs. c.push_emitted_line.new.out.items ++ emitted_line B bs) c.in_flight-2.ensures.output)
