use Rattle.mux_run.specs.declared.steps.Side.TheVariants.{A, B}
use Rattle.endpoint_run.specs.Answers.{run}
use Rattle.transcript.proofs.Whole.{closing_is, summary_told}
use Rattle.transcript.proofs.running.push_closing.Goals as goal

pub returns : goal.returns
returns c =
    let d = c.args.duo.now in
    let w = run d.terms d.steps in
    closing_is d c.args.out.now.items _ _ _ _ c.requires c.in_ok-push_text.ensures
    (summary_told c.end.result.now d.a A w.a.items _ _ _ _ c.end.ensures.end c.requires.at_own.stands c.in_ok-push_summary.ensures)
    (summary_told c.end-2.result.now d.b B w.b.items _ _ _ _ c.end-2.ensures.end c.requires.at_peer.stands c.in_ok-push_summary-2.ensures)
    c.in_ok-push_text-2.ensures
