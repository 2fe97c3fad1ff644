use Rattle.std.proofs.Common.{◌++◌, ap, ◌∙◌, subst}
use Rattle.mux_run.specs.Run.{terms_of}
use Rattle.endpoint_run.specs.Run.{start}
use Rattle.transcript.specs.Ran.{HasRun}
use Rattle.transcript.specs.Report.{steps_lines}
use Rattle.transcript.proofs.Whole.{report_is, has_run}
use Rattle.transcript.proofs.running.push_report.Goals as goal

pub returns : goal.returns
returns c =
    let s = c.args.script in
    let old = c.in_ok-duo.duo in
    let new = c.push_steps.new.duo in
    let ran : HasRun old.terms s.steps new = subst (λ ss. HasRun old.terms ss new) c.into_vec.ensures c.in_ok-push_steps.ensures.made in
    record {
      text = report_is (terms_of s.version s.nonces) s.steps old new c.args.out.now.items _ _ _ c.in_ok-duo.ensures.fresh.2 ran c.in_ok-push_opening.ensures
          (c.in_ok-push_steps.ensures.text ∙ ap (λ ss. c.push_opening.new.out.items ++ steps_lines old.terms 1 start ss) c.into_vec.ensures) c.in_ok-push_closing.ensures;
      ran = has_run (terms_of s.version s.nonces) s.steps old new c.in_ok-duo.ensures.fresh.2 ran;
    }

pub push_closing-requires : goal.push_closing-requires
push_closing-requires c = c.in_ok-push_steps.ensures.made.stands
