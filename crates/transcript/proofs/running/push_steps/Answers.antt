use Rattle.std.proofs.Common.{◌≡◌, ◌+◌, ◌∷◌, ◌++◌, [], length, length-append, ◌∙◌, ap, arith}
use Rattle.endpoint_run.specs.Answers.{run}
use Rattle.transcript.specs.Report.{step_lines}
use Rattle.transcript.proofs.Reported.{stored_next, lines_next, number_fits, all_stored, all_hold}
use Rattle.transcript.proofs.running.push_steps.Goals as goal

pub overflow_add-number : goal.overflow_add-number
overflow_add-number c =
    let fits = number_fits c.args.steps.items c.loop-step.duo.steps _ _ c.in-Some.step c.in-Some.ensures.steps.0 c.loop-step.invariant.stored in
    omega (arith, fits, c.loop-step.invariant.number, c.args.steps.small)

pub loop-step-preserved : goal.loop-step-preserved
loop-step-preserved c =
    let made = c.in_ok-push_step.ensures.made.1 in
    let inv = c.loop-step.invariant in
    record {
      terms = made.terms_are ∙ inv.terms;
      stored = stored_next c.args.steps.items c.loop-step.duo.steps _ _ c.push_step.new.duo.steps c.in-Some.step c.in-Some.ensures.steps.0 inv.stored made.steps_are;
      number = omega (arith, inv.number, ap length made.steps_are, length-append c.loop-step.duo.steps (c.in-Some.step ∷ []));
      works = made.works;
      stands = made.stands;
      text = lines_next c.args.duo.now.terms c.loop-step.number c.loop-step.duo.steps _ _ c.push_step.new.duo.steps c.in-Some.step _ _ _ c.in-Some.ensures.steps.0 made.steps_are
          (c.in_ok-push_step.ensures.text ∙ ap (λ t. c.loop-step.out.items ++ step_lines t (c.loop-step.number + 1) c.in-Some.step (run t c.loop-step.duo.steps)) inv.terms) inv.text;
    }

pub returns-clause-made : goal.returns-clause-made
returns-clause-made c =
    let inv = c.loop-step.invariant in
    let none : length c.loop-step.step-iterator.rest.items ≡ 0 = omega (arith, c.in-None.ensures.steps.0, c.loop-step.step-iterator.rest.ok) in
    let stored = all_stored c.args.steps.items c.loop-step.duo.steps _ none inv.stored in
    record {
      stored = stored;
      terms_are = inv.terms;
      works = inv.works;
      stands = inv.stands;
      holds = all_hold c.args.duo.now.terms c.args.steps.items c.loop-step.duo inv.terms stored inv.stands;
    }
