use Rattle.std.proofs.Common.{◌∙◌, sym}
use Rattle.duo_world.proofs.Worlds.{steps_a, steps_b}
use Rattle.duo_world.proofs.ends.make_step.Goals as goal

pub returns-in-A : goal.returns-in-A
returns-in-A c = λ terms w r.
    steps_a terms c.args.step.now c.args.a.now c.step_at.new.own c.args.b.now c.step_at.new.peer w c.step_at.result (sym c.side_of.ensures ∙ c.in-A.is) c.step_at.ensures r

pub returns-in-B : goal.returns-in-B
returns-in-B c = λ terms w r.
    steps_b terms c.args.step.now c.args.a.now c.step_at-in-B.new.peer c.args.b.now c.step_at-in-B.new.own w c.step_at-in-B.result (sym c.side_of.ensures ∙ c.in-B.is) c.step_at-in-B.ensures r
