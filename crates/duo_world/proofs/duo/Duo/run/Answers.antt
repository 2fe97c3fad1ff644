use Rattle.duo_world.proofs.Worlds.{run_holds}
use Rattle.duo_world.proofs.duo.Duo.run.Goals as goal

pub returns-clause-holds : goal.returns-clause-holds
returns-clause-holds c = run_holds _ _ c.loop-step.duo.a c.loop-step.duo.b c.loop-step.invariant.stands
