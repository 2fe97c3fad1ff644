use Rattle.duo_world.proofs.Starting.{begun_holds}
use Rattle.duo_world.proofs.duo.Duo.start.Goals as goal

pub returns-clause-holds : goal.returns-clause-holds
returns-clause-holds c = begun_holds _ _ c.in_ok-a.a c.in_ok-b.b c.new.ensures c.in_ok-a.ensures c.in_ok-b.ensures
