use Rattle.mux_run.proofs.Ended.{ended_stays}
use Rattle.mux_run.proofs.laws.an_ended_side_stays.Goals as goal

pub returns : goal.returns
returns c = ended_stays
