use Rattle.marshalled_handles.proofs.Numbers.{adopted_among, adopted_increase}
use Rattle.marshalled_handles.proofs.laws.adopted_handles_have_rising_numbers.Goals as goal

pub returns-clause-rise : goal.returns-clause-rise
returns-clause-rise c = adopted_increase

pub returns-clause-among : goal.returns-clause-among
returns-clause-among c = adopted_among
