use Rattle.pack_value.proofs.Apart.{found_is, broken_is, short_is}
use Rattle.pack_value.proofs.laws.fronts_are_known.Goals as goal

pub returns-clause-found : goal.returns-clause-found
returns-clause-found c = found_is

pub returns-clause-broken : goal.returns-clause-broken
returns-clause-broken c = broken_is

pub returns-clause-short : goal.returns-clause-short
returns-clause-short c = short_is
