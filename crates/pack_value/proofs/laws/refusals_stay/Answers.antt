use Rattle.pack_value.proofs.Apart.{stays, one, unspelled}
use Rattle.pack_value.proofs.laws.refusals_stay.Goals as goal

pub returns-clause-stays : goal.returns-clause-stays
returns-clause-stays c = stays

pub returns-clause-one : goal.returns-clause-one
returns-clause-one c = one

pub returns-clause-unspelled : goal.returns-clause-unspelled
returns-clause-unspelled c = unspelled
