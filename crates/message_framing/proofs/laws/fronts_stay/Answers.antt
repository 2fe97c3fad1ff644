use Rattle.message_framing.proofs.FrontLemmas.{whole_within, front_stays, broken_stays, front_cut}
use Rattle.message_framing.proofs.laws.fronts_stay.Goals as goal

pub returns-clause-within : goal.returns-clause-within
returns-clause-within c = whole_within

pub returns-clause-whole : goal.returns-clause-whole
returns-clause-whole c = front_stays

pub returns-clause-broken : goal.returns-clause-broken
returns-clause-broken c = broken_stays

pub returns-clause-cut : goal.returns-clause-cut
returns-clause-cut c = front_cut
