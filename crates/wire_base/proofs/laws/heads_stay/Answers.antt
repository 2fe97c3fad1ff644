use Rattle.wire_base.proofs.HeadLemmas.{head_within, head_stays, refused_stays, head_front, head_cut}
use Rattle.wire_base.proofs.laws.heads_stay.Goals as goal

pub returns-clause-within : goal.returns-clause-within
returns-clause-within c = head_within

pub returns-clause-got : goal.returns-clause-got
returns-clause-got c = head_stays

pub returns-clause-refused : goal.returns-clause-refused
returns-clause-refused c = refused_stays

pub returns-clause-front : goal.returns-clause-front
returns-clause-front c = head_front

pub returns-clause-cut : goal.returns-clause-cut
returns-clause-cut c = head_cut
