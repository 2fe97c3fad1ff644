use Rattle.message_framing.proofs.OneStream.{one_answer, body_stays, refused_stays, all_from_start}
use Rattle.message_framing.proofs.laws.stream_has_one_answer.Goals as goal

pub returns-clause-one : goal.returns-clause-one
returns-clause-one c = one_answer

pub returns-clause-body_stays : goal.returns-clause-body_stays
returns-clause-body_stays c = body_stays

pub returns-clause-refused_stays : goal.returns-clause-refused_stays
returns-clause-refused_stays c = refused_stays

pub returns-clause-all : goal.returns-clause-all
returns-clause-all c = all_from_start
