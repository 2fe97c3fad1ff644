use Rattle.message_framing.proofs.WrapLemmas.{wrapped_whole, wrapped_body, wrapped_cut}
use Rattle.message_framing.proofs.laws.wrapped_is_read.Goals as goal

pub returns-clause-whole : goal.returns-clause-whole
returns-clause-whole c = wrapped_whole

pub returns-clause-body : goal.returns-clause-body
returns-clause-body c = wrapped_body

pub returns-clause-cut : goal.returns-clause-cut
returns-clause-cut c = wrapped_cut
