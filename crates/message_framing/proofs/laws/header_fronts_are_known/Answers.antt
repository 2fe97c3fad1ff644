use Rattle.message_framing.proofs.Known.{whole_has_content, content_is_whole, broken_breaks, breaks_is_broken}
use Rattle.message_framing.proofs.laws.header_fronts_are_known.Goals as goal

pub returns-clause-whole : goal.returns-clause-whole
returns-clause-whole c = λ bytes start size. (whole_has_content bytes start size, content_is_whole bytes start size)

pub returns-clause-broken : goal.returns-clause-broken
returns-clause-broken c = λ bytes offset reason. (broken_breaks bytes offset reason, breaks_is_broken bytes offset reason)
