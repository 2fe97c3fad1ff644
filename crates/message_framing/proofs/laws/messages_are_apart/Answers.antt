use Rattle.message_framing.proofs.WrapLemmas.{apart}
use Rattle.message_framing.proofs.laws.messages_are_apart.Goals as goal

pub returns : goal.returns
returns c = apart
