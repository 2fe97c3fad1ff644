use Rattle.message_framing.proofs.FrontLemmas.{header_is_within, length_is_within}
use Rattle.message_framing.proofs.reading.front.Goals as goal

pub returns-in-Header-clause-within : goal.returns-in-Header-clause-within
returns-in-Header-clause-within c = header_is_within c.args.bytes.now c.header_front.result c.header_front.ensures

pub returns-in-Length-clause-within : goal.returns-in-Length-clause-within
returns-in-Length-clause-within c = length_is_within c.args.bytes.now c.length_front.result c.length_front.ensures
