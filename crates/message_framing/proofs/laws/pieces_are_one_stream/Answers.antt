use Rattle.message_framing.proofs.OneStream.{pieces_given, pieces_left}
use Rattle.message_framing.proofs.laws.pieces_are_one_stream.Goals as goal

pub returns-clause-given : goal.returns-clause-given
returns-clause-given c = pieces_given

pub returns-clause-left : goal.returns-clause-left
returns-clause-left c = pieces_left
