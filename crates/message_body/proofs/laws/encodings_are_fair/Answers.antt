use Rattle.message_body.proofs.Lengths.{fair}
use Rattle.message_body.proofs.laws.encodings_are_fair.Goals as goal

pub returns : goal.returns
returns c = fair
