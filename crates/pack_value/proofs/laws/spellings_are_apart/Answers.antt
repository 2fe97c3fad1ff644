use Rattle.pack_value.proofs.Apart.{apart}
use Rattle.pack_value.proofs.laws.spellings_are_apart.Goals as goal

pub returns : goal.returns
returns c = apart
