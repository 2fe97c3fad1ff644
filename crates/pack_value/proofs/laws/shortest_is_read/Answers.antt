use Rattle.pack_value.proofs.Apart.{shortest_read}
use Rattle.pack_value.proofs.Spelled.{shortest_is_spelling}
use Rattle.pack_value.proofs.laws.shortest_is_read.Goals as goal

pub returns-clause-spelled : goal.returns-clause-spelled
returns-clause-spelled c = shortest_is_spelling

pub returns-clause-read : goal.returns-clause-read
returns-clause-read c = shortest_read
