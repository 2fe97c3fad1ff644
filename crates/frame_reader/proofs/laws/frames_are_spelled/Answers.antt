use Rattle.frame_reader.proofs.Spelled.{refused_breaks}
use Rattle.frame_reader.proofs.laws.frames_are_spelled.Goals as goal

pub returns-clause-refused : goal.returns-clause-refused
returns-clause-refused c = refused_breaks
