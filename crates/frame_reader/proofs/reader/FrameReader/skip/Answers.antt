use Rattle.frame_reader.proofs.Streams.{frame_within}
use Rattle.frame_reader.proofs.reader.FrameReader.skip.Goals as goal

pub give-requires : goal.give-requires
give-requires g c = frame_within c.args.size c.args.self.now c.requires
