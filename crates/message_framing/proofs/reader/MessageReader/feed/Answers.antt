use Rattle.std.proofs.Common.{arith}
use Rattle.std.proofs.lemmas.Grind.{common_steps}
use Rattle.message_framing.proofs.Streams.{reads-fed, refuses-more}
use Rattle.message_framing.proofs.reader.MessageReader.feed.Goals as goal

pub returns-clause-reads : goal.returns-clause-reads
returns-clause-reads c = λ stream given h. reads-fed c.args.self.now _ stream given c.args.piece.now (grind (arith, common_steps)) h

pub returns-clause-refuses : goal.returns-clause-refuses
returns-clause-refuses c = λ place reason h. refuses-more c.args.self.now _ c.args.piece.now place reason (grind (arith, common_steps)) h
