-- What is given up was whole.
use Rattle.message_framing.proofs.Streams.{skip_within, skip_reads, skip_refuses}
use Rattle.message_framing.proofs.reader.MessageReader.skip.Goals as goal

pub give-requires : goal.give-requires
give-requires c = skip_within c.args.self.now c.args.start c.args.size c.requires

pub returns-clause-reads : goal.returns-clause-reads
returns-clause-reads c = λ stream given h. skip_reads c.args.self.now c.give.new.self c.args.start c.args.size stream given c.requires c.give.ensures h

pub returns-clause-refuses : goal.returns-clause-refuses
returns-clause-refuses c = λ place reason h. skip_refuses c.args.self.now c.give.new.self c.args.start c.args.size place reason c.requires h
