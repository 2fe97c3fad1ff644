use Rattle.std.proofs.Common.{rules, arith}
use Rattle.std.proofs.lemmas.Grind.{common_steps}
use Rattle.frame_reader.specs.Answers.{AnswersFrame}
use Rattle.frame_reader.specs.declared.next_frame.NextFrame.TheVariants as next
use Rattle.frame_reader.proofs.Streams.{reads-answer, answer-follows}
use Rattle.frame_reader.proofs.reader.FrameReader.next.Goals as goal

pub returns-in-Got-clause-follows : goal.returns-in-Got-clause-follows
returns-in-Got-clause-follows g c = λ start stream given h.
    let old = c.args.self.now in
    let answer = next.Frame c.self.inside.at c.in-Got.frame in
    let a : AnswersFrame answer old c.skip.new.self = (c.in-Got.size, grind (arith, common_steps, c.in-Got.ensures), grind (arith, common_steps), search rules) in
    answer-follows answer old c.skip.new.self start stream given a h

pub returns-in-Got-clause-reads : goal.returns-in-Got-clause-reads
returns-in-Got-clause-reads g c = λ start stream given h.
    let old = c.args.self.now in
    let answer = next.Frame c.self.inside.at c.in-Got.frame in
    let a : AnswersFrame answer old c.skip.new.self = (c.in-Got.size, grind (arith, common_steps, c.in-Got.ensures), grind (arith, common_steps), search rules) in
    reads-answer answer old c.skip.new.self start stream given a h
