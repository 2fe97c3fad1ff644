use Rattle.std.proofs.Common.{◌+◌, rules, arith}
use Rattle.std.proofs.lemmas.Grind.{common_steps}
use Rattle.message_framing.specs.Answers.{AnswersBody}
use Rattle.message_framing.specs.declared.next_body.NextBody.TheVariants as next
use Rattle.message_framing.proofs.Streams.{reads-answer, answer-follows}
use Rattle.message_framing.proofs.reader.MessageReader.next.Goals as goal

pub returns-in-Ok-clause-follows : goal.returns-in-Ok-clause-follows
returns-in-Ok-clause-follows c = λ stream given h.
    let old = c.args.self.now in
    let answer = next.Body (record { 0 = c.self.inside.at + c.in-Whole.start }) c.in-Ok.body in
    let a : AnswersBody answer old c.skip.new.self = record { start = c.in-Whole.start; size = c.in-Whole.size; whole = grind (arith, common_steps, c.in-Whole.ensures.answer); place_is = grind (arith, common_steps); body_is = c.in-Ok.ensures; then = search rules } in
    answer-follows answer old c.skip.new.self stream given a h

pub returns-in-Ok-clause-reads : goal.returns-in-Ok-clause-reads
returns-in-Ok-clause-reads c = λ stream given h.
    let old = c.args.self.now in
    let answer = next.Body (record { 0 = c.self.inside.at + c.in-Whole.start }) c.in-Ok.body in
    let a : AnswersBody answer old c.skip.new.self = record { start = c.in-Whole.start; size = c.in-Whole.size; whole = grind (arith, common_steps, c.in-Whole.ensures.answer); place_is = grind (arith, common_steps); body_is = c.in-Ok.ensures; then = search rules } in
    reads-answer answer old c.skip.new.self stream given a h
