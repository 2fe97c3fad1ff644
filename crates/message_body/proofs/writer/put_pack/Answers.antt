use Rattle.std.proofs.Common.{Err, ap}
use Rattle.message_body.proofs.Sizes.{too_long_refused}
use Rattle.message_body.proofs.Values.{spelled_value}
use Rattle.message_body.proofs.writer.put_pack.Goals as goal

pub returns-in-Ok-clause-valid : goal.returns-in-Ok-clause-valid
returns-in-Ok-clause-valid c = spelled_value c.args.value.now c.in-Ok.ensures.valid

pub returns-in-Err-TooLong-clause-answer : goal.returns-in-Err-TooLong-clause-answer
returns-in-Err-TooLong-clause-answer c = let long = c.in-Err-TooLong.ensures.long.0 (ap Err c.in-Err-TooLong.field-0-is) in too_long_refused c.args.value.now long.0 long.1
