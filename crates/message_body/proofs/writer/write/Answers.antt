use Rattle.std.proofs.lemmas.Result.{on_ok_weaker}
use Rattle.message_body.proofs.Values.{valued_message}
use Rattle.message_body.proofs.writer.write.Goals as goal

pub returns-in-Ok-clause-message : goal.returns-in-Ok-clause-message
returns-in-Ok-clause-message c =
    on_ok_weaker c.put_body.result (valued_message c.args.message.now c.in-Ok.value c.in-Ok.ensures.value c.in-Ok.ensures.can_be_told) c.put_body.ensures.valid
