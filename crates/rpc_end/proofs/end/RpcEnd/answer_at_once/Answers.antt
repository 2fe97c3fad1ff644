-- The answer that a request gets by itself can be written, and is a message of the code.
use Rattle.std.specs.Prelude.{OnOk}
use Rattle.std.proofs.Common.{List, subst, sym}
use Rattle.message_body.specs.AsRead.{AreMessages}
use Rattle.rpc_items.specs.declared.messages.Message.{Message}
use Rattle.rpc_end.proofs.Heeded.{answer_fits}
use Rattle.rpc_end.proofs.Said.{answer_named, one_message}
use Rattle.rpc_end.proofs.end.RpcEnd.answer_at_once.Goals as goal

pub say_message-requires : goal.say_message-requires
say_message-requires c = answer_fits c.args.self.now.terms.encoding c.args.id c.args.meaning.now c.args.self.now c.in_ok-answer.answer c.answer_to.ensures.pages c.requires.named c.in_ok-answer.ensures.answer

pub returns-clause-said : goal.returns-clause-said
returns-clause-said c =
    subst (λ (ms : List Message). OnOk c.say_message.result (AreMessages ms)) (sym c.in_ok-answer.ensures.answer)
    (one_message c.say_message.result c.in_ok-answer.answer (answer_named c.args.id c.args.meaning.now c.args.self.now c.in_ok-answer.answer c.requires.named c.in_ok-answer.ensures.answer) c.say_message.ensures.message)
