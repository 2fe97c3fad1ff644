-- A release is a message of the code: it has no id.
use Rattle.call_messages.specs.Messages.{release_message}
use Rattle.rpc_end.proofs.Texts.{said_so}
use Rattle.rpc_end.proofs.end.RpcEnd.release_text.Goals as goal

pub returns-clause-said : goal.returns-clause-said
returns-clause-said c = said_so c.text_of.result c.in-Ok.message (release_message c.args.key) c.in-Ok.ensures tt c.text_of.ensures.message
