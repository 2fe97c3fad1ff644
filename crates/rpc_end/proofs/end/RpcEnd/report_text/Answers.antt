-- A report is a message of the code: it has no id.
use Rattle.std.specs.Prelude.{codes}
use Rattle.std.proofs.Common.{[], ◌∷◌}
use Rattle.rpc_items.specs.declared.messages.Message.TheVariants.{Notification}
use Rattle.rpc_items.specs.declared.messages.Params.TheVariants as params
use Rattle.rpc_items.specs.Ids.{id_value}
use Rattle.rpc_items.specs.Methods.{progress}
use Rattle.rpc_end.proofs.Texts.{said_so}
use Rattle.rpc_end.proofs.end.RpcEnd.report_text.Goals as goal

pub returns-clause-said : goal.returns-clause-said
returns-clause-said c =
    said_so c.text_of.result c.in-Ok.message (Notification progress (params.Named ((codes "token", id_value c.args.token.now) ∷ (codes "value", c.args.value.now) ∷ []))) c.in-Ok.ensures tt c.text_of.ensures.message
