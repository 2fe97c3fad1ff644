-- A cancellation is a message of the code: it has no id.
use Rattle.std.specs.Prelude.{codes}
use Rattle.std.proofs.Common.{[], ◌∷◌}
use Rattle.rpc_items.specs.declared.messages.Message.TheVariants.{Notification}
use Rattle.rpc_items.specs.declared.messages.Params.TheVariants as params
use Rattle.rpc_items.specs.Ids.{count_value}
use Rattle.rpc_items.specs.Methods.{cancel_request}
use Rattle.rpc_end.proofs.Texts.{said_so}
use Rattle.rpc_end.proofs.end.RpcEnd.cancellation_text.Goals as goal

pub returns-clause-said : goal.returns-clause-said
returns-clause-said c =
    said_so c.text_of.result c.in-Ok.message (Notification cancel_request (params.Named ((codes "id", count_value c.args.n) ∷ []))) c.in-Ok.ensures tt c.text_of.ensures.message
