use Rattle.endpoint_items.proofs.Rules.{calls_keep, messages_keep}
use Rattle.endpoint_items.proofs.laws.calls_and_messages_keep_the_rules.Goals as goal

pub returns : goal.returns
returns c = record { call = calls_keep; message = messages_keep }
