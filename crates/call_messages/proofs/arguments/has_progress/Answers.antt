use Rattle.call_messages.proofs.Asking.{asks_progress}
use Rattle.call_messages.proofs.arguments.has_progress.Goals as goal

pub returns-in-List : goal.returns-in-List
returns-in-List c = cc (asks_progress c.in-List.args)
