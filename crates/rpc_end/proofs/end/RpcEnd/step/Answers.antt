-- An event takes bytes.
use Rattle.rpc_end.proofs.Stepping.{event_shortens}
use Rattle.rpc_end.proofs.end.RpcEnd.step.Goals as goal

pub returns-in-Running-clause-shorter : goal.returns-in-Running-clause-shorter
returns-in-Running-clause-shorter c = λ event is. event_shortens c.args.self.now c.apply_front.new.self c.apply_front.result event is c.apply_front.ensures.steps
