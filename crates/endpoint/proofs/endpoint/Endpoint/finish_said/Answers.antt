use Rattle.endpoint.proofs.RpcCalling.{finishes_fault}
use Rattle.endpoint.proofs.endpoint.Endpoint.finish_said.Goals as goal

pub returns-in-Err-clause-finishes : goal.returns-in-Err-clause-finishes
returns-in-Err-clause-finishes over c = rw c.in-Err.is (finishes_fault c.args.self.now c.finish.new.self c.args.place c.in-Err.fault c.finish.result c.finish.ensures.answer c.finish.ensures.state)
