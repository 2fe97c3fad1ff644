-- No page is to come.
use Rattle.rpc_end.proofs.Sound.{ended_sound}
use Rattle.rpc_end.proofs.end.RpcEnd.close.Goals as goal

pub invariant_of-self : goal.invariant_of-self
invariant_of-self c = ended_sound c.self.inside.terms c.self.inside.producer c.end_all.new.self c.self.inside.reader c.end_all.ensures.value c.self.invariant
