-- The pages of a sequence that is given up don't come.
use Rattle.rpc_end.proofs.Sound.{given_up_sound}
use Rattle.rpc_end.proofs.end.RpcEnd.extend.Goals as goal

pub invariant_of-self : goal.invariant_of-self
invariant_of-self c = given_up_sound c.self.inside.terms c.in-Aborts.token c.self.inside.producer c.give_up.new.self c.self.inside.reader c.give_up.ensures.value c.self.invariant
