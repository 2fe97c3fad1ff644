-- The pages behind a page can be written as before.
use Rattle.rpc_end.proofs.Sound.{turned_sound}
use Rattle.rpc_end.proofs.end.RpcEnd.turn_page.Goals as goal

pub invariant_of-self : goal.invariant_of-self
invariant_of-self c = turned_sound c.self.inside.terms c.in-Turns.token c.self.inside.producer c.turn.new.self c.self.inside.reader c.turn.ensures.value c.self.invariant
