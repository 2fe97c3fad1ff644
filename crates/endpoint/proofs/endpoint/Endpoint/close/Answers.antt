use Rattle.endpoint.proofs.Applying.{closes_at}
use Rattle.endpoint.proofs.endpoint.Endpoint.close.Goals as goal

pub returns-in-Ok-clause-closes : goal.returns-in-Ok-clause-closes
returns-in-Ok-clause-closes c = λ attached items at rest here s runs.
    closes_at c.self.inside.mux c.terminate.new.mux c.args.self.now c.self.inside.connections.items c.self.inside.stopped c.args.place c.index.result.now attached c.args.cause items at rest c.self.view_is c.index.ensures
    c.in-Ok.ensures.moves c.requires here s runs
