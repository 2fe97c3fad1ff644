use Rattle.std.proofs.Common.{refl}
use Rattle.endpoint.proofs.endpoint.Endpoint.follow.Goals as goal

pub returns-in-Ok-clause-answers : goal.returns-in-Ok-clause-answers
returns-in-Ok-clause-answers c = λ items item at rest h e. (refl, c.in-Ok.ensures.follows items item at rest h e)
