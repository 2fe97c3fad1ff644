-- What the handles tell is what the items tell.
use Rattle.std.proofs.Common.{◌∙◌}
use Rattle.marshalled_handles.proofs.Reading.{made_as}
use Rattle.marshalled_handles.proofs.owner.Owner.look.Goals as goal

pub returns-clause-stands : goal.returns-clause-stands
returns-clause-stands c = λ items s. c.end_of.ensures ∙ made_as c.args.number c.args.self.now items s
