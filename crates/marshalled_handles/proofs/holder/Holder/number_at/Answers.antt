-- What the handles tell is what the items tell.
use Rattle.std.proofs.Common.{◌∙◌}
use Rattle.marshalled_handles.proofs.Numbers.{number_as}
use Rattle.marshalled_handles.proofs.holder.Holder.number_at.Goals as goal

pub returns-clause-stands : goal.returns-clause-stands
returns-clause-stands c = λ items s. c.number_of.ensures ∙ number_as c.args.place c.args.self.now items s
