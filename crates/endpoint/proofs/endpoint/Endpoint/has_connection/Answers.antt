use Rattle.std.specs.Prelude.{is_some}
use Rattle.std.proofs.Common.{◌∙◌, ap}
use Rattle.endpoint.proofs.Using.{placed_attached}
use Rattle.endpoint.proofs.endpoint.Endpoint.has_connection.Goals as goal

pub returns : goal.returns
returns c = λ items at rest s. c.is_some.ensures ∙ (ap is_some c.place_of.ensures ∙ placed_attached c.args.key c.args.self.now items at rest s)
