use Rattle.std.proofs.Common.{sym, ◌∙◌}
use Rattle.wire_base.specs.declared.state.Cause.TheVariants as cause
use Rattle.endpoint.proofs.Ending.{ends_by}
use Rattle.endpoint.proofs.endpoint.Endpoint.end_of_input.Goals as goal

pub returns-in-Running-clause-answers : goal.returns-in-Running-clause-answers
returns-in-Running-clause-answers c = λ items at rest s.
    ends_by c.self.inside.mux c.end_of_input.new.self c.self.inside.connections.items c.self.inside.stopped c.args.self.now c.end_all.new.self items at rest cause.InputEnded s c.self.view_is
    (sym c.state.ensures ∙ c.in-Running.is) (c.end_of_input.ensures.answers _ at rest) c.end_all.ensures
