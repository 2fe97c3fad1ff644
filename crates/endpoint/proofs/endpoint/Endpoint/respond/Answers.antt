use Rattle.std.proofs.Common.{refl}
use Rattle.std.proofs.lemmas.Result.{err_from_is_err_and}
use Rattle.rpc_items.specs.Items.{Respond}
use Rattle.endpoint.proofs.RpcCalling.{calls, has_room, one_called, unsaid_answers}
use Rattle.endpoint.proofs.endpoint.Endpoint.respond.Goals as goal

pub returns-in_err-place-clause-answers : goal.returns-in_err-place-clause-answers
returns-in_err-place-clause-answers c = λ items at rest s.
    let p = err_from_is_err_and c.from_residual.result c.from_residual.ensures.1 in
    rw (p.1, p.2) (unsaid_answers c.args.self.now items at rest c.args.key (Respond c.args.id.now c.args.answer) (λ _. Unit {0}) c.in_err-place.field-0.0 refl (c.in_err-place.ensures.test items at rest s))

pub invariant_of-self : goal.invariant_of-self
invariant_of-self c =
    one_called c.self.inside.mux c.self.inside.connections.items c.self.inside.stopped c.args.self.now c.args.key c.in_ok-place.place c.index_mut.result.now c.respond-answered.new.self
    c.self.view_is c.in_ok-place.ensures.found c.index_mut.ensures.value c.self.invariant

pub returns-clause-answers : goal.returns-clause-answers
returns-clause-answers c = λ items at rest s.
    calls c.finish_said.new.self items at rest c.in_ok-place.place c.index_mut.result.now c.respond-answered.new.self (Respond c.args.id.now c.args.answer) (λ its _. Unit {0}) c.respond-answered.result c.finish_said.result
    c.self.inside.mux c.self.inside.connections.items c.self.inside.stopped c.args.self.now c.args.key c.self.view_is c.index_mut.ensures.value c.finish_said.ensures.finishes c.respond-answered.ensures.answers
    s c.in_ok-place.ensures.found (has_room c.args.self.now.mux.version c.args.key items (Respond c.args.id.now c.args.answer) (c.in_ok-place.ensures.test items at rest s))
