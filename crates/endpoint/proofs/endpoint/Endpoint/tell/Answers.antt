use Rattle.std.proofs.lemmas.Result.{err_from_is_err_and}
use Rattle.call_table.specs.Table.{shown}
use Rattle.endpoint.proofs.Applied.{tells, unattached_tells}
use Rattle.endpoint.proofs.RpcCalling.{found_attached, found_place}
use Rattle.endpoint.proofs.endpoint.Endpoint.tell.Goals as goal

pub returns-in_err-check_attached-clause-applies : goal.returns-in_err-check_attached-clause-applies
returns-in_err-check_attached-clause-applies c = λ items at rest s.
    let p = err_from_is_err_and c.from_residual.result c.from_residual.ensures.1 in
    rw (p.1, p.2) (unattached_tells c.args.self.now items at rest c.args.key c.args.n c.in_err-check_attached.field-0.0 s c.in_err-check_attached.ensures)

pub returns-clause-applies : goal.returns-clause-applies
returns-clause-applies c = λ items at rest s.
    let old = c.args.self.now in
    let was = found_attached old items at rest c.in_ok-check_attached.field-0 c.args.key s (found_place old.state _ c.in_ok-check_attached.field-0 c.in_ok-check_attached.ensures) in
    rw c.finish.ensures.answer (tells old c.finish.new.self items at rest c.args.key c.args.n (shown c.outcome.result) c.reply_of-told.result was (c.outcome.ensures items at rest s) c.reply_of-told.ensures c.finish.ensures.state)
