use Rattle.std.proofs.Common.{[], refl}
use Rattle.call_table.specs.Replies.{cancel_refusal}
use Rattle.call_table.specs.Table.{with_cancelled}
use Rattle.call_table.proofs.Reading.{cancels_as}
use Rattle.rpc_items.specs.Items.{Cancel, Did}
use Rattle.rpc_items.specs.Saying.{said}
use Rattle.rpc_end.specs.Ends.{with_table}
use Rattle.rpc_end.proofs.Answering.{call_answers, calls_terms}
use Rattle.rpc_end.proofs.Asking.{cancel_keeps}
use Rattle.rpc_end.proofs.end.RpcEnd.cancel.Goals as goal

pub returns-clause-answers : goal.returns-clause-answers
returns-clause-answers c = λ items at rest s.
    let old = c.args.self.now in
    let n = c.args.n in
    call_answers old c.give_up-cancelled.new.self (with_table (with_cancelled n old.table) old) c.finish.new.self (Cancel n) items at rest tt (λ _. Unit {0})
    (cancel_refusal n old.table) (said (Did (Cancel n)) []) c.give_up-cancelled.result c.finish.result s c.in_ok-check_running.ensures refl refl
    (cancels_as old.table items n s.table) refl c.give_up-cancelled.ensures.said
    (cancel_keeps old items at rest s n) tt c.give_up-cancelled.ensures.calls c.finish.ensures.answer c.finish.ensures.state

pub returns-clause-terms : goal.returns-clause-terms
returns-clause-terms c =
    let old = c.args.self.now in
    calls_terms old c.give_up-cancelled.new.self (with_table (with_cancelled c.args.n old.table) old) c.finish.new.self tt c.give_up-cancelled.result
    (cancel_refusal c.args.n old.table) (said (Did (Cancel c.args.n)) []) c.give_up-cancelled.ensures.calls c.finish.ensures.state
