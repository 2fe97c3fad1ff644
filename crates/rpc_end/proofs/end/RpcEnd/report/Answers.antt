use Rattle.std.proofs.Common.{[], refl}
use Rattle.call_table.specs.Replies.{unless_there}
use Rattle.call_table.specs.Table.{waits_in}
use Rattle.rpc_items.specs.Items.{Did, Report}
use Rattle.rpc_items.specs.Saying.{said}
use Rattle.rpc_end.proofs.Answering.{call_answers, calls_terms}
use Rattle.rpc_end.proofs.Asking.{report_early, report_keeps}
use Rattle.rpc_end.proofs.end.RpcEnd.report.Goals as goal

pub returns-clause-answers : goal.returns-clause-answers
returns-clause-answers c = λ items at rest s.
    let old = c.args.self.now in
    let id = c.args.id.now in
    let token = c.args.token.now in
    let value = c.args.value.now in
    call_answers old c.tell_progress-reported.new.self old c.finish.new.self (Report id token value) items at rest tt (λ _. Unit {0})
    (unless_there (waits_in id old.table)) (said (Did (Report id token value)) []) c.tell_progress-reported.result c.finish.result s c.in_ok-check_running.ensures refl refl
    (report_early old items at rest s id token value) refl c.tell_progress-reported.ensures.said
    (λ _. report_keeps old items at rest s id token value) tt c.tell_progress-reported.ensures.calls c.finish.ensures.answer c.finish.ensures.state

pub returns-clause-terms : goal.returns-clause-terms
returns-clause-terms c =
    let old = c.args.self.now in
    calls_terms old c.tell_progress-reported.new.self old c.finish.new.self tt c.tell_progress-reported.result
    (unless_there (waits_in c.args.id.now old.table)) (said (Did (Report c.args.id.now c.args.token.now c.args.value.now)) []) c.tell_progress-reported.ensures.calls c.finish.ensures.state
