use Rattle.std.proofs.Common.{None, refl}
use Rattle.rpc_items.specs.Items.{Tell}
use Rattle.rpc_end.specs.Calls.{next_notification, told_refusal, with_objects}
use Rattle.rpc_end.proofs.Answering.{call_answers, calls_terms, runs_on}
use Rattle.rpc_end.proofs.Asking.{tell_early, tell_keeps, tell_says}
use Rattle.rpc_end.proofs.end.RpcEnd.notify.Goals as goal

pub returns-clause-answers : goal.returns-clause-answers
returns-clause-answers c = λ items at rest s.
    let old = c.args.self.now in
    let method = c.args.method.now in
    let args = c.args.args in
    let runs = runs_on old items at rest s c.in_ok-check_running.ensures in
    call_answers old c.tell-told.new.self (with_objects None args old) c.finish.new.self (Tell method args) items at rest tt (λ _. Unit {0})
    (told_refusal method args old) (next_notification method args old) c.tell-told.result c.finish.result s c.in_ok-check_running.ensures refl refl
    (tell_early old items at rest s method args) (tell_says old items at rest s method args) c.tell-told.ensures.said
    (λ _. tell_keeps old items at rest s method args runs) tt c.tell-told.ensures.calls c.finish.ensures.answer c.finish.ensures.state

pub returns-clause-terms : goal.returns-clause-terms
returns-clause-terms c =
    let old = c.args.self.now in
    calls_terms old c.tell-told.new.self (with_objects None c.args.args old) c.finish.new.self tt c.tell-told.result
    (told_refusal c.args.method.now c.args.args old) (next_notification c.args.method.now c.args.args old) c.tell-told.ensures.calls c.finish.ensures.state
