use Rattle.std.proofs.Common.{◌≡◌, ◌+◌, ap, refl}
use Rattle.rpc_items.specs.Drawn.{drawn}
use Rattle.rpc_items.specs.Items.{Invoke}
use Rattle.rpc_items.specs.Methods.{proxy_method}
use Rattle.rpc_end.specs.Calls.{invoking_refusal, next_number, next_request, with_request}
use Rattle.rpc_end.proofs.Answering.{call_answers, calls_terms, runs_on}
use Rattle.rpc_end.proofs.Asking.{invoke_early, invoke_keeps, request_says}
use Rattle.rpc_end.proofs.end.RpcEnd.invoke.Goals as goal

pub returns-clause-answers : goal.returns-clause-answers
returns-clause-answers c = λ items at rest s.
    let old = c.args.self.now in
    let handle = c.args.handle in
    let method = c.args.method.now in
    let args = c.args.args in
    let expect = c.args.expect in
    let runs = runs_on old items at rest s c.in_ok-check_running.ensures in
    call_answers old c.ask_object-asked.new.self (with_request args expect old) c.finish.new.self (Invoke handle method args expect) items at rest (next_number old) (λ n. n ≡ drawn items + 1)
    (invoking_refusal handle args old) (next_request (proxy_method handle method) args old) c.ask_object-asked.result c.finish.result s c.in_ok-check_running.ensures refl refl
    (invoke_early old items at rest s handle method args expect) (request_says old items at rest s (proxy_method handle method) args) c.ask_object-asked.ensures.said
    (λ _. invoke_keeps old items at rest s handle method args expect runs) (ap (λ n. n + 1) s.table.count) c.ask_object-asked.ensures.calls c.finish.ensures.answer c.finish.ensures.state

pub returns-clause-terms : goal.returns-clause-terms
returns-clause-terms c =
    let old = c.args.self.now in
    calls_terms old c.ask_object-asked.new.self (with_request c.args.args c.args.expect old) c.finish.new.self (next_number old) c.ask_object-asked.result
    (invoking_refusal c.args.handle c.args.args old) (next_request (proxy_method c.args.handle c.args.method.now) c.args.args old) c.ask_object-asked.ensures.calls c.finish.ensures.state
