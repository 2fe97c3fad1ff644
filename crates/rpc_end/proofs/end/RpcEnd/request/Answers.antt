use Rattle.std.proofs.Common.{◌≡◌, ◌+◌, ap, refl}
use Rattle.rpc_items.specs.Drawn.{drawn}
use Rattle.rpc_items.specs.Items.{Ask}
use Rattle.rpc_end.specs.Calls.{asking_refusal, next_number, next_request, with_request}
use Rattle.rpc_end.proofs.Answering.{call_answers, calls_terms, runs_on}
use Rattle.rpc_end.proofs.Asking.{ask_early, ask_keeps, request_says}
use Rattle.rpc_end.proofs.end.RpcEnd.request.Goals as goal

pub returns-clause-answers : goal.returns-clause-answers
returns-clause-answers c = λ items at rest s.
    let old = c.args.self.now in
    let method = c.args.method.now in
    let args = c.args.args in
    let expect = c.args.expect in
    let runs = runs_on old items at rest s c.in_ok-check_running.ensures in
    call_answers old c.ask-asked.new.self (with_request args expect old) c.finish.new.self (Ask method args expect) items at rest (next_number old) (λ n. n ≡ drawn items + 1)
    (asking_refusal method args old) (next_request method args old) c.ask-asked.result c.finish.result s c.in_ok-check_running.ensures refl refl
    (ask_early old items at rest s method args expect) (request_says old items at rest s method args) c.ask-asked.ensures.said
    (λ _. ask_keeps old items at rest s method args expect runs) (ap (λ n. n + 1) s.table.count) c.ask-asked.ensures.calls c.finish.ensures.answer c.finish.ensures.state

pub returns-clause-terms : goal.returns-clause-terms
returns-clause-terms c =
    let old = c.args.self.now in
    calls_terms old c.ask-asked.new.self (with_request c.args.args c.args.expect old) c.finish.new.self (next_number old) c.ask-asked.result
    (asking_refusal c.args.method.now c.args.args old) (next_request c.args.method.now c.args.args old) c.ask-asked.ensures.calls c.finish.ensures.state
