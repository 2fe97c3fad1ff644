use Rattle.std.proofs.Common.{◌≡◌, ◌+◌, ap}
use Rattle.rpc_items.specs.Drawn.{drawn}
use Rattle.rpc_end.specs.Calls.{next_number}
use Rattle.rpc_end.proofs.Responding.{next_answers, next_terms}
use Rattle.rpc_end.proofs.end.RpcEnd.next.Goals as goal

pub returns-clause-answers : goal.returns-clause-answers
returns-clause-answers c = λ items at rest s.
    let old = c.args.self.now in
    next_answers old c.ask_page-asked.new.self c.finish.new.self c.args.n (next_number old) c.ask_page-asked.result c.finish.result (λ number. number ≡ drawn items + 1) items at rest s
    c.in_ok-check_running.ensures c.ask_page-asked.ensures.makes c.ask_page-asked.ensures.said (ap (λ n. n + 1) s.table.count) c.finish.ensures.answer c.finish.ensures.state

pub returns-clause-terms : goal.returns-clause-terms
returns-clause-terms c =
    let old = c.args.self.now in
    next_terms old c.ask_page-asked.new.self c.finish.new.self c.args.n (next_number old) c.ask_page-asked.result c.finish.result c.ask_page-asked.ensures.makes c.finish.ensures.state
