use Rattle.rpc_end.proofs.Responding.{abort_answers, abort_terms}
use Rattle.rpc_end.proofs.end.RpcEnd.abort.Goals as goal

pub returns-clause-answers : goal.returns-clause-answers
returns-clause-answers c = λ items at rest s.
    abort_answers c.args.self.now c.leave_pages-left.new.self c.finish.new.self c.args.n tt c.leave_pages-left.result c.finish.result items at rest s
    c.in_ok-check_running.ensures c.leave_pages-left.ensures.makes c.leave_pages-left.ensures.said c.finish.ensures.answer c.finish.ensures.state

pub returns-clause-terms : goal.returns-clause-terms
returns-clause-terms c =
    abort_terms c.args.self.now c.leave_pages-left.new.self c.finish.new.self c.args.n tt c.leave_pages-left.result c.finish.result c.leave_pages-left.ensures.makes c.finish.ensures.state
