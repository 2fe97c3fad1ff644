use Rattle.rpc_end.proofs.Responding.{respond_answers, respond_terms}
use Rattle.rpc_end.proofs.end.RpcEnd.respond.Goals as goal

pub returns-clause-answers : goal.returns-clause-answers
returns-clause-answers c = λ items at rest s.
    respond_answers c.args.self.now c.answer-answered.new.self c.finish.new.self c.args.id.now c.args.answer tt c.answer-answered.result c.finish.result items at rest s
    c.in_ok-check_running.ensures c.answer-answered.ensures.responds c.answer-answered.ensures.said c.finish.ensures.answer c.finish.ensures.state

pub returns-clause-terms : goal.returns-clause-terms
returns-clause-terms c =
    respond_terms c.args.self.now c.answer-answered.new.self c.finish.new.self c.args.id.now c.args.answer tt c.answer-answered.result c.finish.result c.answer-answered.ensures.responds c.finish.ensures.state
