use Rattle.std.proofs.Common.{[]}
use Rattle.endpoint.proofs.Beginning.{completion_ends}
use Rattle.endpoint.proofs.attaching.answer_completion.Goals as goal

pub returns-clause-ends : goal.returns-clause-ends
returns-clause-ends c = λ terms at rest h. rw c.if-not-completed.false (completion_ends terms at rest c.args.end.now c.end.new.self (c.end.ensures.answers [] at rest h.stands) h)
