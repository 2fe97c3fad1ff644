use Rattle.message_body.proofs.Again.{read_again}
use Rattle.message_body.proofs.Norms.{as_read-again}
use Rattle.message_body.proofs.laws.written_bodies_are_read.Goals as goal

pub returns-clause-read : goal.returns-clause-read
returns-clause-read c = read_again

pub returns-clause-again : goal.returns-clause-again
returns-clause-again c = as_read-again
