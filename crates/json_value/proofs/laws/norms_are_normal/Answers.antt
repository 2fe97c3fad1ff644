use Rattle.json_value.proofs.NormLemmas.{IsNormal-norm, norm_same, norm-norm}
use Rattle.json_value.proofs.LastLemmas.{last_of-norm}
use Rattle.json_value.proofs.ReadsBack.{nesting-norm}
use Rattle.json_value.proofs.laws.norms_are_normal.Goals as goal

pub returns-clause-normal : goal.returns-clause-normal
returns-clause-normal c = IsNormal-norm

pub returns-clause-same : goal.returns-clause-same
returns-clause-same c = norm_same

pub returns-clause-again : goal.returns-clause-again
returns-clause-again c = norm-norm

pub returns-clause-shallow : goal.returns-clause-shallow
returns-clause-shallow c = nesting-norm

pub returns-clause-last : goal.returns-clause-last
returns-clause-last c = last_of-norm
