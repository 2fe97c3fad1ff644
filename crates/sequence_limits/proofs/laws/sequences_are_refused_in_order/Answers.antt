use Rattle.sequence_limits.proofs.Refused.{refused_in_order}
use Rattle.sequence_limits.proofs.laws.sequences_are_refused_in_order.Goals as goal

pub returns : goal.returns
returns c = refused_in_order
