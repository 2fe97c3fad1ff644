-- Members that a value was made of.
use Rattle.wire_base.proofs.Back.{pair_list_of-pairs_of}

-- a value's pairs are those that it was made of
pub ruleset back = (pair_list_of-pairs_of)
