-- Pairs that a value was made of.
use Rattle.wire_base.proofs.Back.{pair_list_of-pairs_of}

pub ruleset back = (pair_list_of-pairs_of)
