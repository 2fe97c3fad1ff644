-- Lists that a value was made of.
use Rattle.wire_base.proofs.Back.{pair_list_of-pairs_of}
use Rattle.rpc_items.proofs.Reading.{list_of-trees_of}

-- a value's items and pairs are those that it was made of
pub ruleset back = (list_of-trees_of, pair_list_of-pairs_of)
