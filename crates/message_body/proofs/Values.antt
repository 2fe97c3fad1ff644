-- Values of the code, and messages that are written as such.
use Rattle.std.proofs.Common.{◌≡◌}
use Rattle.wire_base.specs.Tree.{Tree, nil, flag, whole, words, bytes, items, pairs, Trees, no_items, item, Pairs, no_pairs, pair}
use Rattle.json_value.specs.Value.{IsValue, AreValues, ArePairs}
use Rattle.pack_value.specs.Shortest as pack
use Rattle.rpc_items.specs.declared.messages.Message.{Message}
use Rattle.rpc_items.specs.Told.{CanBeTold, HasNamedId}
use Rattle.rpc_items.specs.Writing.{message_value}
use Rattle.message_body.specs.AsRead.{IsMessage}

-- what can be spelled in MessagePack

mutual
  pub spelled_value : (t : Tree) → pack.IsValue t → IsValue t
  spelled_value nil v = tt
  spelled_value (flag b) v = tt
  spelled_value (whole z) v = v
  spelled_value (words s) v = v.1
  spelled_value (bytes s) v = tt
  spelled_value (items ts) v = spelled_items ts v.1
  spelled_value (pairs ps) v = spelled_pairs ps v.1

  spelled_items : (ts : Trees) → pack.AreValues ts → AreValues ts
  spelled_items no_items v = tt
  spelled_items (item t ts) v = (spelled_value t v.0, spelled_items ts v.1)

  spelled_pairs : (ps : Pairs) → pack.ArePairs ps → ArePairs ps
  spelled_pairs no_pairs v = tt
  spelled_pairs (pair k t ps) v = (v.0.0.1, spelled_value t v.0.1, spelled_pairs ps v.1)

-- a message whose value is one of the code

pub valued_message : (m : Message) (t : Tree) → t ≡ message_value m → (HasNamedId m → CanBeTold m) → IsValue t → HasNamedId m → IsMessage m
valued_message m t e says v named = record { can_be_told = says named; value = rw (← e) v }
