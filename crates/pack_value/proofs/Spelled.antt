-- The shortest spelling is a spelling.
use Rattle.std.proofs.Common.{ℕ, ◌^◌, ◌≤◌, ◌<◌, Bool, true, false, List, [], ◌∷◌, length, refl, arith, append_assoc}
use Rattle.wire_base.specs.Tree.{Tree, nil, flag, whole, words, bytes, items, pairs, Trees, no_items, item, Pairs, no_pairs, pair}
use Rattle.wire_base.specs.declared.token.TokenHead.TheVariants as token
use Rattle.wire_base.specs.Head.{lettered}
use Rattle.wire_base.specs.Shortest.{str_head, bin_head, array_head, map_head}
use Rattle.wire_base.proofs.ShortestLemmas.{is_whole, is_str, is_bin, is_array, is_map}
use Rattle.wire_base.specs.Values.{max_nesting, nesting}
use Rattle.pack_value.specs.Spelling.{IsHead, IsSpelling, Spells, SpellsText, SpellsAll, SpellsPairs, count, pair_count, max_len}
use Rattle.pack_value.specs.Shortest.{flag_byte, text, shortest, shortest_items, shortest_pairs, IsText, IsValue, AreValues, ArePairs}

small : (n : ℕ) → n ≤ max_len → n < 2 ^ 32
small n le = omega arith

is_flag : (b : Bool) → IsHead (token.Flag b) (flag_byte b)
unfolding flag_byte lettered
is_flag true = refl
is_flag false = refl

text_spelled : (s : List ℕ) → IsText s → SpellsText s (text s)
text_spelled s p = (record { head = str_head (length s); is_head = is_str (length s) (small (length s) p.0); parts = refl }, p.0, p.1)

nil_spelled : IsHead token.Nil (0xc0 ∷ [])
unfolding lettered
nil_spelled = refl

mutual
  pub shortest_spells : (t : Tree) → IsValue t → Spells t (shortest t)
  shortest_spells nil p = nil_spelled
  shortest_spells (flag b) p = is_flag b
  shortest_spells (whole z) p = is_whole z p
  shortest_spells (words s) p = text_spelled s p
  shortest_spells (bytes s) p = (record { head = bin_head (length s); is_head = is_bin (length s) (small (length s) p); parts = refl }, p)
  shortest_spells (items ts) p =
      (shortest_items ts, record { head = array_head (count ts); is_head = is_array (count ts) (small (count ts) p.0); parts = refl }, p.0, items_spelled ts p.1)
  shortest_spells (pairs ps) p =
      (shortest_pairs ps, record { head = map_head (pair_count ps); is_head = is_map (pair_count ps) (small (pair_count ps) p.0); parts = refl }, p.0, pairs_spelled ps p.1)

  items_spelled : (ts : Trees) → AreValues ts → SpellsAll ts (shortest_items ts)
  items_spelled no_items p = refl
  items_spelled (item t ts) p = (shortest t, shortest_items ts, refl, shortest_spells t p.0, items_spelled ts p.1)

  pairs_spelled : (ps : Pairs) → ArePairs ps → SpellsPairs ps (shortest_pairs ps)
  pairs_spelled no_pairs p = refl
  pairs_spelled (pair k t ps) p =
      (text k, shortest t, shortest_pairs ps, append_assoc (text k) (shortest t) (shortest_pairs ps), text_spelled k p.0.0, shortest_spells t p.0.1, pairs_spelled ps p.1)

pub shortest_is_spelling : (t : Tree) → IsValue t → nesting t ≤ max_nesting → IsSpelling t (shortest t)
shortest_is_spelling t p le = record { spelled = shortest_spells t p; nests = le }
