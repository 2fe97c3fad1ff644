-- No body is empty, and a value with a list that is too long has too many bytes.
use Rattle.std.specs.Prelude.{nat_le, ◌&&◌}
use Rattle.std.proofs.Common.{◌≡◌, ℕ, ◌+◌, ◌≤◌, ◌<◌, inl, inr, true, false, List, ◌++◌, length, Some, refl, arith, length-append}
use Rattle.std.proofs.lemmas.Bool.{and_cases, leb-false, le-ltb, lt-ltb}
use Rattle.wire_base.specs.Tree.{Tree, nil, flag, whole, words, bytes, items, pairs, Trees, no_items, item, Pairs, no_pairs, pair}
use Rattle.wire_base.specs.Values.{nesting, max_nesting}
use Rattle.wire_base.specs.declared.refusal.Refusal.TheVariants as refusal
use Rattle.wire_base.specs.Shortest.{str_head, bin_head, array_head, map_head}
use Rattle.wire_base.proofs.ShortestLemmas.{length-whole_text, length-str_head, length-bin_head, length-array_head, length-map_head}
use Rattle.pack_value.specs.Spelling.{count, pair_count, max_len}
use Rattle.pack_value.specs.Shortest.{flag_byte, text, shortest, shortest_items, shortest_pairs, lengths_fit, item_lengths_fit, pair_lengths_fit}
use Rattle.rpc_items.specs.Bodies.{most_nested, most_body, body_refusal}
use Rattle.rpc_items.specs.declared.messages.Message.{Message}
use Rattle.rpc_items.specs.declared.messages.Message.TheVariants as message
use Rattle.message_body.specs.declared.encoding.Encoding.{Encoding}
use Rattle.message_body.specs.declared.encoding.Encoding.TheVariants.{Json, Pack}
use Rattle.message_body.specs.Written.{value_text, encoder, body_text}

-- ---- no spelling is empty

pub shortest_some : (t : Tree) → 0 < length (shortest t)
unfolding flag_byte
shortest_some nil = omega arith
shortest_some (flag true) = omega arith
shortest_some (flag false) = omega arith
shortest_some (whole z) = (length-whole_text z).0
shortest_some (words s) = let head = (length-str_head (length s)).0 in omega (arith, head, length-append (str_head (length s)) s)
shortest_some (bytes s) = let head = (length-bin_head (length s)).0 in omega (arith, head, length-append (bin_head (length s)) s)
shortest_some (items ts) = let head = (length-array_head (count ts)).0 in omega (arith, head, length-append (array_head (count ts)) (shortest_items ts))
shortest_some (pairs ps) = let head = (length-map_head (pair_count ps)).0 in omega (arith, head, length-append (map_head (pair_count ps)) (shortest_pairs ps))

-- a message is a map, which has a byte in each encoding
map_some : (e : Encoding) (ps : Pairs) → 0 < length (value_text e (pairs ps))
map_some Json ps = omega arith
map_some Pack ps = shortest_some (pairs ps)

pub body_some : (e : Encoding) (m : Message) → 0 < length (body_text e m)
body_some e (message.Request id method params) = map_some e _
body_some e (message.Notification method params) = map_some e _
body_some e (message.Result id value) = map_some e _
body_some e (message.Error id code text more) = map_some e _

-- ---- each item and each pair has a byte

count_within : (ts : Trees) → count ts ≤ length (shortest_items ts)
count_within no_items = omega arith
count_within (item t ts) = omega (arith, shortest_some t, count_within ts, length-append (shortest t) (shortest_items ts))

text_within : (s : List ℕ) → length s ≤ length (text s)
text_within s = omega (arith, length-append (str_head (length s)) s)

pair_size : (k : List ℕ) (t : Tree) (ps : Pairs) → length (shortest_pairs (pair k t ps)) ≡ length (text k) + length (shortest t) + length (shortest_pairs ps)
pair_size k t ps = omega (arith, length-append (text k) (shortest t), length-append (text k ++ shortest t) (shortest_pairs ps))

pair_count_within : (ps : Pairs) → pair_count ps ≤ length (shortest_pairs ps)
pair_count_within no_pairs = omega arith
pair_count_within (pair k t ps) = omega (arith, shortest_some t, pair_count_within ps, pair_size k t ps)

-- ---- what is too long for a length

above : (n : ℕ) → nat_le n max_len ≡ false → max_len < n
above n e = leb-false n max_len e

mutual
  pub too_long : (t : Tree) → lengths_fit t ≡ false → max_len < length (shortest t)
  too_long nil e = absurd cc
  too_long (flag b) e = absurd cc
  too_long (whole z) e = absurd cc
  too_long (words s) e = let l = above (length s) e in omega (arith, l, text_within s)
  too_long (bytes s) e = let l = above (length s) e in omega (arith, l, length-append (bin_head (length s)) s)
  too_long (items ts) e = let size = length-append (array_head (count ts)) (shortest_items ts) in elim (and_cases (nat_le (count ts) max_len) (item_lengths_fit ts) e) [
    | inl h ↦ let l = above (count ts) h in omega (arith, l, size, count_within ts)
    | inr h ↦ let l = items_too_long ts h in omega (arith, l, size)
  ]
  too_long (pairs ps) e = let size = length-append (map_head (pair_count ps)) (shortest_pairs ps) in elim (and_cases (nat_le (pair_count ps) max_len) (pair_lengths_fit ps) e) [
    | inl h ↦ let l = above (pair_count ps) h in omega (arith, l, size, pair_count_within ps)
    | inr h ↦ let l = pairs_too_long ps h in omega (arith, l, size)
  ]

  items_too_long : (ts : Trees) → item_lengths_fit ts ≡ false → max_len < length (shortest_items ts)
  items_too_long no_items e = absurd cc
  items_too_long (item t ts) e = let size = length-append (shortest t) (shortest_items ts) in elim (and_cases (lengths_fit t) (item_lengths_fit ts) e) [
    | inl h ↦ let l = too_long t h in omega (arith, l, size)
    | inr h ↦ let l = items_too_long ts h in omega (arith, l, size)
  ]

  pairs_too_long : (ps : Pairs) → pair_lengths_fit ps ≡ false → max_len < length (shortest_pairs ps)
  pairs_too_long no_pairs e = absurd cc
  pairs_too_long (pair k t ps) e = let size = pair_size k t ps in elim (and_cases (nat_le (length k) max_len && lengths_fit t) (pair_lengths_fit ps) e) [
    | inl h ↦ elim (and_cases (nat_le (length k) max_len) (lengths_fit t) h) [
      | inl j ↦ let l = above (length k) j in omega (arith, l, size, text_within k)
      | inr j ↦ let l = too_long t j in omega (arith, l, size)
    ]
    | inr h ↦ let l = pairs_too_long ps h in omega (arith, l, size)
  ]

-- what is too long for a length is refused as a body
pub too_long_refused : (t : Tree) → nesting t ≤ max_nesting → lengths_fit t ≡ false → body_refusal (encoder Pack) t ≡ Some refusal.BodyTooLong
too_long_refused t shallow e = rw (le-ltb most_nested (nesting t) shallow, lt-ltb most_body (length (shortest t)) (too_long t e)) refl
