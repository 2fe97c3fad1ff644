-- The shortest spelling of a value (MessagePack specification, "Formats"), and which values have one.
use Rattle.std.specs.Prelude.{ℕ, ◌≤◌, List, [], ◌∷◌, ◌++◌, length, Bool, true, false, ◌&&◌, nat_le, IsUtf8}
use Rattle.wire_base.specs.Tree.{Tree, nil, flag, whole, words, bytes, items, pairs, Trees, no_items, item, Pairs, no_pairs, pair}
use Rattle.wire_base.specs.Whole.{IsWhole}
use Rattle.wire_base.specs.Shortest.{whole_text, str_head, bin_head, array_head, map_head}
use Rattle.pack_value.specs.Spelling.{count, pair_count, max_len}

-- A flag's one byte.
unfoldable pub flag_byte : Bool → List ℕ
flag_byte false = 0xc2 ∷ []
flag_byte true = 0xc3 ∷ []

-- A text's shortest spelling.
abbrev pub text : List ℕ → List ℕ
text s = str_head (length s) ++ s

-- The shortest spelling: the shortest head of each token.
abbrev mutual
  pub shortest : Tree → List ℕ
  shortest nil = 0xc0 ∷ []
  shortest (flag b) = flag_byte b
  shortest (whole z) = whole_text z
  shortest (words s) = text s
  shortest (bytes s) = bin_head (length s) ++ s
  shortest (items ts) = array_head (count ts) ++ shortest_items ts
  shortest (pairs ps) = map_head (pair_count ps) ++ shortest_pairs ps

  pub shortest_items : Trees → List ℕ
  shortest_items no_items = []
  shortest_items (item t ts) = shortest t ++ shortest_items ts

  pub shortest_pairs : Pairs → List ℕ
  shortest_pairs no_pairs = []
  shortest_pairs (pair k t ps) = (text k ++ shortest t) ++ shortest_pairs ps

-- No text, bytes, array or map is longer than the limit.
abbrev mutual
  pub lengths_fit : Tree → Bool
  lengths_fit nil = true
  lengths_fit (flag b) = true
  lengths_fit (whole z) = true
  lengths_fit (words s) = nat_le (length s) max_len
  lengths_fit (bytes s) = nat_le (length s) max_len
  lengths_fit (items ts) = nat_le (count ts) max_len && item_lengths_fit ts
  lengths_fit (pairs ps) = nat_le (pair_count ps) max_len && pair_lengths_fit ps

  pub item_lengths_fit : Trees → Bool
  item_lengths_fit no_items = true
  item_lengths_fit (item t ts) = lengths_fit t && item_lengths_fit ts

  pub pair_lengths_fit : Pairs → Bool
  pair_lengths_fit no_pairs = true
  pair_lengths_fit (pair k t ps) = (nat_le (length k) max_len && lengths_fit t) && pair_lengths_fit ps

-- A text of no more than the greatest length.
abbrev pub IsText : List ℕ → Type 0
IsText s = (length s ≤ max_len) × IsUtf8 s

-- Numbers are in their range, texts are UTF-8, and lengths are within the limit.
abbrev mutual
  pub IsValue : Tree → Type 0
  IsValue nil = Unit {0}
  IsValue (flag b) = Unit {0}
  IsValue (whole z) = IsWhole z
  IsValue (words s) = IsText s
  IsValue (bytes s) = length s ≤ max_len
  IsValue (items ts) = (count ts ≤ max_len) × AreValues ts
  IsValue (pairs ps) = (pair_count ps ≤ max_len) × ArePairs ps

  pub AreValues : Trees → Type 0
  AreValues no_items = Unit {0}
  AreValues (item t ts) = IsValue t × AreValues ts

  pub ArePairs : Pairs → Type 0
  ArePairs no_pairs = Unit {0}
  ArePairs (pair k t ps) = (IsText k × IsValue t) × ArePairs ps

-- The same three of one key and its value.
abbrev pub shortest_entry : List ℕ × Tree → List ℕ
shortest_entry p = text p.0 ++ shortest p.1

abbrev pub entry_fits : List ℕ × Tree → Bool
entry_fits p = nat_le (length p.0) max_len && lengths_fit p.1

abbrev pub IsEntry : List ℕ × Tree → Type 0
IsEntry p = IsText p.0 × IsValue p.1
