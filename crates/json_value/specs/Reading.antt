-- Which value bytes are as JSON.
use Rattle.std.specs.Prelude.{◌≡◌, ℕ, ℤ, pos, List, [], ◌∷◌, Option, Some, None, option_map, option_and_then, IsUtf8}
use Rattle.serde_json.specs.Data as json
use Rattle.serde_json.specs.Read.{read}
use Rattle.serde_json.specs.Find.{as_u64, as_i64}
use Rattle.wire_base.specs.Options.{or_else}
use Rattle.wire_base.specs.Tree.{Tree, nil, flag, whole, words, items, pairs, trees_of, pairs_of}

-- The number as a whole one of 64 bits, where the crate's `as_i64` or `as_u64` gives it.
abbrev pub whole_of : json.Num → Option ℤ
whole_of n = or_else (as_i64 n) (option_map pos (as_u64 n))

-- The value that the crate's reading is, if each number in it is a whole one.
abbrev mutual
  pub tree_of : json.Data → Option Tree
  tree_of json.null = Some nil
  tree_of (json.boolean b) = Some (flag b)
  tree_of (json.number n) = option_map whole (whole_of n)
  tree_of (json.string s) = Some (words s)
  tree_of (json.array ds) = option_map (λ ts. items (trees_of ts)) (tree_list ds)
  tree_of (json.object ms) = option_map (λ ps. pairs (pairs_of ps)) (pair_list ms)

  pub tree_list : json.Items → Option (List Tree)
  tree_list json.no_items = Some []
  tree_list (json.item d ds) = option_and_then (λ t. option_map (λ ts. t ∷ ts) (tree_list ds)) (tree_of d)

  pub pair_list : json.Members → Option (List (List ℕ × Tree))
  pair_list json.no_members = Some []
  pair_list (json.member k d ms) = option_and_then (λ t. option_map (λ ps. (k, t) ∷ ps) (pair_list ms)) (tree_of d)

-- The crate `serde_json` reads the bytes so.
abbrev pub IsRead : List ℕ → json.Data → Type 0
IsRead b d = IsUtf8 b × (read b ≡ Some d)

-- The bytes are JSON of the value: the crate reads them, and every number is a whole one of 64 bits.
abbrev pub IsReading : List ℕ → Tree → Type 0
IsReading b t = (d : json.Data) × IsRead b d × (tree_of d ≡ Some t)

-- The crate has no reading of the bytes.
abbrev pub HasNoReading : List ℕ → Type 0
HasNoReading b = (d : json.Data) → IsRead b d → ⊥

-- The crate has a reading, and it holds a number that is no whole one of 64 bits.
abbrev pub HasFloat : List ℕ → Type 0
HasFloat b = (d : json.Data) × IsRead b d × (tree_of d ≡ None)
