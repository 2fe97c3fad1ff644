-- What bytes spell a value, by the MessagePack specification, "Formats".
use Rattle.std.specs.Prelude.{◌≡◌, ℕ, ◌+◌, ◌≤◌, List, [], ◌++◌, length, IsUtf8}
use Rattle.wire_base.specs.Tree.{Tree, nil, flag, whole, words, bytes, items, pairs, Trees, no_items, item, Pairs, no_pairs, pair}
use Rattle.wire_base.specs.declared.token.TokenHead.{TokenHead}
use Rattle.wire_base.specs.declared.token.TokenHead.TheVariants as token
pub use Rattle.wire_base.specs.Head.{IsHead}
use Rattle.wire_base.specs.Values.{nesting, max_nesting}
use Rattle.pack_value.specs.declared.limits.TheConstants.{MAX_LEN}

-- The greatest length of a text, of bytes, of an array and of a map.
abbrev pub max_len : ℕ
max_len = MAX_LEN

-- A head, and these bytes behind it.
pub record IsHeaded (h : TokenHead) (body b : List ℕ) : Type 0 where
  pub head : List ℕ
  pub is_head : IsHead h head
  pub parts : b ≡ head ++ body

-- A text is UTF-8 behind a str head of its length.
abbrev pub SpellsText : List ℕ → List ℕ → Type 0
SpellsText s b = IsHeaded (token.Str (length s)) s b × (length s ≤ max_len) × IsUtf8 s

-- How many items an array has.
abbrev pub count : Trees → ℕ
count no_items = 0
count (item t ts) = count ts + 1

-- How many pairs a map has.
abbrev pub pair_count : Pairs → ℕ
pair_count no_pairs = 0
pair_count (pair k t ps) = pair_count ps + 1

-- The bytes spell the value: a head of any width, and behind it the text, the bytes, the items or the pairs.
abbrev mutual
  pub Spells : Tree → List ℕ → Type 0
  Spells nil b = IsHead token.Nil b
  Spells (flag v) b = IsHead (token.Flag v) b
  Spells (whole z) b = IsHead (token.Whole z) b
  Spells (words s) b = SpellsText s b
  Spells (bytes s) b = IsHeaded (token.Bin (length s)) s b × (length s ≤ max_len)
  Spells (items ts) b = (body : List ℕ) × IsHeaded (token.Array (count ts)) body b × (count ts ≤ max_len) × SpellsAll ts body
  Spells (pairs ps) b = (body : List ℕ) × IsHeaded (token.Map (pair_count ps)) body b × (pair_count ps ≤ max_len) × SpellsPairs ps body

  pub SpellsAll : Trees → List ℕ → Type 0
  SpellsAll no_items b = b ≡ []
  SpellsAll (item t ts) b = (x y : List ℕ) × (b ≡ x ++ y) × Spells t x × SpellsAll ts y

  pub SpellsPairs : Pairs → List ℕ → Type 0
  SpellsPairs no_pairs b = b ≡ []
  SpellsPairs (pair k t ps) b = (w x y : List ℕ) × (b ≡ w ++ (x ++ y)) × SpellsText k w × Spells t x × SpellsPairs ps y

-- The bytes, all of them, are a spelling of a value that doesn't nest too deep.
pub record IsSpelling (t : Tree) (b : List ℕ) : Type 0 where
  pub spelled : Spells t b
  pub nests : nesting t ≤ max_nesting
