-- The JSON text of a value.
use Rattle.std.specs.Prelude.{ℕ, List, [], ◌∷◌, codes}
use Rattle.hex.specs.Hex.{encode_lower}
use Rattle.serde_json.specs.Data as json
use Rattle.serde_json.specs.Find.{of_integer}
use Rattle.serde_json.specs.Written.{compact_text}
use Rattle.wire_base.specs.Tree.{Tree, nil, flag, whole, words, bytes, items, pairs, Trees, no_items, item, Pairs, no_pairs, pair}
use Rattle.json_value.specs.Normal.{norm}

-- Bytes in hex, and `-` for none.
abbrev pub hex_text : List ℕ → List ℕ
hex_text [] = codes "-"
hex_text (b ∷ bs) = encode_lower (b ∷ bs)

-- Bytes are shown as an object of one member, since JSON has none.
abbrev pub shown_bytes : List ℕ → json.Data
shown_bytes s = json.object (json.member (codes "$bytes") (json.string (hex_text s)) json.no_members)

-- The value with its bytes as they are shown: each is a map of one member, its hex.
abbrev mutual
  pub with_hex : Tree → Tree
  with_hex nil = nil
  with_hex (flag b) = flag b
  with_hex (whole z) = whole z
  with_hex (words s) = words s
  with_hex (bytes s) = pairs (pair (codes "$bytes") (words (hex_text s)) no_pairs)
  with_hex (items ts) = items (items_with_hex ts)
  with_hex (pairs ps) = pairs (pairs_with_hex ps)

  pub items_with_hex : Trees → Trees
  items_with_hex no_items = no_items
  items_with_hex (item t ts) = item (with_hex t) (items_with_hex ts)

  pub pairs_with_hex : Pairs → Pairs
  pairs_with_hex no_pairs = no_pairs
  pairs_with_hex (pair k t ps) = pair k (with_hex t) (pairs_with_hex ps)

-- A value as the crate `serde_json` has it, case by case.
abbrev mutual
  pub data_of : Tree → json.Data
  data_of nil = json.null
  data_of (flag b) = json.boolean b
  data_of (whole z) = json.number (of_integer z)
  data_of (words s) = json.string s
  data_of (bytes s) = shown_bytes s
  data_of (items ts) = json.array (data_items ts)
  data_of (pairs ps) = json.object (data_members ps)

  pub data_items : Trees → json.Items
  data_items no_items = json.no_items
  data_items (item t ts) = json.item (data_of t) (data_items ts)

  pub data_members : Pairs → json.Members
  data_members no_pairs = json.no_members
  data_members (pair k t ps) = json.member k (data_of t) (data_members ps)

-- The text that shows a value: the crate's compact text of the normal form.
abbrev pub shown : Tree → List ℕ
shown t = compact_text (data_of (norm t))

-- The JSON text of a value that has no bytes.
abbrev pub json_text : Tree → List ℕ
json_text t = shown t
