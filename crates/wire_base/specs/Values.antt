-- How deep a value nests, and whether bytes stand in it.
use Rattle.std.specs.Prelude.{ℕ, ◌+◌, max, Bool, true, false, ◌||◌}
use Rattle.wire_base.specs.Tree.{Tree, items, pairs, bytes, Trees, no_items, item, Pairs, no_pairs, pair}
use Rattle.wire_base.specs.declared.limits.TheConstants.{MAX_NESTING}

-- how deep arrays and maps may stand in one another
abbrev pub max_nesting : ℕ
max_nesting = MAX_NESTING

-- how deep arrays and maps stand in one another: 0 for a scalar, 1 for an empty array or map
abbrev mutual
  pub nesting : Tree → ℕ
  nesting (items ts) = nestings ts + 1
  nesting (pairs ps) = pair_nestings ps + 1
  nesting scalar = 0

  pub nestings : Trees → ℕ
  nestings no_items = 0
  nestings (item t ts) = max (nesting t) (nestings ts)

  pub pair_nestings : Pairs → ℕ
  pair_nestings no_pairs = 0
  pair_nestings (pair k t ps) = max (nesting t) (pair_nestings ps)

-- whether a value is bytes or has bytes in it
abbrev mutual
  pub holds_bytes : Tree → Bool
  holds_bytes (bytes s) = true
  holds_bytes (items ts) = items_hold_bytes ts
  holds_bytes (pairs ps) = pairs_hold_bytes ps
  holds_bytes other = false

  pub items_hold_bytes : Trees → Bool
  items_hold_bytes no_items = false
  items_hold_bytes (item t ts) = holds_bytes t || items_hold_bytes ts

  pub pairs_hold_bytes : Pairs → Bool
  pairs_hold_bytes no_pairs = false
  pairs_hold_bytes (pair k t ps) = holds_bytes t || pairs_hold_bytes ps
