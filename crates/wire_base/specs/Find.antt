-- The last of a key's values.
use Rattle.std.specs.Prelude.{ℕ, List, [], ◌∷◌, Option, Some, None, if◌then◌else◌}
use Rattle.std.specs.Str.{bytes_eq}
use Rattle.wire_base.specs.Options.{or_else}
use Rattle.wire_base.specs.Tree.{Tree}

-- the value of the last pair with this key
abbrev pub last_of : List ℕ → List (List ℕ × Tree) → Option Tree
last_of k [] = None
last_of k (p ∷ ps) = or_else (last_of k ps) (if bytes_eq p.0 k then Some p.1 else None)
