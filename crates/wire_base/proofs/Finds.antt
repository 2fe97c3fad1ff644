-- What the last pair adds.
use Rattle.std.proofs.Common.{◌≡◌, ℕ, List, [], ◌∷◌, ◌++◌, Some, None, Option, refl, sym, if◌then◌else◌}
use Rattle.std.specs.Str.{bytes_eq}
use Rattle.wire_base.specs.Tree.{Tree}
use Rattle.wire_base.specs.Find.{last_of}
use Rattle.wire_base.specs.Options.{or_else}

-- of three, the first that is there
or_else_assoc : (a b c : Option Tree) → or_else (or_else a b) c ≡ or_else a (or_else b c)
or_else_assoc (Some t) b c = refl
or_else_assoc None b c = refl

-- with no second
pub or_else_none : {A : Type 0} (a : Option A) → or_else a None ≡ a
or_else_none (Some x) = refl
or_else_none None = refl

-- the last pair counts before all others
pub last_of-push : (k : List ℕ) (ps : List (List ℕ × Tree)) (p : List ℕ × Tree) → last_of k (ps ++ p ∷ []) ≡ or_else (if bytes_eq p.0 k then Some p.1 else None) (last_of k ps)
last_of-push k [] p = sym (or_else_none (if bytes_eq p.0 k then Some p.1 else None))
last_of-push k (q ∷ ps) p = rw (last_of-push k ps p) (or_else_assoc (if bytes_eq p.0 k then Some p.1 else None) (last_of k ps) (if bytes_eq q.0 k then Some q.1 else None))

-- for a walk from the last pair to the first
pub ruleset finds = (last_of-push)
