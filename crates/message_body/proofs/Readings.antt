-- What is found in bytes as JSON, by what the crate's reading says.
use Rattle.std.specs.Prelude.{if◌then◌else◌, IsUtf8}
use Rattle.std.specs.Str.{is_utf8}
use Rattle.std.proofs.Common.{◌≡◌, ℕ, List, Bool, true, false, Option, Some, None, Result, Ok, Err, refl, sym, ap, ◌∙◌}
use Rattle.std.proofs.lemmas.Str.{IsUtf8-from_is_utf8, is_utf8-from_IsUtf8}
use Rattle.serde_json.specs.Data.{Data}
use Rattle.serde_json.specs.Read.{read}
use Rattle.wire_base.specs.Tree.{Tree}
use Rattle.wire_base.specs.declared.reason.Reason.{Reason}
use Rattle.wire_base.specs.declared.reason.Reason.TheVariants.{NotJson, Float}
use Rattle.json_value.specs.Reading.{tree_of, IsRead, IsReading, HasNoReading, HasFloat}
use Rattle.message_body.specs.Found.{unless_float, value_read, json_in}

-- what is found where the crate reads the bytes
read_found : (b : List ℕ) (d : Data) → IsRead b d → json_in b ≡ unless_float (tree_of d)
read_found b d x = rw (is_utf8-from_IsUtf8 b x.0, x.1) refl

pub reading_found : (b : List ℕ) (t : Tree) → IsReading b t → json_in b ≡ Ok t
reading_found b t x = read_found b x.0 x.1 ∙ ap unless_float x.2

pub float_found : (b : List ℕ) → HasFloat b → json_in b ≡ Err Float
float_found b x = read_found b x.0 x.1 ∙ ap unless_float x.2

-- a reading, or none
by_read : (b : List ℕ) (o : Option Data) → read b ≡ o → IsUtf8 b → HasNoReading b → value_read o ≡ Err NotJson
by_read b (Some d) e u none = absurd (none d (u, e))
by_read b None e u none = refl

pub no_reading_found : (b : List ℕ) → HasNoReading b → json_in b ≡ Err NotJson
no_reading_found b none = by (is_utf8 b) refl
  where
    by : (u : Bool) → is_utf8 b ≡ u → (if u then value_read (read b) else Err NotJson) ≡ Err NotJson
    by true e = by_read b (read b) refl (IsUtf8-from_is_utf8 b e) none
    by false e = refl

-- ---- and back

-- a value is found in what is read as it
of_value : (o : Option Tree) (t : Tree) → unless_float o ≡ Ok t → o ≡ Some t
of_value (Some u) t e = cc e
of_value None t e = absurd (cc e)

-- a float is found in what is read as no value
of_float : (o : Option Tree) → unless_float o ≡ Err Float → o ≡ None
of_float (Some u) e = absurd (cc e)
of_float None e = refl

-- nothing that is read is no JSON
not_none : (o : Option Tree) → unless_float o ≡ Err NotJson → ⊥
not_none (Some u) e = cc e
not_none None e = cc e

module _ (b : List ℕ) where
  -- what was found was read
  of_found : (r : Result Tree Reason) → json_in b ≡ r → (r ≡ Err NotJson → ⊥) → (d : Data) × IsRead b d × (unless_float (tree_of d) ≡ r)
  of_found r e some = by (is_utf8 b) refl e
    where
      by_value : IsUtf8 b → (o : Option Data) → read b ≡ o → value_read o ≡ r → (d : Data) × IsRead b d × (unless_float (tree_of d) ≡ r)
      by_value u (Some d) h k = (d, (u, h), k)
      by_value u None h k = absurd (some (sym k))

      by : (u : Bool) → is_utf8 b ≡ u → (if u then value_read (read b) else Err NotJson) ≡ r → (d : Data) × IsRead b d × (unless_float (tree_of d) ≡ r)
      by true h k = by_value (IsUtf8-from_is_utf8 b h) (read b) refl k
      by false h k = absurd (some (sym k))

  pub found_reading : (t : Tree) → json_in b ≡ Ok t → IsReading b t
  found_reading t e = (let x = of_found (Ok t) e (λ h. cc h) in (x.0, x.1, of_value (tree_of x.0) t x.2))

  pub found_float : json_in b ≡ Err Float → HasFloat b
  found_float e = (let x = of_found (Err Float) e (λ h. cc h) in (x.0, x.1, of_float (tree_of x.0) x.2))

  pub found_no_reading : json_in b ≡ Err NotJson → HasNoReading b
  found_no_reading e d x = not_none (tree_of d) (sym (read_found b d x) ∙ e)

-- for a function that reads
pub ruleset readings = (no_reading_found, float_found)
