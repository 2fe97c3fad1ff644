-- A value without bytes is what its data stands for, and its normal form is no deeper and has no bytes either.
use Rattle.std.proofs.Common.{◌≡◌, ℕ, ◌≤◌, max, ℤ, pos, negsuc, Bool, true, false, ◌||◌, List, Some, None, option_map, nat_lt, ◌^◌, if◌then◌else◌, IsUtf8, refl, ap, arith}
use Rattle.std.specs.declared.cmp.Ordering.{Ordering}
use Rattle.std.specs.declared.cmp.Ordering.TheVariants.{Less, Equal, Greater}
use Rattle.std.specs.Ordering.{match_ordering}
use Rattle.serde_json.specs.Data.{depth, items_depth, members_depth}
use Rattle.serde_json.specs.Find.{of_integer}
use Rattle.serde_json.specs.Read.{read, max_depth}
use Rattle.serde_json.specs.Written.{has_float, items_have_float, members_have_float}
use Rattle.wire_base.specs.Options.{or_else}
use Rattle.wire_base.specs.Tree.{Tree, nil, flag, whole, words, bytes, items, pairs, Trees, no_items, item, Pairs, no_pairs, pair, list_of, pair_list_of}
use Rattle.wire_base.specs.Values.{max_nesting, nesting, nestings, pair_nestings, holds_bytes, items_hold_bytes, pairs_hold_bytes}
use Rattle.wire_base.proofs.Back.{trees_of-list_of, pairs_of-list_of}
use Rattle.json_value.specs.Normal.{key_cmp, put, norm, norm_items, norm_onto}
use Rattle.json_value.specs.Json.{data_of, data_items, data_members, shown}
use Rattle.json_value.specs.Reading.{whole_of, tree_of, tree_list, pair_list, IsReading}

neither : (a b : Bool) → (a || b) ≡ false → (a ≡ false) × (b ≡ false)
neither true b e = absurd cc
neither false b e = (refl, e)

-- ---- no data of a value has a float

mutual
  pub has_float-data_of : (t : Tree) → has_float (data_of t) ≡ false
  has_float-data_of nil = refl
  has_float-data_of (flag b) = refl
  has_float-data_of (whole (pos n)) = refl
  has_float-data_of (whole (negsuc n)) = refl
  has_float-data_of (words s) = refl
  has_float-data_of (bytes s) = refl
  has_float-data_of (items ts) = has_float-data_items ts
  has_float-data_of (pairs ps) = has_float-data_members ps

  has_float-data_items : (ts : Trees) → items_have_float (data_items ts) ≡ false
  has_float-data_items no_items = refl
  has_float-data_items (item t ts) = rw (has_float-data_of t) (has_float-data_items ts)

  has_float-data_members : (ps : Pairs) → members_have_float (data_members ps) ≡ false
  has_float-data_members no_pairs = refl
  has_float-data_members (pair k t ps) = rw (has_float-data_of t) (has_float-data_members ps)

-- ---- what the data of a value without bytes stands for

whole_of-of_integer : (z : ℤ) → whole_of (of_integer z) ≡ Some z
whole_of-of_integer (pos n) = elim (nat_lt n (2 ^ 63)) as (λ b. or_else (if b then Some (pos n) else None) (Some (pos n)) ≡ Some (pos n)) [ true ↦ refl | false ↦ refl ]
whole_of-of_integer (negsuc n) = refl

mutual
  pub tree_of-data_of : (t : Tree) → holds_bytes t ≡ false → tree_of (data_of t) ≡ Some t
  tree_of-data_of nil e = refl
  tree_of-data_of (flag b) e = refl
  tree_of-data_of (whole z) e = ap (option_map whole) (whole_of-of_integer z)
  tree_of-data_of (words s) e = refl
  tree_of-data_of (bytes s) e = absurd cc
  tree_of-data_of (items ts) e = rw (tree_list-data_items ts e, trees_of-list_of ts) refl
  tree_of-data_of (pairs ps) e = rw (pair_list-data_members ps e, pairs_of-list_of ps) refl

  tree_list-data_items : (ts : Trees) → items_hold_bytes ts ≡ false → tree_list (data_items ts) ≡ Some (list_of ts)
  tree_list-data_items no_items e = refl
  tree_list-data_items (item t ts) e =
      let none = neither (holds_bytes t) (items_hold_bytes ts) e in
      rw (tree_of-data_of t none.0, tree_list-data_items ts none.1) refl

  pair_list-data_members : (ps : Pairs) → pairs_hold_bytes ps ≡ false → pair_list (data_members ps) ≡ Some (pair_list_of ps)
  pair_list-data_members no_pairs e = refl
  pair_list-data_members (pair k t ps) e =
      let none = neither (holds_bytes t) (pairs_hold_bytes ps) e in
      rw (tree_of-data_of t none.0, pair_list-data_members ps none.1) refl

-- ---- how deep the data is

mutual
  pub depth-data_of : (t : Tree) → holds_bytes t ≡ false → depth (data_of t) ≡ nesting t
  depth-data_of nil e = refl
  depth-data_of (flag b) e = refl
  depth-data_of (whole z) e = refl
  depth-data_of (words s) e = refl
  depth-data_of (bytes s) e = absurd cc
  depth-data_of (items ts) e = omega (arith, items_depth-data_items ts e)
  depth-data_of (pairs ps) e = omega (arith, members_depth-data_members ps e)

  items_depth-data_items : (ts : Trees) → items_hold_bytes ts ≡ false → items_depth (data_items ts) ≡ nestings ts
  items_depth-data_items no_items e = refl
  items_depth-data_items (item t ts) e =
      let none = neither (holds_bytes t) (items_hold_bytes ts) e in
      rw (depth-data_of t none.0, items_depth-data_items ts none.1) refl

  members_depth-data_members : (ps : Pairs) → pairs_hold_bytes ps ≡ false → members_depth (data_members ps) ≡ pair_nestings ps
  members_depth-data_members no_pairs e = refl
  members_depth-data_members (pair k t ps) e =
      let none = neither (holds_bytes t) (pairs_hold_bytes ps) e in
      rw (depth-data_of t none.0, members_depth-data_members ps none.1) refl

-- ---- what holds of a pair that is put in, and of those that stand there, holds of all

nesting-by_order : (o : Ordering) (a b c : Pairs) (n : ℕ) → pair_nestings a ≤ n → pair_nestings b ≤ n → pair_nestings c ≤ n → pair_nestings (match_ordering o a b c) ≤ n
nesting-by_order Less a b c n x y z = x
nesting-by_order Equal a b c n x y z = y
nesting-by_order Greater a b c n x y z = z

nesting-put : (k : List ℕ) (t : Tree) (ps : Pairs) → pair_nestings (put k t ps) ≤ max (nesting t) (pair_nestings ps)
nesting-put k t no_pairs = omega arith
nesting-put k t (pair l u ps) = nesting-by_order (key_cmp k l) _ _ _ _ (omega arith) (omega arith) (omega (arith, nesting-put k t ps))

mutual
  pub nesting-norm : (t : Tree) → nesting (norm t) ≤ nesting t
  nesting-norm nil = omega arith
  nesting-norm (flag b) = omega arith
  nesting-norm (whole z) = omega arith
  nesting-norm (words s) = omega arith
  nesting-norm (bytes s) = omega arith
  nesting-norm (items ts) = omega (arith, nestings-norm_items ts)
  nesting-norm (pairs ps) = omega (arith, pair_nestings-norm_onto no_pairs ps)

  nestings-norm_items : (ts : Trees) → nestings (norm_items ts) ≤ nestings ts
  nestings-norm_items no_items = omega arith
  nestings-norm_items (item t ts) = omega (arith, nesting-norm t, nestings-norm_items ts)

  pair_nestings-norm_onto : (found ps : Pairs) → pair_nestings (norm_onto found ps) ≤ max (pair_nestings found) (pair_nestings ps)
  pair_nestings-norm_onto found no_pairs = omega arith
  pair_nestings-norm_onto found (pair k t ps) = omega (arith, pair_nestings-norm_onto (put k (norm t) found) ps, nesting-put k (norm t) found, nesting-norm t)

bytes-by_order : (o : Ordering) (a b c : Pairs) → pairs_hold_bytes a ≡ false → pairs_hold_bytes b ≡ false → pairs_hold_bytes c ≡ false → pairs_hold_bytes (match_ordering o a b c) ≡ false
bytes-by_order Less a b c x y z = x
bytes-by_order Equal a b c x y z = y
bytes-by_order Greater a b c x y z = z

bytes-put : (k : List ℕ) (t : Tree) (ps : Pairs) → holds_bytes t ≡ false → pairs_hold_bytes ps ≡ false → pairs_hold_bytes (put k t ps) ≡ false
bytes-put k t no_pairs e f = rw e refl
bytes-put k t (pair l u ps) e f =
    let none = neither (holds_bytes u) (pairs_hold_bytes ps) f in
    bytes-by_order (key_cmp k l) _ _ _ (rw (e, none.0) none.1) (rw e none.1) (rw none.0 (bytes-put k t ps e none.1))

mutual
  pub bytes-norm : (t : Tree) → holds_bytes t ≡ false → holds_bytes (norm t) ≡ false
  bytes-norm nil e = refl
  bytes-norm (flag b) e = refl
  bytes-norm (whole z) e = refl
  bytes-norm (words s) e = refl
  bytes-norm (bytes s) e = e
  bytes-norm (items ts) e = bytes-norm_items ts e
  bytes-norm (pairs ps) e = bytes-norm_onto no_pairs ps refl e

  bytes-norm_items : (ts : Trees) → items_hold_bytes ts ≡ false → items_hold_bytes (norm_items ts) ≡ false
  bytes-norm_items no_items e = refl
  bytes-norm_items (item t ts) e =
      let none = neither (holds_bytes t) (items_hold_bytes ts) e in
      rw (bytes-norm t none.0) (bytes-norm_items ts none.1)

  bytes-norm_onto : (found ps : Pairs) → pairs_hold_bytes found ≡ false → pairs_hold_bytes ps ≡ false → pairs_hold_bytes (norm_onto found ps) ≡ false
  bytes-norm_onto found no_pairs f e = f
  bytes-norm_onto found (pair k t ps) f e =
      let none = neither (holds_bytes t) (pairs_hold_bytes ps) e in
      bytes-norm_onto (put k (norm t) found) ps (bytes-put k (norm t) found (bytes-norm t none.0) f) none.1

-- ---- the texts of values

shallow : (t : Tree) → nesting t ≤ max_nesting → holds_bytes t ≡ false → depth (data_of (norm t)) ≤ max_depth
shallow t h e = rw (depth-data_of (norm t) (bytes-norm t e)) (omega (arith, nesting-norm t))

-- what is read back as the data of the normal form is read as the normal form
pub reads_back : (t : Tree) → nesting t ≤ max_nesting → holds_bytes t ≡ false → IsUtf8 (shown t) → (depth (data_of (norm t)) ≤ max_depth → read (shown t) ≡ Some (data_of (norm t))) → IsReading (shown t) (norm t)
reads_back t h e u r = (data_of (norm t), (u, r (shallow t h e)), tree_of-data_of (norm t) (bytes-norm t e))

pub ruleset texts = (has_float-data_of, reads_back)
