-- The normal form has ordered keys, and what has ordered keys is its own normal form.
use Rattle.std.proofs.Common.{◌≡◌, ℕ, List, refl, sym, ap, ap₂, ◌∙◌, subst}
use Rattle.std.proofs.lemmas.Cmp.{nat_list_cmp_total}
use Rattle.std.specs.declared.cmp.Ordering.{Ordering}
use Rattle.std.specs.declared.cmp.Ordering.TheVariants.{Less, Equal, Greater}
use Rattle.std.specs.Ordering.{match_ordering, ordering_reverse}
use Rattle.wire_base.specs.Tree.{Tree, nil, flag, whole, words, bytes, items, pairs, Trees, no_items, item, Pairs, no_pairs, pair}
use Rattle.json_value.specs.Normal.{key_cmp, put, norm, norm_items, norm_onto, IsBefore, IsNormal, AreNormal, AreOrdered}

-- what holds of each choice where it is taken holds of the choice
by_order : (P : Pairs → Type 0) (o : Ordering) (a b c : Pairs) → (o ≡ Less → P a) → (o ≡ Equal → P b) → (o ≡ Greater → P c) → P (match_ordering o a b c)
by_order P Less a b c x y z = x refl
by_order P Equal a b c x y z = y refl
by_order P Greater a b c x y z = z refl

turned : (k l : List ℕ) → key_cmp k l ≡ Greater → key_cmp l k ≡ Less
turned k l e = nat_list_cmp_total.antisymm l k ∙ ap ordering_reverse e

turned_back : (k l : List ℕ) → key_cmp l k ≡ Less → key_cmp k l ≡ Greater
turned_back k l e = nat_list_cmp_total.antisymm k l ∙ ap ordering_reverse e

pub before_trans : (k l : List ℕ) (ps : Pairs) → key_cmp k l ≡ Less → IsBefore l ps → IsBefore k ps
before_trans k l no_pairs e h = tt
before_trans k l (pair m u ps) e h = (nat_list_cmp_total.trans k l m e h.0, before_trans k l ps e h.1)

before_put : (l k : List ℕ) (t : Tree) (ps : Pairs) → key_cmp l k ≡ Less → IsBefore l ps → IsBefore l (put k t ps)
before_put l k t no_pairs e h = (e, tt)
before_put l k t (pair m u ps) e h = by_order (IsBefore l) (key_cmp k m) _ _ _ (λ _. (e, h)) (λ _. h) (λ _. (h.0, before_put l k t ps e h.1))

pub ordered_put : (k : List ℕ) (t : Tree) (ps : Pairs) → IsNormal t → AreOrdered ps → AreOrdered (put k t ps)
ordered_put k t no_pairs n h = (n, tt, tt)
ordered_put k t (pair l u ps) n h = by_order AreOrdered (key_cmp k l) _ _ _
    (λ e. (n, (e, before_trans k l ps e h.1), h))
    (λ _. (n, h.1, h.2))
    (λ e. (h.0, before_put l k t ps (turned k l e) h.1, ordered_put k t ps n h.2))

mutual
  pub IsNormal-norm : (t : Tree) → IsNormal (norm t)
  IsNormal-norm nil = tt
  IsNormal-norm (flag b) = tt
  IsNormal-norm (whole z) = tt
  IsNormal-norm (words s) = tt
  IsNormal-norm (bytes s) = tt
  IsNormal-norm (items ts) = AreNormal-norm_items ts
  IsNormal-norm (pairs ps) = AreOrdered-norm_onto no_pairs ps tt

  AreNormal-norm_items : (ts : Trees) → AreNormal (norm_items ts)
  AreNormal-norm_items no_items = tt
  AreNormal-norm_items (item t ts) = (IsNormal-norm t, AreNormal-norm_items ts)

  AreOrdered-norm_onto : (found ps : Pairs) → AreOrdered found → AreOrdered (norm_onto found ps)
  AreOrdered-norm_onto found no_pairs h = h
  AreOrdered-norm_onto found (pair k t ps) h = AreOrdered-norm_onto (put k (norm t) found) ps (ordered_put k (norm t) found (IsNormal-norm t) h)

-- ---- what is in normal form

-- pairs before others
abbrev join : Pairs → Pairs → Pairs
join no_pairs qs = qs
join (pair k t ps) qs = pair k t (join ps qs)

join-none : (ps : Pairs) → join ps no_pairs ≡ ps
join-none no_pairs = refl
join-none (pair k t ps) = ap (pair k t) (join-none ps)

join_assoc : (ps qs rs : Pairs) → join (join ps qs) rs ≡ join ps (join qs rs)
join_assoc no_pairs qs rs = refl
join_assoc (pair k t ps) qs rs = ap (pair k t) (join_assoc ps qs rs)

before_middle : (l k : List ℕ) (t : Tree) (found ps : Pairs) → IsBefore l (join found (pair k t ps)) → key_cmp l k ≡ Less
before_middle l k t no_pairs ps h = h.0
before_middle l k t (pair m u found) ps h = before_middle l k t found ps h.1

-- a key after all others goes last
put_last : (k : List ℕ) (t : Tree) (found ps : Pairs) → AreOrdered (join found (pair k t ps)) → put k t found ≡ join found (pair k t no_pairs)
put_last k t no_pairs ps h = refl
put_last k t (pair l u found) ps h =
    rw (turned_back k l (before_middle l k t found ps h.1)) (ap (pair l u) (put_last k t found ps h.2))

normal_middle : (k : List ℕ) (t : Tree) (found ps : Pairs) → AreOrdered (join found (pair k t ps)) → IsNormal t
normal_middle k t no_pairs ps h = h.0
normal_middle k t (pair l u found) ps h = normal_middle k t found ps h.2

mutual
  pub norm_same : (t : Tree) → IsNormal t → norm t ≡ t
  norm_same nil h = refl
  norm_same (flag b) h = refl
  norm_same (whole z) h = refl
  norm_same (words s) h = refl
  norm_same (bytes s) h = refl
  norm_same (items ts) h = ap items (norm_items_same ts h)
  norm_same (pairs ps) h = ap pairs (norm_onto_same no_pairs ps h)

  norm_items_same : (ts : Trees) → AreNormal ts → norm_items ts ≡ ts
  norm_items_same no_items h = refl
  norm_items_same (item t ts) h = ap₂ item (norm_same t h.0) (norm_items_same ts h.1)

  norm_onto_same : (found ps : Pairs) → AreOrdered (join found ps) → norm_onto found ps ≡ join found ps
  norm_onto_same found no_pairs h = sym (join-none found)
  norm_onto_same found (pair k t ps) h =
      let last = join_assoc found (pair k t no_pairs) ps in
      ap (λ u. norm_onto (put k u found) ps) (norm_same t (normal_middle k t found ps h))
      ∙ ap (λ qs. norm_onto qs ps) (put_last k t found ps h)
      ∙ norm_onto_same (join found (pair k t no_pairs)) ps (subst AreOrdered (sym last) h)
      ∙ last

pub norm-norm : (t : Tree) → norm (norm t) ≡ norm t
norm-norm t = norm_same (norm t) (IsNormal-norm t)
