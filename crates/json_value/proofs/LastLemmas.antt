-- The normal form has the last value of each key.
use Rattle.std.proofs.Common.{◌≡◌, ℕ, Bool, true, false, List, [], ◌∷◌, Option, Some, None, option_map, is_eq, if◌then◌else◌, refl, sym, ap, ◌∙◌, subst}
use Rattle.std.proofs.lemmas.Cmp.{nat_list_cmp_total}
use Rattle.std.proofs.lemmas.Map.Text.{is_eq-slice_cmp}
use Rattle.std.proofs.lemmas.Slice.Eq.{bytes_eq-Decides}
use Rattle.std.specs.declared.cmp.Ordering.{Ordering}
use Rattle.std.specs.declared.cmp.Ordering.TheVariants.{Less, Equal, Greater}
use Rattle.std.specs.Ordering.{match_ordering, ordering_reverse}
use Rattle.std.specs.Str.{bytes_eq}
use Rattle.wire_base.specs.Find.{last_of}
use Rattle.wire_base.specs.Options.{or_else}
use Rattle.wire_base.specs.Tree.{Tree, Pairs, no_pairs, pair, pairs_of, pair_list_of}
use Rattle.wire_base.proofs.Finds.{or_else_none}
use Rattle.json_value.specs.Normal.{key_cmp, put, norm, norm_onto, IsBefore, AreOrdered}
use Rattle.json_value.proofs.NormLemmas.{IsNormal-norm, before_trans, ordered_put}

-- a value, if the test holds
abbrev at : Bool → Tree → Option Tree → Option Tree
at b t rest = if b then Some t else rest

module _ (k : List ℕ) where
  abbrev found_of : Pairs → Option Tree
  found_of ps = last_of k (pair_list_of ps)

  -- a key before all others is none of them
  absent : (ps : Pairs) → IsBefore k ps → found_of ps ≡ None
  absent no_pairs h = refl
  absent (pair l u ps) h =
      let other : bytes_eq l k ≡ false = sym (is_eq-slice_cmp l k) ∙ ap is_eq (nat_list_cmp_total.antisymm l k ∙ ap ordering_reverse h.0) in
      rw (absent ps h.1, other) refl

  put_less : (b : Bool) (t : Tree) (ps : Pairs) → (b ≡ true → found_of ps ≡ None) → or_else (found_of ps) (at b t None) ≡ at b t (found_of ps)
  put_less true t ps h = rw (h refl) refl
  put_less false t ps h = or_else_none (found_of ps)

  put_greater : (b : Bool) (t : Tree) (o rest : Option Tree) → or_else (at b t o) rest ≡ at b t (or_else o rest)
  put_greater true t o rest = refl
  put_greater false t o rest = refl

  put_equal : (b : Bool) (t u : Tree) (o : Option Tree) → (b ≡ true → o ≡ None) → or_else o (at b t None) ≡ at b t (or_else o (at b u None))
  put_equal true t u o h = rw (h refl) refl
  put_equal false t u o h = or_else_none o ∙ sym (or_else_none o)

  same_key : (i : List ℕ) → bytes_eq i k ≡ true → i ≡ k
  same_key i e = (bytes_eq-Decides i k).0 e

  put_at : (o : Ordering) (j l : List ℕ) (t u : Tree) (ps : Pairs) → key_cmp j l ≡ o → IsBefore l ps → found_of (put j t ps) ≡ at (bytes_eq j k) t (found_of ps)
      → found_of (match_ordering o (pair j t (pair l u ps)) (pair l t ps) (pair l u (put j t ps))) ≡ at (bytes_eq j k) t (found_of (pair l u ps))
  put_at Less j l t u ps e h later = put_less (bytes_eq j k) t (pair l u ps) (λ b.
      let first : key_cmp k l ≡ Less = subst (λ i. key_cmp i l ≡ Less) (same_key j b) e in
      absent (pair l u ps) (first, before_trans k l ps first h))
  put_at Equal j l t u ps e h later =
      let same : j ≡ l = (bytes_eq-Decides j l).0 (sym (is_eq-slice_cmp j l) ∙ ap is_eq e) in
      rw same (put_equal (bytes_eq l k) t u (found_of ps) (λ b. absent ps (subst (λ i. IsBefore i ps) (same_key l b) h)))
  put_at Greater j l t u ps e h later = rw later (put_greater (bytes_eq j k) t (found_of ps) (at (bytes_eq l k) u None))

  last_of-put : (j : List ℕ) (t : Tree) (ps : Pairs) → AreOrdered ps → found_of (put j t ps) ≡ at (bytes_eq j k) t (found_of ps)
  last_of-put j t no_pairs h = refl
  last_of-put j t (pair l u ps) h = put_at (key_cmp j l) j l t u ps refl h.1 (last_of-put j t ps h.2)

  one_more : (later : Option Tree) (b : Bool) (t : Tree) (found : Option Tree) → or_else (option_map norm later) (at b (norm t) found) ≡ or_else (option_map norm (or_else later (at b t None))) found
  one_more (Some u) b t found = refl
  one_more None true t found = refl
  one_more None false t found = refl

  last_of-norm_onto : (found : Pairs) (ps : List (List ℕ × Tree)) → AreOrdered found → found_of (norm_onto found (pairs_of ps)) ≡ or_else (option_map norm (last_of k ps)) (found_of found)
  last_of-norm_onto found [] h = refl
  last_of-norm_onto found (p ∷ ps) h =
      last_of-norm_onto (put p.0 (norm p.1) found) ps (ordered_put p.0 (norm p.1) found (IsNormal-norm p.1) h)
      ∙ ap (or_else (option_map norm (last_of k ps))) (last_of-put p.0 (norm p.1) found h)
      ∙ one_more (last_of k ps) (bytes_eq p.0 k) p.1 (found_of found)

  pub last_of-norm : (ps : List (List ℕ × Tree)) → last_of k (pair_list_of (norm_onto no_pairs (pairs_of ps))) ≡ option_map norm (last_of k ps)
  last_of-norm ps = last_of-norm_onto no_pairs ps tt ∙ or_else_none (option_map norm (last_of k ps))
