-- Spellings and refusals exclude one another.
use Rattle.std.proofs.Common.{◌≡◌, ℕ, ◌≤◌, Bool, true, ◌&&◌, leb, List, [], ◌∷◌, ◌++◌, length, take, refl, sym, ap, subst, ◌∙◌, ◌↔◌}
use Rattle.std.proofs.lemmas.List.{take_at}
use Rattle.std.proofs.lemmas.Bool.{le-leb}
use Rattle.wire_base.specs.Tree.{Tree, nil, flag, whole, words, bytes, items, pairs, Trees, no_items, item, Pairs, no_pairs, pair}
use Rattle.wire_base.specs.declared.reason.Reason.{Reason}
use Rattle.wire_base.specs.Values.{max_nesting, nesting}
use Rattle.pack_value.specs.Spelling.{IsSpelling, Spells, SpellsAll, SpellsPairs, count, pair_count, max_len}
use Rattle.pack_value.specs.Tokens.{IsRefused, value}
use Rattle.pack_value.specs.Answer.{Front, Whole, Short, Broken, front, IsAtFront, IsUndecided}
use Rattle.pack_value.specs.Shortest.{IsValue, lengths_fit, item_lengths_fit, pair_lengths_fit, shortest}
use Rattle.pack_value.proofs.Fronts.{Meets, front_meets, front_if_spelled, front_if_refused, at_front}
use Rattle.pack_value.proofs.Settled.{breaks_more}
use Rattle.pack_value.proofs.Spelled.{shortest_is_spelling}

same_found : (t u : Tree) (m n : ℕ) → Whole t m ≡ Whole u n → (t ≡ u) × (m ≡ n)
same_found t u m n e = (cc, cc)

same_broken : (k j : ℕ) (r s : Reason) → ◌≡◌ {A = Front Tree} (Broken k r) (Broken j s) → (k ≡ j) × (r ≡ s)
same_broken k j r s e = (cc, cc)

pub shortest_read : (t : Tree) (rest : List ℕ) → IsValue t → nesting t ≤ max_nesting → front (shortest t ++ rest) ≡ Whole t (length (shortest t))
shortest_read t rest v le =
    front_if_spelled (shortest t ++ rest) t (length (shortest t)) (at_front t (shortest t) rest (shortest t ++ rest) (shortest_is_spelling t v le) refl)

pub apart : (t u : Tree) (b c x y : List ℕ) → IsSpelling t b → IsSpelling u c → b ++ x ≡ c ++ y → (b ≡ c) × (t ≡ u)
apart t u b c x y p q e =
    let f = front_if_spelled (b ++ x) t (length b) (at_front t b x (b ++ x) p refl) in
    let g = front_if_spelled (b ++ x) u (length c) (at_front u c y (b ++ x) q e) in
    let same = same_found t u (length b) (length c) (sym f ∙ g) in
    let cut : take (length b) (b ++ x) ≡ take (length c) (c ++ y) = (ap (λ (n : ℕ). take n (b ++ x)) same.1 ∙ ap (λ (s : List ℕ). take (length c) s) e) in
    (sym (take_at b x (length b) refl) ∙ cut ∙ take_at c y (length c) refl, same.0)

pub stays : (all more : List ℕ) (k : ℕ) (r : Reason) → IsRefused all k r → IsRefused (all ++ more) k r
stays all more k r p = (p.0, breaks_more p.0 (value max_nesting ∷ []) all more k r p.1)

pub one : (all : List ℕ) (k j : ℕ) (r s : Reason) → IsRefused all k r → IsRefused all j s → (k ≡ j) × (r ≡ s)
one all k j r s p q = same_broken k j r s (sym (front_if_refused all k r p) ∙ front_if_refused all j s q)

pub unspelled : (all : List ℕ) (k n : ℕ) (r : Reason) (t : Tree) → IsRefused all k r → IsAtFront all t n → ⊥
unspelled all k n r t p q =
    let f : Broken k r ≡ Whole t n = sym (front_if_refused all k r p) ∙ front_if_spelled all t n q in
    cc

pub found_is : (all : List ℕ) (t : Tree) (n : ℕ) → (front all ≡ Whole t n) ↔ IsAtFront all t n
found_is all t n = (λ e. subst (Meets all) e (front_meets all), λ p. front_if_spelled all t n p)

pub broken_is : (all : List ℕ) (k : ℕ) (r : Reason) → (front all ≡ Broken k r) ↔ IsRefused all k r
broken_is all k r = (λ e. subst (Meets all) e (front_meets all), λ p. front_if_refused all k r p)

undecided : (all : List ℕ) (f : Front Tree) → Meets all f → IsUndecided all → f ≡ Short
undecided all (Whole t n) p q = absurd (q.0 t n p)
undecided all Short p q = refl
undecided all (Broken k r) p q = absurd (q.1 k r p)

pub short_is : (all : List ℕ) → (front all ≡ Short) ↔ IsUndecided all
short_is all = (λ e. subst (Meets all) e (front_meets all), λ p. undecided all (front all) (front_meets all) p)

both : (a b : Bool) → a ≡ true → b ≡ true → (a && b) ≡ true
both a b e f = rw e f

mutual
  pub fitting : (t : Tree) (b : List ℕ) → Spells t b → lengths_fit t ≡ true
  fitting nil b p = refl
  fitting (flag v) b p = refl
  fitting (whole z) b p = refl
  fitting (words s) b p = le-leb (length s) max_len p.1
  fitting (bytes s) b p = le-leb (length s) max_len p.1
  fitting (items ts) b p = both (leb (count ts) max_len) (item_lengths_fit ts) (le-leb (count ts) max_len p.2) (items_fitting ts p.0 p.3)
  fitting (pairs ps) b p = both (leb (pair_count ps) max_len) (pair_lengths_fit ps) (le-leb (pair_count ps) max_len p.2) (pairs_fitting ps p.0 p.3)

  items_fitting : (ts : Trees) (b : List ℕ) → SpellsAll ts b → item_lengths_fit ts ≡ true
  items_fitting no_items b p = refl
  items_fitting (item t ts) b p = both (lengths_fit t) (item_lengths_fit ts) (fitting t p.0 p.3) (items_fitting ts p.1 p.4)

  pairs_fitting : (ps : Pairs) (b : List ℕ) → SpellsPairs ps b → pair_lengths_fit ps ≡ true
  pairs_fitting no_pairs b p = refl
  pairs_fitting (pair k t ps) b p =
      both (leb (length k) max_len && lengths_fit t) (pair_lengths_fit ps)
      (both (leb (length k) max_len) (lengths_fit t) (le-leb (length k) max_len p.4.1) (fitting t p.1 p.5)) (pairs_fitting ps p.2 p.6)
