-- What a search finds among handles by rising number, and what an edit at that place does.
use Rattle.std.specs.Prelude.{Bool, true, false, ◌==◌, nat_lt, is_some, option_map, slice_get, if◌then◌else◌, set, zero, suc, Option, Result, Ok, Err, IfOk, IfErr}
use Rattle.std.specs.List.{insert}
use Rattle.std.specs.List.Sorted.{IsSearchInRange, IsBinarySearchResult, IsNonDecreasingBy}
use Rattle.std.specs.Ordering.{nat_cmp, ordering_index}
use Rattle.std.proofs.Common.{◌≡◌, ℕ, ◌<◌, ◌≤◌, List, [], ◌∷◌, length, take, drop, get_or, refl, sym, ◌∙◌, ap, subst, inl, inr, arith, Some, None}
use Rattle.std.proofs.lemmas.Bool.{cases_Bool, eqb-true, eq-eqb, lt-ltb, ltb-true}
use Rattle.std.proofs.lemmas.Bool.Decides.{nat_tests}
use Rattle.std.proofs.lemmas.Cmp.{ranked}
use Rattle.wire_base.specs.declared.text.Id.{Id}
use Rattle.marshalled_handles.specs.declared.peer_handle.PeerHandle.{PeerHandle}
use Rattle.marshalled_handles.specs.Holder.{AreAbove, AreBelow, AreRising, IsAt, IsGapFor, adopting, ending, found, fresh, number_at, placed, released}
use Rattle.marshalled_handles.proofs.Finding.{above_absent, adopting_rises, released_rises}

-- the number at a place
abbrev number_or : List PeerHandle → ℕ → PeerHandle → ℕ
number_or held i d = (get_or held i d).number

above_each : (n : ℕ) (held : List PeerHandle) → AreAbove n held → (j : ℕ) (d : PeerHandle) → j < length held → n < number_or held j d
above_each n [] p j d l = absurd (omega (arith, l))
above_each n (h ∷ held) p zero d l = p.0
above_each n (h ∷ held) p (suc j) d l = above_each n held p.1 j d (omega (arith, l))

rising_each : (held : List PeerHandle) → AreRising held → (i j : ℕ) (d : PeerHandle) → i ≤ j → j < length held → number_or held i d ≤ number_or held j d
rising_each [] r i j d le l = absurd (omega (arith, l))
rising_each (h ∷ held) r zero zero d le l = omega arith
rising_each (h ∷ held) r zero (suc j) d le l = (let less = above_each h.number held r.0 j d (omega (arith, l)) in omega (arith, less))
rising_each (h ∷ held) r (suc i) zero d le l = absurd (omega (arith, le))
rising_each (h ∷ held) r (suc i) (suc j) d le l = rising_each held r.1 i j d (omega (arith, le)) (omega (arith, l))

below_from : (n : ℕ) (held : List PeerHandle) (i : ℕ) → i ≤ length held → ((j : ℕ) (d : PeerHandle) → j < i → j < length held → number_or held j d < n) → AreBelow n (take i held)
below_from n [] zero l p = tt
below_from n [] (suc i) l p = tt
below_from n (h ∷ held) zero l p = tt
below_from n (h ∷ held) (suc i) l p = (p 0 h (omega arith) (omega arith), below_from n held i (omega (arith, l)) (λ j d lt within. p (suc j) d (omega (arith, lt)) (omega (arith, within))))

above_from : (n : ℕ) (held : List PeerHandle) (i : ℕ) → ((j : ℕ) (d : PeerHandle) → i ≤ j → j < length held → n < number_or held j d) → AreAbove n (drop i held)
above_from n [] zero p = tt
above_from n [] (suc i) p = tt
above_from n (h ∷ held) zero p = (p 0 h (omega arith) (omega arith), above_from n held 0 (λ j d le within. p (suc j) d (omega arith) (omega (arith, within))))
above_from n (h ∷ held) (suc i) p = above_from n held i (λ j d le within. p (suc j) d (omega (arith, le)) (omega (arith, within)))

number_there : (held : List PeerHandle) (i n : ℕ) → i < length held → ((d : PeerHandle) → number_or held i d ≡ n) → number_at i held ≡ Some n
number_there [] i n l p = absurd (omega (arith, l))
number_there (h ∷ held) zero n l p = ap (λ (k : ℕ). Some k) (p h)
number_there (h ∷ held) (suc i) n l p = number_there held i n (omega (arith, l)) p

module _ (held : List PeerHandle) (rises : AreRising held) (n : ℕ) where
  -- the comparisons with the number rise along the list, as a binary search asks
  comparisons_rise : IsNonDecreasingBy (λ h. ordering_index (nat_cmp h.number n)) held
  comparisons_rise i j d le within = (let up = rising_each held rises i j d le within in grind (arith, nat_tests, up))

  -- a binary search by number ends at the handle, or at the gap for it
  pub searched : (r : Result ℕ ℕ) → IsSearchInRange r (length held) → IsBinarySearchResult (λ h. nat_cmp h.number n) held r → record { at : IfOk r (IsAt held n); gap : IfErr r (IsGapFor held n) }
  searched (Ok place) within equal = record { at = record { there = number_there held place n within (λ d. ranked _ n _ (sym (equal d))) }; gap = tt }
  searched (Err place) within parted = record {
    at = tt;
    gap = record {
      within = within;
      below = below_from n held place within (λ j d lt inside. ranked _ n _ (sym ((parted comparisons_rise).0 j d (omega arith) lt)));
      above = above_from n held place (λ j d le inside. ranked _ n _ (sym ((parted comparisons_rise).1 j d le inside)));
    };
  }

-- in the gap

below_absent : (n : ℕ) (held : List PeerHandle) (i : ℕ) → AreBelow n (take i held) → AreAbove n (drop i held) → found n held ≡ None
below_absent n [] zero b a = refl
below_absent n [] (suc i) b a = refl
below_absent n (h ∷ held) zero b a = above_absent n (h ∷ held) a
below_absent n (h ∷ held) (suc i) b a = by (h.number == n) refl (below_absent n held i b.1 a)
  where
    by : (c : Bool) → (h.number == n) ≡ c → found n held ≡ None → (if c then Some h else found n held) ≡ None
    by true e ih = absurd (let first = b.0 in omega (arith, eqb-true h.number n e, first))
    by false e ih = ih

pub absent : (held : List PeerHandle) (n place : ℕ) → IsGapFor held n place → found n held ≡ None
absent held n place gap = below_absent n held place gap.below gap.above

not_below : (h new : PeerHandle) → new.number < h.number → nat_lt h.number new.number ≡ false
not_below h new l = elim (cases_Bool (nat_lt h.number new.number)) [
  | inl e ↦ absurd (let less = ltb-true h.number new.number e in omega (arith, less, l))
  | inr e ↦ e
]

inserted : (new : PeerHandle) (held : List PeerHandle) (i : ℕ) → AreBelow new.number (take i held) → AreAbove new.number (drop i held) → insert held i new ≡ placed new held
inserted new [] zero b a = refl
inserted new [] (suc i) b a = refl
inserted new (h ∷ held) zero b a = sym (ap (λ (c : Bool). if c then h ∷ placed new held else new ∷ (h ∷ held)) (not_below h new a.0))
inserted new (h ∷ held) (suc i) b a =
    ap (λ (hs : List PeerHandle). h ∷ hs) (inserted new held i b.1 a)
    ∙ sym (ap (λ (c : Bool). if c then h ∷ placed new held else new ∷ (h ∷ held)) (lt-ltb h.number new.number b.0))

pub adopts_there : (held : List PeerHandle) (number place : ℕ) (until : Option Id) → IsGapFor held number place → insert held place (fresh number until) ≡ adopting number until held
adopts_there held number place until gap =
    inserted (fresh number until) held place gap.below gap.above
    ∙ sym (ap (λ (o : Option PeerHandle). if is_some o then held else placed (fresh number until) held) (absent held number place gap))

-- at the handle

if_some : {A : Type 0} (b : Bool) (x : A) (o : Option A) → b ≡ true → (if b then Some x else o) ≡ Some x
if_some true x o e = refl
if_some false x o e = absurd (cc e)

same_number : (a b : ℕ) → Some a ≡ Some b → a ≡ b
same_number a b e = cc e

at_above : (n m : ℕ) (held : List PeerHandle) (place : ℕ) → AreAbove n held → number_at place held ≡ Some m → n < m
at_above n m [] place p e = absurd (cc e)
at_above n m (h ∷ held) zero p e = (let first = p.0 in omega (arith, first, same_number h.number m e))
at_above n m (h ∷ held) (suc place) p e = at_above n m held place p.1 e

apart_before : (h : PeerHandle) (n : ℕ) (held : List PeerHandle) (place : ℕ) → AreAbove h.number held → number_at place held ≡ Some n → (h.number == n) ≡ false
apart_before h n held place p e = elim (cases_Bool (h.number == n)) [
  | inl s ↦ absurd (let less = at_above h.number n held place p e in omega (arith, eqb-true h.number n s, less))
  | inr s ↦ s
]

pub present : (held : List PeerHandle) (n place : ℕ) → AreRising held → number_at place held ≡ Some n → found n held ≡ slice_get held place
present [] n place r at = refl
present (h ∷ held) n zero r at = if_some (h.number == n) h (found n held) (eq-eqb h.number n (same_number h.number n at))
present (h ∷ held) n (suc place) r at = ap (λ (b : Bool). if b then Some h else found n held) (apart_before h n held place r.0 at) ∙ present held n place r.1 at

within_list : (held : List PeerHandle) (n place : ℕ) → number_at place held ≡ Some n → place < length held
within_list [] n place e = absurd (cc e)
within_list (h ∷ held) n zero e = omega arith
within_list (h ∷ held) n (suc place) e = (let less = within_list held n place e in omega (arith, less))

ends_there : (held : List PeerHandle) (n place : ℕ) (h : PeerHandle) → AreRising held → number_at place held ≡ Some n → h ≡ get_or held place h → set held place (ending h) ≡ released n held
ends_there [] n place h r at is = absurd (cc at)
ends_there (x ∷ held) n zero h r at is = ap (λ (y : PeerHandle). ending y ∷ held) is ∙ sym (ap (λ (b : Bool). if b then ending x ∷ held else x ∷ released n held) (eq-eqb x.number n (same_number x.number n at)))
ends_there (x ∷ held) n (suc place) h r at is =
    ap (λ (hs : List PeerHandle). x ∷ hs) (ends_there held n place h r.1 at is)
    ∙ sym (ap (λ (b : Bool). if b then ending x ∷ held else x ∷ released n held) (apart_before x n held place r.0 at))

get_there : (held : List PeerHandle) (place : ℕ) (h : PeerHandle) → h ≡ get_or held place h → place < length held → slice_get held place ≡ Some h
get_there [] place h e l = absurd (omega (arith, l))
get_there (x ∷ held) zero h e l = ap (λ (y : PeerHandle). Some y) (sym e)
get_there (x ∷ held) (suc place) h e l = get_there held place h e (omega (arith, l))

absent_stays : (held : List PeerHandle) (n : ℕ) → found n held ≡ None → released n held ≡ held
absent_stays [] n e = refl
absent_stays (h ∷ held) n e = by (h.number == n) refl e (absent_stays held n)
  where
    by : (b : Bool) → (h.number == n) ≡ b → (if b then Some h else found n held) ≡ None → (found n held ≡ None → released n held ≡ held) → released n (h ∷ held) ≡ h ∷ held
    by true s f ih = absurd (cc f)
    by false s f ih = ap (λ (b : Bool). if b then ending h ∷ held else h ∷ released n held) s ∙ ap (λ (hs : List PeerHandle). h ∷ hs) (ih f)

-- nothing ends where the handle isn't there
pub stays_there : (held : List PeerHandle) (n place : ℕ) → IsGapFor held n place → held ≡ released n held
stays_there held n place gap = sym (absent_stays held n (absent held n place gap))

-- what a search in the handles that are stored tells of those that are seen

module _ (all now : List PeerHandle) (n place : ℕ) (view : all ≡ now) (rises : AreRising all) where
  at_all : IsAt now n place → number_at place all ≡ Some n
  at_all at = ap (number_at place) view ∙ at.there

  -- the handle that was read at its place
  pub read_there : (h : PeerHandle) → IsAt now n place → h ≡ get_or all place h → Some h ≡ found n now
  read_there h at is = sym (ap (found n) (sym view) ∙ (present all n place rises (at_all at) ∙ get_there all place h is (within_list all n place (at_all at))))

  -- a write of its end
  pub ended_there : (h new : PeerHandle) → IsAt now n place → h ≡ get_or all place h → new ≡ ending h → set all place new ≡ released n now
  ended_there h new at is e = ap (set all place) e ∙ (ends_there all n place h rises (at_all at) is ∙ ap (released n) view)

  pub ended_rises : (h new : PeerHandle) → IsAt now n place → h ≡ get_or all place h → new ≡ ending h → AreRising (set all place new)
  ended_rises h new at is e = subst AreRising (sym (ap (set all place) e ∙ ends_there all n place h rises (at_all at) is)) (released_rises n all rises)

  -- a handle that is there is adopted no more
  pub adopted_there : (until : Option Id) → IsAt now n place → now ≡ adopting n until now
  adopted_there until at = by (slice_get all place) refl
    where
      by : (o : Option PeerHandle) → slice_get all place ≡ o → now ≡ adopting n until now
      by (Some h) e = sym (ap (λ (o : Option PeerHandle). if is_some o then now else placed (fresh n until) now) (ap (found n) (sym view) ∙ (present all n place rises (at_all at) ∙ e)))
      by None e = absurd (cc (sym (at_all at) ∙ ap (option_map (λ (h : PeerHandle). h.number)) e))

  -- one that isn't goes into its gap
  pub inserted_there : (until : Option Id) → IsGapFor now n place → insert all place (fresh n until) ≡ adopting n until now
  inserted_there until gap = ap (λ (hs : List PeerHandle). insert hs place (fresh n until)) view ∙ adopts_there now n place until gap

  pub inserted_rises : (until : Option Id) → IsGapFor now n place → AreRising (insert all place (fresh n until))
  inserted_rises until gap = subst AreRising (sym (inserted_there until gap)) (adopting_rises n until now (subst AreRising view rises))
