-- The pages of sequences that are kept can be written.
use Rattle.std.specs.Prelude.{Bool, true, false, ◌==◌, ◌&&◌, ◌-◌, nat_lt, nat_le, slice_get, if◌then◌else◌, pos, negsuc, zero, suc}
use Rattle.std.specs.List.{list_any}
use Rattle.std.proofs.Common.{◌≡◌, ℕ, ◌<◌, ◌≤◌, List, [], ◌∷◌, ◌++◌, length, take, drop, refl, ◌∙◌, ap, arith, Option, Some, None, subst}
use Rattle.std.proofs.lemmas.Bool.{or_parts}
use Rattle.std.proofs.lemmas.List.{length-drop}
use Rattle.wire_base.specs.Tree.{Tree, trees_of}
use Rattle.wire_base.specs.Values.{items_hold_bytes}
use Rattle.wire_base.specs.declared.refusal.Refusal.TheVariants as refusal
use Rattle.wire_base.specs.declared.text.Id.{Id}
use Rattle.wire_base.specs.declared.text.Id.TheVariants.{Number, Name}
use Rattle.wire_base.specs.Lists.{changed_at}
use Rattle.wire_base.proofs.Places.{above_zero}
use Rattle.rpc_items.specs.Bodies.{Encoder, most_page}
use Rattle.rpc_items.specs.Drawn.{with_number}
use Rattle.rpc_items.specs.Fitting.{Fits}
use Rattle.rpc_items.specs.Pages.{page_value, page_values}
use Rattle.enumerables.specs.Producer.{all_ended, changed, ending, given_up, has_left, named_in, page_at, page_if, page_in, page_of, paging, turned, with_sequence}
use Rattle.enumerables.specs.declared.sequence.Sequence.{Sequence}
use Rattle.sequence_limits.specs.Fitting.{AllFit, PagesFit}
use Rattle.sequence_limits.specs.Limits.{pages_refusal, values_refusal}
use Rattle.sequence_limits.proofs.Nested.{drop_bytes, is_too_deep, page_bytes, page_deep, parts_none, take_bytes}

-- ---- values that can be those of a sequence

pub record AreClear (k : Encoder) (values : List Tree) : Type 0 where
  pub bytes : (k.json && items_hold_bytes (trees_of values)) ≡ false
  pub depth : list_any is_too_deep values ≡ false

none_of : (bytes deep : Bool) → (if bytes then Some refusal.BytesInJson else if deep then Some refusal.TooDeep else None) ≡ None → (bytes ≡ false) × (deep ≡ false)
none_of true deep e = absurd cc
none_of false true e = absurd cc
none_of false false e = (refl, refl)

pub clear : (k : Encoder) (values : List Tree) → values_refusal k values ≡ None → AreClear k values
clear k values e = (let parts = none_of (k.json && items_hold_bytes (trees_of values)) (list_any is_too_deep values) e in record { bytes = parts.0; depth = parts.1 })

pub clear_front : (k : Encoder) (n : ℕ) (values : List Tree) → AreClear k values → AreClear k (take n values)
clear_front k n values c = record { bytes = take_bytes k.json n values c.bytes; depth = (parts_none is_too_deep n values c.depth).0 }

pub clear_rest : (k : Encoder) (n : ℕ) (values : List Tree) → AreClear k values → AreClear k (drop n values)
clear_rest k n values c = record { bytes = drop_bytes k.json n values c.bytes; depth = (parts_none is_too_deep n values c.depth).1 }

-- ---- their pages

page_fit : (k : Encoder) (finished : Bool) (values : List Tree) → AreClear k values → nat_lt most_page (k.size (page_value finished values)) ≡ false → Fits k (page_value finished values)
page_fit k finished values c s = record { bytes = ap (λ (b : Bool). k.json && b) (page_bytes finished values) ∙ c.bytes; depth = page_deep finished values ∙ c.depth; size = s }

-- however many of the pages that were tested
front_fits : (k : Encoder) (most tested page : ℕ) (values : List Tree) → 0 < page → length values ≤ tested → AreClear k values
    → list_any (λ page. nat_lt most_page (k.size page)) (page_values tested page values) ≡ false → AllFit k (page_values most page values)
front_fits k zero tested page values p l c e = tt
front_fits k (suc most) tested page [] p l c e = tt
front_fits k (suc most) zero page (v ∷ values) p l c e = absurd (omega arith)
front_fits k (suc most) (suc tested) page (v ∷ values) p l c e =
    let rest = drop page (v ∷ values) in
    let less = length-drop page (v ∷ values) in
    let both = or_parts (nat_lt most_page (k.size (page_value (nat_le (length (v ∷ values)) page) (take page (v ∷ values))))) (list_any (λ page. nat_lt most_page (k.size page)) (page_values tested page rest)) e in (
      page_fit k (nat_le (length (v ∷ values)) page) (take page (v ∷ values)) (clear_front k page (v ∷ values) c) both.0,
      front_fits k most tested page rest p (omega arith) (clear_rest k page (v ∷ values) c) both.1,
    )

none_long : (long : Bool) → (if long then Some refusal.BodyTooLong else None) ≡ None → long ≡ false
none_long true e = absurd cc
none_long false e = refl

all_fit : (k : Encoder) (values : List Tree) (page first most : ℕ) → (page == 0) ≡ false → values_refusal k values ≡ None → pages_refusal k (page_values (length values) page (drop first values)) ≡ None
    → AllFit k (page_values most page (drop first values))
all_fit k values page first most p v e =
    let less = length-drop first values in
    front_fits k most (length values) page (drop first values) (above_zero page p) (omega arith) (clear_rest k first values (clear k values v)) (none_long _ e)

-- ---- one more sequence

with_last : (k : Encoder) (sequences : List Sequence) (s : Sequence) → PagesFit k sequences → ((most : ℕ) → AllFit k (page_values most s.page s.left)) → PagesFit k (sequences ++ (s ∷ []))
with_last k [] s f g = (g, tt)
with_last k (r ∷ sequences) s f g = (f.0, with_last k sequences s f.1 g)

pub kept_fit : (k : Encoder) (values : List Tree) (page first : ℕ) (sequences : List Sequence) → (page == 0) ≡ false → values_refusal k values ≡ None → pages_refusal k (page_values (length values) page (drop first values)) ≡ None →
    PagesFit k sequences → PagesFit k (with_sequence values page first sequences)
kept_fit k values page first sequences p v e f = by (nat_lt first (length values))
  where
    by : (b : Bool) → PagesFit k (if b then sequences ++ ((record { page = page; left = drop first values }) ∷ []) else sequences)
    by true = with_last k sequences (record { page = page; left = drop first values }) f (λ most. all_fit k values page first most p v e)
    by false = f

-- ---- a sequence that becomes another

abbrev Fit : Encoder → Sequence → Type 0
Fit k s = (most : ℕ) → AllFit k (page_values most s.page s.left)

none_fit : (k : Encoder) (page most : ℕ) → AllFit k (page_values most page [])
none_fit k page zero = tt
none_fit k page (suc most) = tt

ending_fits : (k : Encoder) (s : Sequence) → Fit k (ending s)
ending_fits k s most = none_fit k s.page most

rest_fits : (k : Encoder) (page : ℕ) (left : List Tree) → ((most : ℕ) → AllFit k (page_values most page left)) → (most : ℕ) → AllFit k (page_values most page (drop page left))
rest_fits k zero [] f most = f most
rest_fits k (suc page) [] f most = f most
rest_fits k page (v ∷ left) f most = (f (suc most)).1

paging_fits : (k : Encoder) (s : Sequence) → Fit k s → Fit k (paging s)
paging_fits k s f = rest_fits k s.page s.left f

changed_at_fit : (k : Encoder) (place : ℕ) (change : Sequence → Sequence) (sequences : List Sequence) → ((s : Sequence) → Fit k s → Fit k (change s)) → PagesFit k sequences → PagesFit k (changed_at place change sequences)
changed_at_fit k place change [] c f = tt
changed_at_fit k zero change (s ∷ sequences) c f = (c s f.0, f.1)
changed_at_fit k (suc place) change (s ∷ sequences) c f = (f.0, changed_at_fit k place change sequences c f.1)

changed_fit : (k : Encoder) (token : Option ℕ) (change : Sequence → Sequence) (sequences : List Sequence) → ((s : Sequence) → Fit k s → Fit k (change s)) → PagesFit k sequences → PagesFit k (changed token change sequences)
changed_fit k (Some token) change sequences c f = changed_at_fit k (token - 1) change sequences c f
changed_fit k None change sequences c f = f

pub turned_fit : (k : Encoder) (token : Id) (sequences : List Sequence) → PagesFit k sequences → PagesFit k (turned token sequences)
turned_fit k token sequences f = changed_fit k (named_in token sequences) paging sequences (paging_fits k) f

pub given_up_fit : (k : Encoder) (token : Id) (sequences : List Sequence) → PagesFit k sequences → PagesFit k (given_up token sequences)
given_up_fit k token sequences f = changed_fit k (named_in token sequences) ending sequences (λ s h. ending_fits k s) f

pub ended_fit : (k : Encoder) (sequences : List Sequence) → PagesFit k sequences → PagesFit k (all_ended sequences)
ended_fit k [] f = tt
ended_fit k (s ∷ sequences) f = (ending_fits k s, ended_fit k sequences f.1)

-- ---- the next page

fit_at : (k : Encoder) (sequences : List Sequence) (place : ℕ) (s : Sequence) → PagesFit k sequences → slice_get sequences place ≡ Some s → Fit k s
fit_at k [] place s f e = absurd cc
fit_at k (r ∷ sequences) zero s f e = (let same : r ≡ s = cc in subst (Fit k) same f.0)
fit_at k (r ∷ sequences) (suc place) s f e = fit_at k sequences place s f.1 e

numbered_fit : (k : Encoder) (zeroth : Bool) (sequences : List Sequence) (place : ℕ) (s : Sequence) → PagesFit k sequences → (if zeroth then None else slice_get sequences place) ≡ Some s → Fit k s
numbered_fit k true sequences place s f e = absurd cc
numbered_fit k false sequences place s f e = fit_at k sequences place s f e

next_fits : (k : Encoder) (page : ℕ) (left : List Tree) → nat_lt 0 (length left) ≡ true → ((most : ℕ) → AllFit k (page_values most page left)) → Fits k (page_value (nat_le (length left) page) (take page left))
next_fits k page [] e f = absurd cc
next_fits k page (v ∷ left) e f = (f 1).0

page_of_fits : (k : Encoder) (sequences : List Sequence) (token : ℕ) (page : Tree) (o : Option Sequence) → with_number token sequences ≡ o → has_left o ≡ true → PagesFit k sequences → page_if o ≡ Some page → Fits k page
page_of_fits k sequences token page (Some s) h l f e = (let same : page_of s ≡ page = cc in subst (Fits k) same (next_fits k s.page s.left l (numbered_fit k (token == 0) sequences (token - 1) s f h)))
page_of_fits k sequences token page None h l f e = absurd cc

pub page_fits : (k : Encoder) (token : Id) (page : Tree) (sequences : List Sequence) → PagesFit k sequences → page_in token sequences ≡ Some page → Fits k page
page_fits k (Number (pos token)) page sequences f e = by (has_left (with_number token sequences)) refl e
  where
    by : (b : Bool) → has_left (with_number token sequences) ≡ b → page_at (if b then Some token else None) sequences ≡ Some page → Fits k page
    by true l h = page_of_fits k sequences token page (with_number token sequences) refl l f h
    by false l h = absurd cc
page_fits k (Number (negsuc n)) page sequences f e = absurd cc
page_fits k (Name s) page sequences f e = absurd cc
