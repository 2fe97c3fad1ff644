-- Pages are a front of the sequence that was answered.
use Rattle.std.specs.Prelude.{if◌then◌else◌, ◌&&◌, Bool, true, false, ◌==◌, is_some, slice_get, zero, suc}
use Rattle.std.proofs.Common.{◌≡◌, ℕ, ◌+◌, ◌-◌, ◌*◌, List, [], ◌∷◌, ◌++◌, take, drop, refl, sym, ◌∙◌, ap, arith, Option, Some, None}
use Rattle.std.proofs.lemmas.List.{take-append-drop}
use Rattle.std.proofs.Math.Seq.{take-add}
use Rattle.wire_base.specs.Tree.{Tree}
use Rattle.rpc_items.specs.Items.{RpcItem, is_running}
use Rattle.rpc_items.specs.Drawn.{with_number}
use Rattle.rpc_items.specs.Produced.{Produced, produced, produced_by, produced_at}
use Rattle.rpc_items.specs.Pages.{page_after}
use Rattle.rpc_items.specs.Producing.{turns_page, is_aborted, is_open, page_count, is_producing, page_of, first_of_sequence, answered_values}
use Rattle.rpc_items.specs.Fitting.{IsFrontOf}

-- a numbered one keeps its number

slice_get-append : {A : Type 0} (xs ys : List A) (i : ℕ) (x : A) → slice_get xs i ≡ Some x → slice_get (xs ++ ys) i ≡ Some x
slice_get-append [] ys i x e = absurd (cc e)
slice_get-append (a ∷ xs) ys zero x e = e
slice_get-append (a ∷ xs) ys (suc i) x e = slice_get-append xs ys i x e

if_some : {A : Type 0} (b : Bool) (o p : Option A) (x : A) → (o ≡ Some x → p ≡ Some x) → (if b then None else o) ≡ Some x → (if b then None else p) ≡ Some x
if_some true o p x f e = absurd (cc e)
if_some false o p x f e = f e

pub with_number-append : {A : Type 0} (n : ℕ) (xs ys : List A) (x : A) → with_number n xs ≡ Some x → with_number n (xs ++ ys) ≡ Some x
with_number-append n xs ys x e = if_some (n == 0) (slice_get xs (n - 1)) (slice_get (xs ++ ys) (n - 1)) x (slice_get-append xs ys (n - 1) x) e

pub produced_more : (token : ℕ) (item : RpcItem) (items : List RpcItem) (s : Produced) → produced_at token items ≡ Some s → produced_at token (item ∷ items) ≡ Some s
produced_more token item items s e = with_number-append token (produced items) (produced_by item) s e

-- before its drawing a token has no pages

no_page : (t r a : Bool) (pages : ℕ) → (if t && is_open None pages r a then pages + 1 else pages) ≡ pages
no_page true r a pages = refl
no_page false r a pages = refl

still : (token : ℕ) (item : RpcItem) (items : List RpcItem) → produced_at token items ≡ None → page_count token (item ∷ items) ≡ page_count token items
still token item items e =
    ap (λ s. if turns_page token item && is_open s (page_count token items) (is_running items) (is_aborted token items) then page_count token items + 1 else page_count token items) e
    ∙ no_page (turns_page token item) (is_running items) (is_aborted token items) (page_count token items)

was_none : (token : ℕ) (item : RpcItem) (items : List RpcItem) → produced_at token (item ∷ items) ≡ None → produced_at token items ≡ None
was_none token item items e = by (produced_at token items) refl
  where
    by : (o : Option Produced) → produced_at token items ≡ o → o ≡ None
    by (Some s) h = absurd (cc (e, produced_more token item items s h))
    by None h = refl

no_pages : (token : ℕ) (items : List RpcItem) → produced_at token items ≡ None → page_count token items ≡ 0
no_pages token [] e = refl
no_pages token (item ∷ items) e = (let none = was_none token item items e in still token item items none ∙ no_pages token items none)

none_yet : (b : Bool) (s : Produced) → (if b then None else None) ≡ Some s → ⊥
none_yet true s e = cc e
none_yet false s e = cc e

next_part : (first page pages : ℕ) (values : List Tree) → take (first + pages * page) values ++ take page (drop (first + pages * page) values) ≡ take (first + (pages + 1) * page) values
next_part first page pages values = sym (take-add (first + pages * page) page values) ∙ ap (λ n. take n values) (omega arith)

pub answered_front : (token : ℕ) (items : List RpcItem) (s : Produced) → produced_at token items ≡ Some s → answered_values token items ≡ take (s.first + page_count token items * s.page) s.values
answered_front token [] s e = absurd (none_yet (token == 0) s e)
answered_front token (item ∷ items) s e = by (produced_at token items) refl (answered_front token items)
  where
    turn : (b : Bool) → answered_values token items ≡ take (s.first + page_count token items * s.page) s.values
        → (if b then answered_values token items ++ page_after s (page_count token items) else answered_values token items) ≡ take (s.first + (if b then page_count token items + 1 else page_count token items) * s.page) s.values
    turn true ih = ap (λ v. v ++ page_after s (page_count token items)) ih ∙ next_part s.first s.page (page_count token items) s.values
    turn false ih = ih

    by : (o : Option Produced) → produced_at token items ≡ o → ((s : Produced) → produced_at token items ≡ Some s → answered_values token items ≡ take (s.first + page_count token items * s.page) s.values)
        → answered_values token (item ∷ items) ≡ take (s.first + page_count token (item ∷ items) * s.page) s.values
    by (Some r) h ih =
        let same : r ≡ s = cc (e, produced_more token item items r h) in
        let at : produced_at token items ≡ Some s = h ∙ ap Some same in
        ap (λ o. if is_some o then (if turns_page token item && is_producing token items then answered_values token items ++ page_of o (page_count token items) else answered_values token items) else first_of_sequence (produced_at token (item ∷ items))) at
        ∙ turn (turns_page token item && is_producing token items) (ih s at)
    by None h ih =
        let zero_pages : page_count token (item ∷ items) ≡ 0 = still token item items h ∙ no_pages token items h in
        ap (λ o. if is_some o then (if turns_page token item && is_producing token items then answered_values token items ++ page_of o (page_count token items) else answered_values token items) else first_of_sequence (produced_at token (item ∷ items))) h
        ∙ (ap first_of_sequence e ∙ ap (λ n. take n s.values) (omega (arith, ap (λ n. s.first + n * s.page) zero_pages)))

pub front : (token : ℕ) (items : List RpcItem) → IsFrontOf (answered_values token items) (produced_at token items)
front token items = by (produced_at token items) refl
  where
    by : (o : Option Produced) → produced_at token items ≡ o → IsFrontOf (answered_values token items) o
    by (Some s) h =
        let n = s.first + page_count token items * s.page in
        (drop n s.values, ap (λ v. v ++ drop n s.values) (answered_front token items s h) ∙ take-append-drop n s.values)
    by None h = tt
