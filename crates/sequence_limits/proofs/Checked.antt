-- What the tests of a sequence find, step by step.
use Rattle.std.specs.Prelude.{Bool, true, false, ◌==◌, ◌&&◌, ◌||◌, nat_lt, nat_le, if◌then◌else◌, zero, suc, Err}
use Rattle.std.specs.List.{list_any}
use Rattle.std.proofs.Common.{◌≡◌, ℕ, ◌+◌, ◌<◌, ◌≤◌, List, [], ◌∷◌, length, take, drop, refl, sym, ◌∙◌, ap, arith, Option, Some, None}
use Rattle.std.proofs.lemmas.Bool.{ltb-false}
use Rattle.std.proofs.lemmas.List.{length-drop}
use Rattle.wire_base.specs.Tree.{Tree, trees_of}
use Rattle.wire_base.specs.Values.{nesting, holds_bytes, items_hold_bytes}
use Rattle.wire_base.specs.declared.fault.CallFault.{CallFault}
use Rattle.wire_base.specs.declared.fault.CallFault.TheVariants as call
use Rattle.wire_base.specs.declared.refusal.Refusal.{Refusal}
use Rattle.wire_base.specs.declared.refusal.Refusal.TheVariants as refusal
use Rattle.wire_base.specs.Options.{or_else}
use Rattle.wire_base.proofs.Places.{above_zero}
use Rattle.rpc_items.specs.Bodies.{Encoder, most_nested, most_page}
use Rattle.rpc_items.specs.Pages.{page_value, page_values}
use Rattle.message_body.specs.Replies.{Writes}
use Rattle.sequence_limits.specs.Limits.{pages_refusal, values_refusal}
use Rattle.sequence_limits.proofs.Kept.{clear, clear_front, clear_rest}
use Rattle.sequence_limits.proofs.Nested.{is_too_deep, page_bytes, page_deep}

-- ---- what is left, and its first page

none_of : (bytes deep : Bool) → bytes ≡ false → deep ≡ false → (if bytes then Some refusal.BytesInJson else if deep then Some refusal.TooDeep else None) ≡ None
none_of true deep b d = absurd cc
none_of false true b d = absurd cc
none_of false false b d = refl

pub behind_clear : (k : Encoder) (n : ℕ) (values : List Tree) → values_refusal k values ≡ None → values_refusal k (drop n values) ≡ None
behind_clear k n values e =
    let rest = clear_rest k n values (clear k values e) in
    none_of (k.json && items_hold_bytes (trees_of (drop n values))) (list_any is_too_deep (drop n values)) rest.bytes rest.depth

abbrev pub next : (page : ℕ) → List Tree → Tree
next page values = page_value (nat_le (length values) page) (take page values)

pub next_bytes : (k : Encoder) (page : ℕ) (values : List Tree) → values_refusal k values ≡ None → (k.json && holds_bytes (next page values)) ≡ false
next_bytes k page values e = ap (λ (b : Bool). k.json && b) (page_bytes (nat_le (length values) page) (take page values)) ∙ (clear_front k page values (clear k values e)).bytes

pub next_depth : (k : Encoder) (page : ℕ) (values : List Tree) → values_refusal k values ≡ None → nesting (next page values) ≤ most_nested
next_depth k page values e =
    let within = ltb-false most_nested (nesting (next page values) + 1) (page_deep (nat_le (length values) page) (take page values) ∙ (clear_front k page values (clear k values e)).depth) in
    omega arith

-- ---- page by page

-- as many pages as there are, where there may be more
same_pages : (most other page : ℕ) (values : List Tree) → 0 < page → length values ≤ most → length values ≤ other → page_values most page values ≡ page_values other page values
same_pages zero zero page values p m n = refl
same_pages zero (suc other) page [] p m n = refl
same_pages zero (suc other) page (v ∷ values) p m n = absurd (omega arith)
same_pages (suc most) zero page [] p m n = refl
same_pages (suc most) zero page (v ∷ values) p m n = absurd (omega arith)
same_pages (suc most) (suc other) page [] p m n = refl
same_pages (suc most) (suc other) page (v ∷ values) p m n =
    let less = length-drop page (v ∷ values) in
    ap (λ (pages : List Tree). page_value (nat_le (length (v ∷ values)) page) (take page (v ∷ values)) ∷ pages) (same_pages most other page (drop page (v ∷ values)) p (omega arith) (omega arith))

one_of_more : (long more : Bool) → (if long || more then Some refusal.BodyTooLong else None) ≡ or_else (if long || false then Some refusal.BodyTooLong else None) (if more then Some refusal.BodyTooLong else None)
one_of_more true more = refl
one_of_more false more = refl

abbrev pub refusal_of : Encoder → (page : ℕ) → List Tree → Option Refusal
refusal_of k page values = pages_refusal k (page_values (length values) page values)

pub all_refused : (k : Encoder) (page first : ℕ) (values left : List Tree) → (page == 0) ≡ false → left ≡ drop first values
    → pages_refusal k (page_values (length values) page (drop first values)) ≡ refusal_of k page left
all_refused k page first values left p is =
    let less = length-drop first values in
    ap (pages_refusal k) (same_pages (length values) (length (drop first values)) page (drop first values) (above_zero page p) (omega arith) (omega arith))
    ∙ ap (refusal_of k page) (sym is)

one_more : (k : Encoder) (page : ℕ) (values : List Tree) → (page == 0) ≡ false → (length values == 0) ≡ false → refusal_of k page values ≡ or_else (pages_refusal k (next page values ∷ [])) (refusal_of k page (drop page values))
one_more k page [] p l = absurd cc
one_more k page (v ∷ values) p l =
    let rest = drop page (v ∷ values) in
    let less = length-drop page (v ∷ values) in
    let some = above_zero page p in
    one_of_more (nat_lt most_page (k.size (next page (v ∷ values)))) (list_any (λ page. nat_lt most_page (k.size page)) (page_values (length values) page rest))
    ∙ ap (λ (pages : List Tree). or_else (pages_refusal k (next page (v ∷ values) ∷ [])) (pages_refusal k pages)) (same_pages (length values) (length rest) page rest some (omega arith) (omega arith))

-- the first page is refused, and so all are
pub stops : (k : Encoder) (page : ℕ) (left : List Tree) (whole : Option Refusal) (e : CallFault) → (page == 0) ≡ false → (length left == 0) ≡ false → whole ≡ refusal_of k page left
    → Writes {A = Unit {0}} (pages_refusal k (next page left ∷ [])) (Err e) → Writes {A = Unit {0}} whole (Err e)
stops k page left whole (call.Refused r) p l s h = s ∙ (one_more k page left p l ∙ ap (λ (o : Option Refusal). or_else o (refusal_of k page (drop page left))) h)
stops k page left whole call.OutOfMemory p l s h = tt

-- the first page isn't refused, and so all are as the others
pub goes_on : (k : Encoder) (page : ℕ) (left rest : List Tree) (whole : Option Refusal) → (page == 0) ≡ false → (length left == 0) ≡ false → whole ≡ refusal_of k page left
    → pages_refusal k (next page left ∷ []) ≡ None → rest ≡ drop page left → whole ≡ refusal_of k page rest
goes_on k page left rest whole p l s h is = s ∙ (one_more k page left p l ∙ (ap (λ (o : Option Refusal). or_else o (refusal_of k page (drop page left))) h ∙ ap (refusal_of k page) (sym is)))
