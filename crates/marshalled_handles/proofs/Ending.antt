-- Ends of own handles that come in another order.
use Rattle.std.specs.Prelude.{◌==◌, Bool, true, false, map, if◌then◌else◌, zero, suc}
use Rattle.std.proofs.Common.{◌≡◌, ℕ, ◌-◌, List, [], ◌∷◌, refl, sym, ◌∙◌, ap, ap₂, Some, None}
use Rattle.wire_base.specs.Lists.{changed_at}
use Rattle.rpc_items.specs.declared.calls.Arg.{Arg}
use Rattle.rpc_items.specs.declared.calls.Arg.TheVariants as arg
use Rattle.rpc_items.specs.declared.calls.Lifetime.TheVariants.{Call, Explicit}
use Rattle.rpc_items.specs.Made.{Made, made_in}
use Rattle.marshalled_handles.specs.declared.own_handle.OwnHandle.{OwnHandle}
use Rattle.marshalled_handles.specs.Owner.{all_ended, answered, answering, ending, fresh, is_until, released}

-- a handle that has ended ends no more, and it ends once

pub answering_ended : (n : ℕ) (h : OwnHandle) → answering n (ending h) ≡ ending h
answering_ended n h = by (is_until n h.until)
  where
    by : (b : Bool) → (if b then ending (ending h) else ending h) ≡ ending h
    by true = refl
    by false = refl

pub ending_answered : (n : ℕ) (h : OwnHandle) → ending (answering n h) ≡ ending h
ending_answered n h = by (is_until n h.until)
  where
    by : (b : Bool) → ending (if b then ending h else h) ≡ ending h
    by true = refl
    by false = refl

pub answered_twice : (n : ℕ) (handles : List OwnHandle) → answered n (answered n handles) ≡ answered n handles
answered_twice n [] = refl
answered_twice n (h ∷ handles) = ap₂ (λ (x : OwnHandle) (xs : List OwnHandle). x ∷ xs) (by (is_until n h.until) refl) (answered_twice n handles)
  where
    by : (b : Bool) → is_until n h.until ≡ b → answering n (if b then ending h else h) ≡ (if b then ending h else h)
    by true e = answering_ended n h
    by false e = ap (λ (b : Bool). if b then ending h else h) e

answering_both : (n m : ℕ) (h : OwnHandle) → answering n (answering m h) ≡ answering m (answering n h)
answering_both n m h = by (is_until n h.until) (is_until m h.until) refl refl
  where
    by : (a b : Bool) → is_until n h.until ≡ a → is_until m h.until ≡ b → answering n (if b then ending h else h) ≡ answering m (if a then ending h else h)
    by true true e f = answering_ended n h ∙ sym (answering_ended m h)
    by true false e f = ap (λ (b : Bool). if b then ending h else h) e ∙ sym (answering_ended m h)
    by false true e f = answering_ended n h ∙ sym (ap (λ (b : Bool). if b then ending h else h) f)
    by false false e f = ap (λ (b : Bool). if b then ending h else h) e ∙ sym (ap (λ (b : Bool). if b then ending h else h) f)

pub answered_both : (n m : ℕ) (handles : List OwnHandle) → answered n (answered m handles) ≡ answered m (answered n handles)
answered_both n m [] = refl
answered_both n m (h ∷ handles) = ap₂ (λ (x : OwnHandle) (xs : List OwnHandle). x ∷ xs) (answering_both n m h) (answered_both n m handles)

answered_at : (n place : ℕ) (handles : List OwnHandle) → answered n (changed_at place ending handles) ≡ changed_at place ending (answered n handles)
answered_at n place [] = refl
answered_at n zero (h ∷ handles) = ap (λ (x : OwnHandle). x ∷ answered n handles) (answering_ended n h ∙ sym (ending_answered n h))
answered_at n (suc place) (h ∷ handles) = ap (λ (xs : List OwnHandle). answering n h ∷ xs) (answered_at n place handles)

answered_if : (n k : ℕ) (b : Bool) (handles : List OwnHandle) → answered n (if b then handles else changed_at k ending handles) ≡ (if b then answered n handles else changed_at k ending (answered n handles))
answered_if n k true handles = refl
answered_if n k false handles = answered_at n k handles

pub answered_released : (n number : ℕ) (handles : List OwnHandle) → answered n (released number handles) ≡ released number (answered n handles)
answered_released n number handles = answered_if n (number - 1) (number == 0) handles

pub answered_over : (n : ℕ) (handles : List OwnHandle) → answered n (all_ended handles) ≡ all_ended handles
answered_over n [] = refl
answered_over n (h ∷ handles) = ap₂ (λ (x : OwnHandle) (xs : List OwnHandle). x ∷ xs) (answering_ended n h) (answered_over n handles)

-- handles that the arguments of a request make end with its response, or with none

abbrev pub fresh_all : List Made → List OwnHandle
fresh_all made = map fresh made

apart : (n k : ℕ) (object : ℕ) → (k == n) ≡ false → answering n (fresh (record { object = object; until = Some k })) ≡ fresh (record { object = object; until = Some k })
apart n k object e = ap (λ (b : Bool). if b then ending (fresh (record { object = object; until = Some k })) else fresh (record { object = object; until = Some k })) e

pub answered_others : (n k : ℕ) (args : List Arg) → (k == n) ≡ false → answered n (fresh_all (made_in (Some k) args)) ≡ fresh_all (made_in (Some k) args)
answered_others n k [] e = refl
answered_others n k (arg.Object object Call ∷ args) e = ap₂ (λ (x : OwnHandle) (xs : List OwnHandle). x ∷ xs) (apart n k object e) (answered_others n k args e)
answered_others n k (arg.Object object Explicit ∷ args) e = ap (λ (xs : List OwnHandle). fresh (record { object = object; until = None }) ∷ xs) (answered_others n k args e)
answered_others n k (a ∷ args) e = answered_others n k args e

pub answered_untied : (n : ℕ) (args : List Arg) → answered n (fresh_all (made_in None args)) ≡ fresh_all (made_in None args)
answered_untied n [] = refl
answered_untied n (arg.Object object Call ∷ args) = ap (λ (xs : List OwnHandle). fresh (record { object = object; until = None }) ∷ xs) (answered_untied n args)
answered_untied n (arg.Object object Explicit ∷ args) = ap (λ (xs : List OwnHandle). fresh (record { object = object; until = None }) ∷ xs) (answered_untied n args)
answered_untied n (a ∷ args) = answered_untied n args
