-- What stands at a place of a list of handles, when one of them ends.
use Rattle.std.specs.Prelude.{◌==◌, Bool, true, false, option_map, if◌then◌else◌, slice_get, zero, suc, Option}
use Rattle.std.proofs.Common.{◌≡◌, ℕ, ◌+◌, ◌-◌, ◌<◌, ◌≤◌, List, [], ◌∷◌, length, refl, sym, ◌∙◌, ap, inl, inr, arith, Some, None}
use Rattle.std.proofs.lemmas.Bool.{cases_Bool, eqb-true}
use Rattle.wire_base.specs.Lists.{changed_at}
use Rattle.wire_base.proofs.Places.{above_zero, changed_at_other, eq_apart, length-changed_at}
use Rattle.marshalled_handles.specs.declared.own_handle.OwnHandle.{OwnHandle}
use Rattle.marshalled_handles.specs.Owner.{ending, released}

-- a handle that ends

ended_here : (place : ℕ) (handles : List OwnHandle) → slice_get (changed_at place ending handles) place ≡ option_map ending (slice_get handles place)
ended_here place [] = refl
ended_here zero (h ∷ handles) = refl
ended_here (suc place) (h ∷ handles) = ended_here place handles

pub ends_past : (place : ℕ) (handles : List OwnHandle) → length handles ≤ place → changed_at place ending handles ≡ handles
ends_past place [] l = refl
ends_past zero (h ∷ handles) l = absurd (omega (arith, l))
ends_past (suc place) (h ∷ handles) l = ap (λ (hs : List OwnHandle). h ∷ hs) (ends_past place handles (omega (arith, l)))

-- a handle that ends under a condition
abbrev pub ending_if : Bool → OwnHandle → OwnHandle
ending_if b h = if b then ending h else h

pub option_same : {A : Type 0} (o : Option A) → o ≡ option_map (λ x. x) o
option_same (Some x) = refl
option_same None = refl

pub unended : (b : Bool) (o : Option OwnHandle) → b ≡ false → o ≡ option_map (ending_if b) o
unended b o e = option_same o ∙ sym (ap (λ (c : Bool). option_map (ending_if c) o) e)

released_here : (b : Bool) (n place : ℕ) (handles : List OwnHandle) → (n == place + 1) ≡ b → (z : Bool) → (n == 0) ≡ z → slice_get (if z then handles else changed_at (n - 1) ending handles) place ≡ option_map (ending_if b) (slice_get handles place)
released_here b n place handles e true h =
    let none : n ≡ 0 = eqb-true n 0 h in
    unended b (slice_get handles place) (elim (cases_Bool b) [ inl t ↦ absurd (let same : n ≡ place + 1 = eqb-true n (place + 1) (e ∙ t) in omega (arith, same, none)) | inr f ↦ f ])
released_here true n place handles e false h =
    let same : n ≡ place + 1 = eqb-true n (place + 1) e in
    let here : n - 1 ≡ place = omega (arith, same) in
    ap (λ (k : ℕ). slice_get (changed_at k ending handles) place) here ∙ ended_here place handles
released_here false n place handles e false h =
    let above : 0 < n = above_zero n h in
    changed_at_other (n - 1) place ending handles (λ s. eq_apart n (place + 1) e (omega (arith, s, above))) ∙ option_same (slice_get handles place)

pub released_each : (n place : ℕ) (handles : List OwnHandle) → slice_get (released n handles) place ≡ option_map (ending_if (n == place + 1)) (slice_get handles place)
released_each n place handles = released_here (n == place + 1) n place handles refl (n == 0) refl

released_length : (z : Bool) (n : ℕ) (handles : List OwnHandle) → length (if z then handles else changed_at (n - 1) ending handles) ≡ length handles
released_length true n handles = refl
released_length false n handles = length-changed_at (n - 1) ending handles

pub length-released : (n : ℕ) (handles : List OwnHandle) → length (released n handles) ≡ length handles
length-released n handles = released_length (n == 0) n handles
