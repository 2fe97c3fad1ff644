-- Lines of channels, of requests and of handles, one after the other.
use Rattle.std.specs.Prelude.{◌-◌, zero, if◌then◌else◌}
use Rattle.std.specs.List.{flat_map}
use Rattle.std.proofs.Common.{◌≡◌, ℕ, suc, ◌+◌, ◌<◌, ◌≤◌, List, [], ◌∷◌, ◌++◌, length, drop, filter, Bool, true, false, Option, Some, None, slice_get, refl, sym, ◌∙◌, ap, append_assoc, add-one, arith, drop-cons, inl, inr}
use Rattle.std.proofs.lemmas.List.{append-nil, drop_all}
use Rattle.std.proofs.lemmas.Option.{slice_get_within, slice_get_cases, get_or_from_slice_get}
use Rattle.wire_base.specs.declared.state.Cause.{Cause}
use Rattle.wire_base.specs.States.{state_by}
use Rattle.mux_items.specs.declared.channel.ChannelKey.{ChannelKey}
use Rattle.transcript.specs.Report.{shown_state, state_text, lines_to}

drop_at_some : {X : Type 0} (xs : List X) (i : ℕ) (x : X) → slice_get xs i ≡ Some x → drop i xs ≡ x ∷ drop (i + 1) xs
drop_at_some xs i x e =
    let h : i < length xs = slice_get_within xs i x e in
    rw (add-one, drop-cons xs i x) (ap (λ y. y ∷ drop (suc i) xs) (get_or_from_slice_get xs i x x e))

drop_at_none : {X : Type 0} (xs : List X) (i : ℕ) → slice_get xs i ≡ None → drop i xs ≡ []
drop_at_none xs i e = elim (slice_get_cases xs i).1 [
  | inl within ↦ absurd (cc (within.2, e))
  | inr past ↦ drop_all i xs past.0
]

-- the first of what is left was told
pub told_more : {X : Type 0} (lines : List X → List ℕ) (xs : List X) (i : ℕ) (x : X) (first out now all : List ℕ) → slice_get xs i ≡ Some x → lines (x ∷ drop (i + 1) xs) ≡ first ++ lines (drop (i + 1) xs)
    → now ≡ out ++ first → out ++ lines (drop i xs) ≡ all → now ++ lines (drop (i + 1) xs) ≡ all
told_more lines xs i x first out now all here split is before =
    let rest = lines (drop (i + 1) xs) in
    ap (λ bs. bs ++ rest) is
    ∙ (append_assoc out first rest
    ∙ (ap (λ bs. out ++ bs) (sym (ap lines (drop_at_some xs i x here) ∙ split))
    ∙ before))

-- nothing is left
pub told_all : {X : Type 0} (lines : List X → List ℕ) (xs : List X) (i : ℕ) (out all : List ℕ) → slice_get xs i ≡ None → lines [] ≡ [] → out ++ lines (drop i xs) ≡ all → out ≡ all
told_all lines xs i out all none ends before =
    sym (append-nil out) ∙ (ap (λ bs. out ++ bs) (sym (ap lines (drop_at_none xs i none) ∙ ends)) ∙ before)

-- the lines of the first channel, if it is one of them, and of those after it
one_line : (line : ChannelKey → List ℕ) (k : ChannelKey) (ys : List ChannelKey) (b : Bool) → flat_map line (if b then k ∷ ys else ys) ≡ (if b then line k else []) ++ flat_map line ys
one_line line k ys true = refl
one_line line k ys false = refl

pub lines_more : (line : ChannelKey → List ℕ) (test : ChannelKey → Bool) (xs : List ChannelKey) (i : ℕ) (k : ChannelKey) (out now all : List ℕ) → slice_get xs i ≡ Some k → now ≡ out ++ (if test k then line k else [])
    → out ++ flat_map line (filter test (drop i xs)) ≡ all → now ++ flat_map line (filter test (drop (i + 1) xs)) ≡ all
lines_more line test xs i k out now all here is before =
    told_more (λ ys. flat_map line (filter test ys)) xs i k (if test k then line k else []) out now all here (one_line line k (filter test (drop (i + 1) xs)) (test k)) is before

-- the line of one number more; they begin at 1
pub one_more : (line : ℕ → List ℕ) (n : ℕ) (out told now : List ℕ) → 1 ≤ n → now ≡ told ++ line n → told ≡ out ++ lines_to line (n - 1) → now ≡ out ++ lines_to line (n + 1 - 1)
one_more line zero out told now h is before = absurd (omega (arith, h))
one_more line (suc n) out told now h is before =
    let fewer : suc n - 1 ≡ n = omega arith in
    let more : suc n ≡ suc n + 1 - 1 = omega arith in
    is
    ∙ (ap (λ bs. bs ++ line (suc n)) (before ∙ ap (λ k. out ++ lines_to line k) fewer)
    ∙ (append_assoc out (lines_to line n) (line (suc n))
    ∙ ap (λ k. out ++ lines_to line k) more))

-- the state of an end that stands for items is told as these items say
pub shown_state-is : (o : Option Cause) → shown_state (state_by o) ≡ state_text o
shown_state-is None = refl
shown_state-is (Some c) = refl
