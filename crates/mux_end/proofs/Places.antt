-- Where a channel stands in the list of an end.
use Rattle.std.specs.Prelude.{ℕ, ◌+◌, ◌<◌, ◌≤◌, ◌++◌, zero, suc, map, List, [], ◌∷◌, length, min, All, true, false, nat_lt, if◌then◌else◌, Option, Some, None, Result, Ok, Err, OnOk}
use Rattle.std.specs.List.{position, position_or_len}
use Rattle.std.proofs.Common.{◌≡◌, inl, inr, refl, sym, ◌∙◌, ap, subst, arith, get_or, set}
use Rattle.std.proofs.lemmas.Bool.{cases_Bool, cond_both, ltb-false}
use Rattle.std.proofs.lemmas.Bool.Decides.{nat_tests}
use Rattle.std.proofs.lemmas.List.{set-get_or}
use Rattle.std.proofs.lemmas.List.Elements.{All-set, All-map}
use Rattle.std.proofs.lemmas.List.Quantifiers.{position-Some}
use Rattle.wire_base.specs.declared.fault.CallFault.{CallFault}
use Rattle.wire_base.specs.declared.fault.CallFault.TheVariants as fault
use Rattle.wire_base.specs.declared.frame.Version.{Version}
use Rattle.wire_base.specs.declared.reason.Reason.{Reason}
use Rattle.wire_base.specs.declared.refusal.Refusal.{Refusal}
use Rattle.wire_base.specs.declared.refusal.Refusal.TheVariants as refusal
use Rattle.wire_base.specs.Options.{or_else}
use Rattle.channel_credit.specs.declared.take_fault.TakeFault.{TakeFault}
use Rattle.channel_credit.specs.declared.take_fault.TakeFault.TheVariants as take_fault
use Rattle.mux_items.specs.declared.channel.ChannelKey.{ChannelKey}
use Rattle.mux_items.specs.Bodies.{FrameBody, ChannelFrame, frame_texts, same_key}
use Rattle.mux_items.specs.Limits.{most_windows}
use Rattle.mux_items.specs.Refusals.{is_bad_window}
use Rattle.mux_items.proofs.Keys.{same_key_true}
use Rattle.mux_state.specs.State.{ChannelState}
use Rattle.mux_state.specs.Next.{ended_state}
use Rattle.mux_state.specs.Tests.{accept_test, accepting_test, on_kept, stays_kept, tally_in}
use Rattle.mux_state.specs.Book.{Entry, Standing, Kept, Gone, change_at, changed, changed_entry, moved, find, frame_on_found, kept_in}
use Rattle.mux_end.specs.Known.{HasVersion, IsOf, Leaves, Takes}

-- an entry of the list, at its place
pub record IsAt (c : ChannelKey) (es : List Entry) (i : ℕ) (e : Entry) : Type 0 where
  pub key : e.key ≡ c
  pub found : find c es ≡ Some e.standing
  pub changes : (f : ChannelState → ChannelState) → change_at c f es ≡ set es i (changed_entry f e)

first_at : (c : ChannelKey) (es : List Entry) (i : ℕ) (e : Entry) → i < length es → e ≡ get_or es i e → same_key c e.key ≡ true → ((k : ℕ) → k < i → same_key c (get_or es k e).key ≡ false) → IsAt c es i e
first_at c [] i e within is same before = absurd (omega arith)
first_at c (x ∷ xs) zero e within is same before =
    let here : same_key c x.key ≡ true = ap (λ (o : Entry). same_key c o.key) (sym is) ∙ same in
    record {
      key = sym (same_key_true c e.key same);
      found = rw here (ap (λ (o : Entry). Some o.standing) (sym is));
      changes = λ f. rw here (ap (λ (o : Entry). changed_entry f o ∷ xs) (sym is));
    }
first_at c (x ∷ xs) (suc i) e within is same before =
    let differs : same_key c x.key ≡ false = before 0 (omega arith) in
    let later = first_at c xs i e (omega arith) is same (λ k h. before (suc k) (omega arith)) in
    record { key = later.key; found = rw differs later.found; changes = λ f. rw differs (ap (λ es. x ∷ es) (later.changes f)) }

pub at_place : (c : ChannelKey) (es : List Entry) (i : ℕ) (e : Entry) → position (λ (entry : Entry). same_key c entry.key) es ≡ Some i → e ≡ get_or es i e → IsAt c es i e
at_place c es i e place is =
    let parts = position-Some (λ (entry : Entry). same_key c entry.key) es i e place in
    first_at c es i e parts.0 is (ap (λ (o : Entry). same_key c o.key) is ∙ parts.1) parts.2

-- a channel that isn't in the list
absent_past : (c : ChannelKey) (es : List Entry) → length es ≤ position_or_len (λ (entry : Entry). same_key c entry.key) es → find c es ≡ None
absent_past c [] past = refl
absent_past c (x ∷ xs) past = elim (cases_Bool (same_key c x.key)) [
  | inl e ↦ absurd (let here = rw e at past in omega (arith, here))
  | inr e ↦ rw e (absent_past c xs (let later = rw e at past in omega (arith, later)))
]

unplaced : (n total : ℕ) → (if nat_lt n total then Some n else None) ≡ None → total ≤ n
unplaced n total e = elim (cases_Bool (nat_lt n total)) [
  | inl less ↦ absurd (let found : Some n ≡ None = sym (rw less refl) ∙ e in cc)
  | inr more ↦ ltb-false n total more
]

pub absent : (c : ChannelKey) (es : List Entry) → position (λ (entry : Entry). same_key c entry.key) es ≡ None → find c es ≡ None
absent c es place = absent_past c es (unplaced (position_or_len (λ (entry : Entry). same_key c entry.key) es) (length es) place)

pub absent_same : (c : ChannelKey) (f : ChannelState → ChannelState) (es : List Entry) → find c es ≡ None → change_at c f es ≡ es
absent_same c f [] e = refl
absent_same c f (x ∷ xs) e = elim (cases_Bool (same_key c x.key)) [
  | inl same ↦ absurd (let found : Some x.standing ≡ None = sym (rw same refl) ∙ e in cc)
  | inr differs ↦ rw differs (ap (λ es. x ∷ es) (absent_same c f xs (sym (rw differs refl) ∙ e)))
]

-- a call on the list is a call on the entry
set_leaves : {A : Type 0} (es : List Entry) (i : ℕ) (e after e' : Entry) (refused : Option Refusal) (result : Result A CallFault) → set es i e ≡ es → Leaves refused e after e' result → Leaves refused es (set es i after) (set es i e') result
set_leaves es i e after e' None (Ok x) same h = ap (set es i) h
set_leaves es i e after e' None (Err fault.OutOfMemory) same h = tt
set_leaves es i e after e' None (Err (fault.Refused r)) same h = absurd h
set_leaves es i e after e' (Some r) (Err (fault.Refused t)) same h = (h.0, ap (set es i) h.1 ∙ same)
set_leaves es i e after e' (Some r) (Err fault.OutOfMemory) same h = absurd h
set_leaves es i e after e' (Some r) (Ok x) same h = absurd h

-- the list as a call finds it, and the entry that is looked up there
pub record Looks (c : ChannelKey) (inside es : List Entry) (i : ℕ) (e : Entry) : Type 0 where
  pub view_is : inside ≡ es
  pub place : position (λ (entry : Entry). same_key c entry.key) es ≡ Some i
  pub entry : e ≡ get_or inside i e

looked : (c : ChannelKey) (inside es : List Entry) (i : ℕ) (e : Entry) → Looks c inside es i e → IsAt c es i e
looked c inside es i e l = at_place c es i e l.place (l.entry ∙ ap (λ xs. get_or xs i e) l.view_is)

stays_set : (c : ChannelKey) (inside es : List Entry) (i : ℕ) (e : Entry) → Looks c inside es i e → set es i e ≡ es
stays_set c inside es i e l = ap (set es i) (l.entry ∙ ap (λ xs. get_or xs i e) l.view_is) ∙ set-get_or es i e

pub list_leaves : {A : Type 0} (c : ChannelKey) (inside es : List Entry) (i : ℕ) (e e' : Entry) (test : ChannelState → Option Refusal) (change : ChannelState → ChannelState) (result : Result A CallFault) → Looks c inside es i e
    → Leaves (on_kept (kept_in (Some e.standing)) test) e (changed_entry change e) e' result → Leaves (on_kept (kept_in (find c es)) test) es (change_at c change es) (set inside i e') result
list_leaves c inside es i e e' test change result l h =
    let at = looked c inside es i e l in
    subst (λ xs. Leaves (on_kept (kept_in (find c es)) test) es (change_at c change es) (set xs i e') result) (sym l.view_is)
    (subst (λ found. Leaves (on_kept (kept_in found) test) es (change_at c change es) (set es i e') result) (sym at.found)
    (subst (λ after. Leaves (on_kept (kept_in (Some e.standing)) test) es after (set es i e') result) (sym (at.changes change))
    (set_leaves es i e (changed_entry change e) e' (on_kept (kept_in (Some e.standing)) test) result (stays_set c inside es i e l) h)))

pub absent_leaves : (A : Type 0) (c : ChannelKey) (es after : List Entry) (test : ChannelState → Option Refusal) → position (λ (entry : Entry). same_key c entry.key) es ≡ None
    → Leaves {A = A} (on_kept (kept_in (find c es)) test) es after es (Err (fault.Refused refusal.NoChannel))
absent_leaves A c es after test place = subst (λ found. Leaves {A = A} (on_kept (kept_in found) test) es after es (Err (fault.Refused refusal.NoChannel))) (sym (absent c es place)) (refl, refl)

set_takes : {A : Type 0} (es : List Entry) (i : ℕ) (e after e' : Entry) (refused : Option Reason) (result : Result A TakeFault) → set es i e ≡ es → Takes refused e after e' result → Takes refused es (set es i after) (set es i e') result
set_takes es i e after e' None (Ok x) same h = ap (set es i) h
set_takes es i e after e' None (Err take_fault.OutOfMemory) same h = tt
set_takes es i e after e' None (Err (take_fault.Refused r)) same h = absurd h
set_takes es i e after e' (Some r) (Err (take_fault.Refused t)) same h = (h.0, ap (set es i) h.1 ∙ same)
set_takes es i e after e' (Some r) (Err take_fault.OutOfMemory) same h = absurd h
set_takes es i e after e' (Some r) (Ok x) same h = absurd h

pub list_takes : {A : Type 0} (c : ChannelKey) (inside es : List Entry) (i : ℕ) (e e' : Entry) (body : FrameBody) (change : ChannelState → ChannelState) (result : Result A TakeFault) → Looks c inside es i e
    → Takes (frame_on_found body (Some e.standing)) e (changed_entry change e) e' result → Takes (frame_on_found body (find c es)) es (change_at c change es) (set inside i e') result
list_takes c inside es i e e' body change result l h =
    let at = looked c inside es i e l in
    subst (λ xs. Takes (frame_on_found body (find c es)) es (change_at c change es) (set xs i e') result) (sym l.view_is)
    (subst (λ found. Takes (frame_on_found body found) es (change_at c change es) (set es i e') result) (sym at.found)
    (subst (λ after. Takes (frame_on_found body (Some e.standing)) es after (set es i e') result) (sym (at.changes change))
    (set_takes es i e (changed_entry change e) e' (frame_on_found body (Some e.standing)) result (stays_set c inside es i e l) h)))

pub absent_takes : {A : Type 0} (c : ChannelKey) (es : List Entry) (body : FrameBody) (change : ChannelState → ChannelState) (x : A) → position (λ (entry : Entry). same_key c entry.key) es ≡ None
    → Takes (frame_on_found body (find c es)) es (change_at c change es) es (Ok x)
absent_takes c es body change x place = let none = absent c es place in
    subst (λ found. Takes (frame_on_found body found) es (change_at c change es) es (Ok x)) (sym none) (sym (absent_same c change es none))

-- what is found in the list is the entry
pub list_has : {B : Type 0} (c : ChannelKey) (inside es : List Entry) (i : ℕ) (e : Entry) (f : ChannelKey → Option Standing → B) → Looks c inside es i e → f e.key (Some e.standing) ≡ f c (find c es)
list_has c inside es i e f l = let at = looked c inside es i e l in ap (λ k. f k (Some e.standing)) at.key ∙ ap (f c) (sym at.found)

pub list_output : {A F : Type 0} (v : Version) (c : ChannelKey) (inside es : List Entry) (i : ℕ) (e : Entry) (due : ChannelKey → Option Standing → List ChannelFrame) (out written : List ℕ) (result : Result A F) → Looks c inside es i e
    → OnOk result (written ≡ out ++ frame_texts v (due e.key (Some e.standing))) → OnOk result (written ≡ out ++ frame_texts v (due c (find c es)))
list_output v c inside es i e due out written result l h = subst (λ fs. OnOk result (written ≡ out ++ frame_texts v fs)) (list_has c inside es i e due l) h

pub list_stays : (v : Version) (c : ChannelKey) (inside es : List Entry) (i : ℕ) (e e' : Entry) → Looks c inside es i e → All (IsOf v) es → IsOf v e' → All (IsOf v) (set inside i e')
list_stays v c inside es i e e' l all one = subst (λ xs. All (IsOf v) (set xs i e')) (sym l.view_is) (All-set (IsOf v) es i e' one all)

-- own windows count no further than one above the most
accept_same : (w w' size : ℕ) → nat_lt most_windows (w + size) ≡ nat_lt most_windows (w' + size) → accept_test w size ≡ accept_test w' size
accept_same w w' size e = λ i s.
    if s.own then Some refusal.WrongSide
    else or_else (accepting_test s)
    (if is_bad_window size then Some refusal.BadWindow
    else if e i then Some refusal.WindowsSpent
    else None)

pub spent_same : (w size : ℕ) → nat_lt most_windows (min (most_windows + 1) w + size) ≡ nat_lt most_windows (w + size)
spent_same w size = grind (arith, nat_tests)

pub accept_within : (w w' size : ℕ) → w ≡ min (most_windows + 1) w' → accept_test w size ≡ accept_test w' size
accept_within w w' size e = ap (λ n. accept_test n size) e ∙ accept_same (min (most_windows + 1) w') w' size (spent_same w' size)

-- the end of an end keeps its channels of one version
moved_version : (v : Version) (s : ChannelState) → s.version ≡ v → HasVersion v (moved s)
moved_version v s e = cond_both (stays_kept s) (Kept s) (Gone (tally_in s)) (HasVersion v) (λ _. e) (λ _. tt)

ended_version : (v : Version) (s : Standing) → HasVersion v s → HasVersion v (changed ended_state s)
ended_version v (Kept now) e = moved_version v (ended_state now) e
ended_version v (Gone tally) e = tt

ended_one : (v : Version) (e : Entry) → IsOf v e → IsOf v (changed_entry ended_state e)
ended_one v e of = record { fits = of.fits; one_version = ended_version v e.standing of.one_version }

pub ended_stays : (v : Version) (es : List Entry) → All (IsOf v) es → All (IsOf v) (map (changed_entry ended_state) es)
ended_stays v es all = All-map (IsOf v) (changed_entry ended_state) es (λ k d h. ended_one v (get_or es k d) (all k d h))
