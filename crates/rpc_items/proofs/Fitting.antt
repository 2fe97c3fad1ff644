-- Each page of an accepted sequence can be written.
use Rattle.std.specs.Prelude.{if◌then◌else◌, not, ◌&&◌, ◌||◌, Bool, true, false, ◌==◌, nat_lt, nat_le, slice_get, zero, suc}
use Rattle.std.specs.List.{list_any}
use Rattle.std.proofs.Common.{inl, inr, ◌≡◌, ℕ, ◌+◌, ◌-◌, ◌*◌, ◌<◌, ◌≤◌, List, [], ◌∷◌, ◌++◌, length, take, drop, refl, sym, ◌∙◌, ap, ap₂, arith, Option, Some, None, le-leb, subst}
use Rattle.std.proofs.lemmas.Bool.{cases_Bool, lt-leb, ltb-true, ltb-false}
use Rattle.std.proofs.lemmas.List.{drop-drop, length-drop}
use Rattle.wire_base.specs.declared.state.Cause.{Cause}
use Rattle.wire_base.specs.declared.refusal.Refusal.{Refusal}
use Rattle.wire_base.specs.declared.refusal.Refusal.TheVariants as refusal
use Rattle.wire_base.specs.Tree.{Tree, trees_of}
use Rattle.rpc_items.specs.declared.calls.Answer.TheVariants as answer
use Rattle.wire_base.specs.Values.{nesting, holds_bytes, items_hold_bytes}
use Rattle.wire_base.specs.Options.{or_else}
use Rattle.wire_base.proofs.Places.{above_zero}
use Rattle.rpc_items.specs.Writing.{message_value}
use Rattle.rpc_items.specs.Items.{RpcItem, Did, Respond, ended, is_running}
use Rattle.rpc_items.specs.Produced.{Produced, produced, produced_by, produced_at, last_token}
use Rattle.rpc_items.specs.Waiting.{is_waiting}
use Rattle.rpc_items.specs.Pages.{page_value, page_values, page_after, are_left}
use Rattle.rpc_items.specs.Producing.{is_aborted, is_open, page_count, is_producing}
use Rattle.rpc_items.specs.Saying.{said, response}
use Rattle.rpc_items.specs.Bodies.{Encoder, most_nested, most_page, most_body, sequence_refusal}
use Rattle.rpc_items.specs.Arguments.{most_drawn}
use Rattle.rpc_items.specs.Refusals.{unless_ended}
use Rattle.rpc_items.specs.Allowed.{IsAllowed, AreAllowed}
use Rattle.rpc_items.specs.Fitting.{page_to_come, Fits}
use Rattle.rpc_items.proofs.Paging.{produced_more}

-- an accepted sequence: a page has values, and the pages passed the tests

abbrev pub pages_of : Produced → List Tree
pages_of s = page_values (length s.values) s.page (drop s.first s.values)

pub record IsWritable (k : Encoder) (s : Produced) : Type 0 where
  pub page : (s.page == 0) ≡ false
  pub response : Tree
  pub none : sequence_refusal k response s.values (pages_of s) ≡ None

-- the newest is one that wasn't there before

newest : {A : Type 0} (ys : List A) (xs : List A) (i : ℕ) (x : A) → slice_get xs i ≡ None → slice_get (xs ++ ys) i ≡ Some x → (j : ℕ) × (slice_get ys j ≡ Some x)
newest ys [] i x n e = (i, e)
newest ys (a ∷ xs) zero x n e = absurd (cc n)
newest ys (a ∷ xs) (suc i) x n e = newest ys xs i x n e

if_newest : {A : Type 0} (b : Bool) (ys xs : List A) (i : ℕ) (x : A) → (if b then None else slice_get xs i) ≡ None → (if b then None else slice_get (xs ++ ys) i) ≡ Some x → (j : ℕ) × (slice_get ys j ≡ Some x)
if_newest true ys xs i x n e = absurd (cc e)
if_newest false ys xs i x n e = newest ys xs i x n e

one_of : {A : Type 0} (b : Bool) (r x : A) (j : ℕ) → slice_get (if b then r ∷ [] else []) j ≡ Some x → r ≡ x
one_of true r x zero e = cc e
one_of true r x (suc j) e = absurd (cc e)
one_of false r x j e = absurd (cc e)

-- what acceptance says of it

sequence_accepted : (e : Option Cause) (w z t : Bool) (said : Option Refusal)
    → unless_ended e (or_else (if w then (if z then Some refusal.BadPage else if t then Some refusal.TooManySequences else None) else Some refusal.NoRequest) said) ≡ None → (z ≡ false) × (said ≡ None)
sequence_accepted (Some why) w z t said h = absurd (cc h)
sequence_accepted None false z t said h = absurd (cc h)
sequence_accepted None true true t said h = absurd (cc h)
sequence_accepted None true false true said h = absurd (cc h)
sequence_accepted None true false false said h = (refl, h)

of_item : (k : Encoder) (item : RpcItem) (items : List RpcItem) (s : Produced) (j : ℕ) → IsAllowed k item items → slice_get (produced_by item) j ≡ Some s → IsWritable k s
of_item k (Did (Respond id (answer.Sequence values page first))) items s j a e =
    let is = one_of (nat_lt first (length values)) (record { values = values; page = page; first = first }) s j e in
    let parts = sequence_accepted (ended items) (is_waiting id items) (page == 0) (nat_lt first (length values) && nat_le most_drawn (last_token items)) _ a in
    subst (IsWritable k) is (record { page = parts.0; response = message_value (response id (answer.Sequence values page first) items); none = parts.1 })
of_item k item items s j a e = absurd (cc e)

pub writable : (k : Encoder) (token : ℕ) (items : List RpcItem) (s : Produced) → AreAllowed k items → produced_at token items ≡ Some s → IsWritable k s
writable k token [] s a e = absurd (none (token == 0) e)
  where
    none : (b : Bool) → (if b then None else None) ≡ Some s → ⊥
    none true h = cc h
    none false h = cc h
writable k token (item ∷ items) s a e = by (produced_at token items) refl (writable k token items s a.1)
  where
    by : (o : Option Produced) → produced_at token items ≡ o → (produced_at token items ≡ Some s → IsWritable k s) → IsWritable k s
    by (Some r) h ih = ih (h ∙ ap Some (cc (e, produced_more token item items r h)))
    by None h ih = (let new = if_newest (token == 0) (produced_by item) (produced items) (token - 1) s h e in of_item k item items s new.0 a.0 new.1)

-- each page passes a test that none fails

first_fails : (b c : Bool) → (b || c) ≡ false → (b ≡ false) × (c ≡ false)
first_fails true c e = absurd (cc e)
first_fails false true e = absurd (cc e)
first_fails false false e = (refl, refl)

-- the page after so many, of these values
abbrev pub page_at : (page pages : ℕ) → List Tree → Tree
page_at page pages values = page_value (nat_le (length (drop (pages * page) values)) page) (take page (drop (pages * page) values))

passes : (test : Tree → Bool) (page : ℕ) (pages most : ℕ) (values : List Tree) → 0 < page → pages * page < length values → length values ≤ most → list_any test (page_values most page values) ≡ false → test (page_at page pages values) ≡ false
passes test page pages zero values p l m e = absurd (omega (arith, l, m))
passes test page pages (suc most) [] p l m e = absurd (omega (arith, l))
passes test page zero (suc most) (v ∷ values) p l m e =
    let none : zero * page ≡ 0 = omega arith in
    let on : drop (zero * page) (v ∷ values) ≡ v ∷ values = ap (λ n. drop n (v ∷ values)) none in
    ap (λ vs. test (page_value (nat_le (length vs) page) (take page vs))) on
    ∙ (first_fails (test (page_value (nat_le (length (v ∷ values)) page) (take page (v ∷ values)))) (list_any test (page_values most page (drop page (v ∷ values)))) e).0
passes test page (suc pages) (suc most) (v ∷ values) p l m e =
    let rest = drop page (v ∷ values) in
    let less : length rest ≡ length (v ∷ values) - page = length-drop page (v ∷ values) in
    let on : drop (pages * page) rest ≡ drop (suc pages * page) (v ∷ values) = drop-drop (pages * page) page (v ∷ values) ∙ ap (λ n. drop n (v ∷ values)) (omega arith) in
    let ih = passes test page pages most rest p (omega (arith, less, l)) (omega (arith, less, m, p)) (first_fails (test (page_value (nat_le (length (v ∷ values)) page) (take page (v ∷ values)))) (list_any test (page_values most page rest)) e).1 in
    ap (λ vs. test (page_value (nat_le (length vs) page) (take page vs))) (sym on) ∙ ih

-- the three tests of an accepted sequence

pub record Passed (k : Encoder) (s : Produced) : Type 0 where
  pub bytes : (k.json && items_hold_bytes (trees_of s.values)) ≡ false
  pub depth : list_any (λ page. nat_lt most_nested (nesting page + 1)) (pages_of s) ≡ false
  pub size : list_any (λ page. nat_lt most_page (k.size page)) (pages_of s) ≡ false

three : (b d e c f : Bool) → (if b then Some refusal.BytesInJson else if d || e then Some refusal.TooDeep else if c || f then Some refusal.BodyTooLong else None) ≡ None → (b ≡ false) × (e ≡ false) × (f ≡ false)
three true d e c f h = absurd (cc h)
three false true e c f h = absurd (cc h)
three false false true c f h = absurd (cc h)
three false false false true f h = absurd (cc h)
three false false false false true h = absurd (cc h)
three false false false false false h = (refl, refl, refl)

passed : (k : Encoder) (s : Produced) → IsWritable k s → Passed k s
passed k s w =
    let all = three (k.json && items_hold_bytes (trees_of s.values)) (nat_lt most_nested (nesting w.response)) (list_any (λ page. nat_lt most_nested (nesting page + 1)) (pages_of s)) (nat_lt most_body (k.size w.response)) (list_any (λ page. nat_lt most_page (k.size page)) (pages_of s)) w.none in
    record { bytes = all.0; depth = all.1; size = all.2 }

-- a part of a list holds no bytes where the whole holds none

and_false : (j b c : Bool) → (b ≡ true → c ≡ true) → (j && c) ≡ false → (j && b) ≡ false
and_false true true c f e = absurd (cc (e, f refl))
and_false true false c f e = refl
and_false false b c f e = refl

or_cases : (a b c : Bool) → (b ≡ true → c ≡ true) → (a || b) ≡ true → (a || c) ≡ true
or_cases true b c f e = refl
or_cases false b c f e = f e

or_second : (a b : Bool) → b ≡ true → (a || b) ≡ true
or_second true b e = refl
or_second false b e = e

take_bytes : (n : ℕ) (values : List Tree) → items_hold_bytes (trees_of (take n values)) ≡ true → items_hold_bytes (trees_of values) ≡ true
take_bytes zero values e = absurd (cc e)
take_bytes (suc n) [] e = e
take_bytes (suc n) (v ∷ values) e = or_cases (holds_bytes v) (items_hold_bytes (trees_of (take n values))) (items_hold_bytes (trees_of values)) (take_bytes n values) e

drop_bytes : (n : ℕ) (values : List Tree) → items_hold_bytes (trees_of (drop n values)) ≡ true → items_hold_bytes (trees_of values) ≡ true
drop_bytes zero values e = e
drop_bytes (suc n) [] e = e
drop_bytes (suc n) (v ∷ values) e = or_second (holds_bytes v) (items_hold_bytes (trees_of values)) (drop_bytes n values e)

page_bytes : (finished : Bool) (values : List Tree) → holds_bytes (page_value finished values) ≡ true → items_hold_bytes (trees_of values) ≡ true
page_bytes finished values e = by (items_hold_bytes (trees_of values)) e
  where
    by : (b : Bool) → (false || (b || false)) ≡ true → b ≡ true
    by true e = refl
    by false e = absurd (cc e)

-- the next page is one of those that were tested

finished_same : (first page pages : ℕ) (values : List Tree) → nat_le (length (drop (pages * page) (drop first values))) page ≡ not (nat_lt (first + (pages + 1) * page) (length values))
finished_same first page pages values =
    let one = length-drop (pages * page) (drop first values) in
    let two = length-drop first values in
    elim (cases_Bool (nat_lt (first + (pages + 1) * page) (length values))) [
      | inl h ↦ lt-leb (length (drop (pages * page) (drop first values))) page (let lt = ltb-true (first + (pages + 1) * page) (length values) h in omega (arith, lt, one, two)) ∙ ap not (sym h)
      | inr h ↦ le-leb (length (drop (pages * page) (drop first values))) page (let le = ltb-false (first + (pages + 1) * page) (length values) h in omega (arith, le, one, two)) ∙ ap not (sym h)
    ]

same_page : (s : Produced) (pages : ℕ) → page_at s.page pages (drop s.first s.values) ≡ page_to_come (Some s) pages
same_page s pages = ap₂ (λ finished vs. page_value finished (take s.page vs)) (finished_same s.first s.page pages s.values) (drop-drop (pages * s.page) s.first s.values)

pub page_fits : (k : Encoder) (s : Produced) (pages : ℕ) → IsWritable k s → are_left s pages ≡ true → Fits k (page_to_come (Some s) pages)
page_fits k s pages w left =
    let all = passed k s w in
    let more = ltb-true (s.first + pages * s.page) (length s.values) left in
    let size = length-drop s.first s.values in
    let within : pages * s.page < length (drop s.first s.values) = omega (arith, size, more) in
    let most : length (drop s.first s.values) ≤ length s.values = omega (arith, size) in
    record {
      bytes = and_false k.json (holds_bytes (page_to_come (Some s) pages)) (items_hold_bytes (trees_of s.values))
          (λ b. drop_bytes (s.first + pages * s.page) s.values (take_bytes s.page (drop (s.first + pages * s.page) s.values) (page_bytes (not (are_left s (pages + 1))) (page_after s pages) b)))
          all.bytes;
      depth = ap (λ page. nat_lt most_nested (nesting page + 1)) (sym (same_page s pages)) ∙ passes (λ page. nat_lt most_nested (nesting page + 1)) s.page pages (length s.values) (drop s.first s.values) (above_zero s.page w.page) within most all.depth;
      size = ap (λ page. nat_lt most_page (k.size page)) (sym (same_page s pages)) ∙ passes (λ page. nat_lt most_page (k.size page)) s.page pages (length s.values) (drop s.first s.values) (above_zero s.page w.page) within most all.size;
    }

open_left : (left running aborted : Bool) → (left && running && not aborted) ≡ true → left ≡ true
open_left true running aborted e = refl
open_left false running aborted e = absurd (cc e)

pub pages_fit : (k : Encoder) (token : ℕ) (items : List RpcItem) → AreAllowed k items → is_producing token items ≡ true → Fits k (page_to_come (produced_at token items) (page_count token items))
pages_fit k token items a open_now = by (produced_at token items) refl open_now
  where
    by : (o : Option Produced) → produced_at token items ≡ o → is_open o (page_count token items) (is_running items) (is_aborted token items) ≡ true → Fits k (page_to_come o (page_count token items))
    by (Some s) h e = page_fits k s (page_count token items) (writable k token items s a h) (open_left (are_left s (page_count token items)) (is_running items) (is_aborted token items) e)
    by None h e = absurd (none (is_running items) (is_aborted token items) e)
      where
        none : (r b : Bool) → is_open None (page_count token items) r b ≡ true → ⊥
        none r b e = cc e
