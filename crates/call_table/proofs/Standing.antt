-- A table stands for the items again after each call.
use Rattle.std.specs.Prelude.{◌&&◌, Bool, true, false, ◌⊎◌, slice_get, option_map}
use Rattle.std.specs.List.{list_any}
use Rattle.std.proofs.Common.{◌≡◌, ℕ, ◌+◌, ◌<◌, List, [], ◌∷◌, ◌++◌, length, refl, sym, ◌∙◌, ap, ap₂, inl, inr, arith, Option, Some, None, length-append}
use Rattle.std.proofs.lemmas.Bool.{cases_Bool}
use Rattle.std.proofs.lemmas.List.{append-nil}
use Rattle.std.proofs.lemmas.Option.{slice_get_past}
use Rattle.wire_base.specs.declared.text.Id.{Id}
use Rattle.wire_base.proofs.Places.{get_before, get_last, three_ways}
use Rattle.rpc_items.specs.declared.calls.Outcome.{Outcome}
use Rattle.rpc_items.specs.Ids.{same_id}
use Rattle.rpc_items.specs.Items.{RpcItem, Did, RpcCall, Ask, Next, Invoke, is_running}
use Rattle.rpc_items.specs.Drawn.{Asked, asked, asked_by, drawn, is_drawn, is_forgotten, is_cancelled}
use Rattle.rpc_items.specs.Outcomes.{answer_to}
use Rattle.rpc_items.specs.Reports.{reports}
use Rattle.rpc_items.specs.Waiting.{is_waiting}
use Rattle.rpc_items.proofs.Settling.{same}
use Rattle.rpc_items.proofs.Stable.{is_drawn_more, ended_more, answer_more}
use Rattle.call_table.specs.declared.entry.Entry.{Entry}
use Rattle.call_table.specs.declared.entry.Kept.TheVariants.{Waiting}
use Rattle.call_table.specs.Table.{TableValue, begun, new_entry}
use Rattle.call_table.specs.Stands.{TableStands, kept_unless, kept_of, left_unless, left_of, entry_as, entry_after, entry_at, rest_by, can_come}
use Rattle.rpc_items.proofs.Reported.{reports_undrawn}
use Rattle.rpc_items.proofs.Undrawn.{call_same, unanswered_undrawn, not_drawn}

-- no response comes later where none can come now

pub and_false : (b : Bool) → (b && false) ≡ false
and_false true = refl
and_false false = refl

pub can_come_more : (n : ℕ) (item : RpcItem) (items : List RpcItem) → can_come (is_running items) (answer_to n items) ≡ false → can_come (is_running (item ∷ items)) (answer_to n (item ∷ items)) ≡ false
can_come_more n item items e = by (is_running items) refl (answer_to n items) refl
  where
    by : (r : Bool) → is_running items ≡ r → (a : Option Outcome) → answer_to n items ≡ a → can_come (is_running (item ∷ items)) (answer_to n (item ∷ items)) ≡ false
    by false run a an = ap (λ (b : Bool). can_come b (answer_to n (item ∷ items))) (ended_more item items run)
    by true run (Some o) an = ap (λ (x : Option Outcome). can_come (is_running (item ∷ items)) x) (answer_more n o item items an) ∙ and_false (is_running (item ∷ items))
    by true run None an = absurd (let both : can_come true None ≡ false = sym (ap₂ can_come run an) ∙ e in cc both)

-- what was forgotten before was drawn, and gets no response
pub forgotten_then : (stopped : Bool) (table : TableValue) (n : ℕ) (item : RpcItem) (items : List RpcItem) → TableStands stopped table items → is_forgotten n items ≡ true → (is_drawn n (item ∷ items) ≡ true) × (can_come (is_running (item ∷ items)) (answer_to n (item ∷ items)) ≡ false)
forgotten_then stopped table n item items s f =
    let before = s.forgotten n f in
    (is_drawn_more n item items before.0, can_come_more n item items before.1)

-- what was cancelled before was drawn
pub cancelled_then : (stopped : Bool) (table : TableValue) (n : ℕ) (item : RpcItem) (items : List RpcItem) → TableStands stopped table items → is_cancelled n items ≡ true → is_drawn n (item ∷ items) ≡ true
cancelled_then stopped table n item items s c = is_drawn_more n item items (s.cancelled n c)

-- with one more item all is kept of a request that was before

pub record IsKept (n : ℕ) (item : RpcItem) (items : List RpcItem) : Type 0 where
  pub kept : kept_of n (item ∷ items) ≡ kept_of n items
  pub cancelled : is_cancelled n (item ∷ items) ≡ is_cancelled n items
  pub left : left_of n (item ∷ items) ≡ left_of n items

pub kept_entry : (n : ℕ) (item : RpcItem) (items : List RpcItem) → IsKept n item items → entry_after n (item ∷ items) ≡ entry_after n items
kept_entry n item items k = λ i a. entry_as a (k.kept i) (k.cancelled i) (k.left i)

-- an item that neither draws, answers, forgets, cancels, reports, takes a report nor ends

pub record IsQuiet (item : RpcItem) (items : List RpcItem) : Type 0 where
  pub asked : asked_by item ≡ []
  pub forgotten : (n : ℕ) → is_forgotten n (item ∷ items) ≡ is_forgotten n items
  pub answers : (n : ℕ) → answer_to n (item ∷ items) ≡ answer_to n items
  pub cancelled : (n : ℕ) → is_cancelled n (item ∷ items) ≡ is_cancelled n items
  pub reported : (n : ℕ) → reports n (item ∷ items) ≡ reports n items
  pub running : is_running (item ∷ items) ≡ is_running items

pub asked_same : (item : RpcItem) (items : List RpcItem) → asked_by item ≡ [] → asked (item ∷ items) ≡ asked items
asked_same item items e = ap (λ (as_ : List Asked). asked items ++ as_) e ∙ append-nil (asked items)

pub entry_same : (place : ℕ) (item : RpcItem) (items : List RpcItem) → asked_by item ≡ [] → IsKept (place + 1) item items → entry_at place (item ∷ items) ≡ entry_at place items
entry_same place item items none same = ap₂ (λ (entry : Asked → Entry) (as_ : List Asked). option_map entry (slice_get as_ place)) (kept_entry (place + 1) item items same) (asked_same item items none)

pub kept_same : (n : ℕ) (item : RpcItem) (items : List RpcItem) → is_forgotten n (item ∷ items) ≡ is_forgotten n items → answer_to n (item ∷ items) ≡ answer_to n items → kept_of n (item ∷ items) ≡ kept_of n items
kept_same n item items f a = ap₂ kept_unless f a

pub left_same : (n : ℕ) (item : RpcItem) (items : List RpcItem) → is_forgotten n (item ∷ items) ≡ is_forgotten n items → reports n (item ∷ items) ≡ reports n items → left_of n (item ∷ items) ≡ left_of n items
left_same n item items f r = ap₂ left_unless f r

pub quiet_keeps : (n : ℕ) (item : RpcItem) (items : List RpcItem) → IsQuiet item items → IsKept n item items
quiet_keeps n item items q = record {
  kept = kept_same n item items (q.forgotten n) (q.answers n);
  cancelled = q.cancelled n;
  left = left_same n item items (q.forgotten n) (q.reported n);
}

-- only what waits is another
pub passed_with : (stopped : Bool) (table : TableValue) (ids : List Id) (item : RpcItem) (items : List RpcItem) → IsQuiet item items → ((id : Id) → list_any (same_id id) ids ≡ is_waiting id (item ∷ items)) → TableStands stopped table items → TableStands stopped (record table { waiting = ids }) (item ∷ items)
passed_with stopped table ids item items q w s = record {
  count = s.count ∙ ap length (sym (asked_same item items q.asked));
  each = λ i. s.each i ∙ sym (entry_same i item items q.asked (quiet_keeps (i + 1) item items q));
  rest = s.rest ∙ ap (λ (r : Bool). rest_by r stopped) (sym q.running);
  waiting = w;
  forgotten = λ n f. forgotten_then stopped table n item items s (sym (q.forgotten n) ∙ f);
  cancelled = λ n c. cancelled_then stopped table n item items s (sym (q.cancelled n) ∙ c);
}

-- an item that doesn't touch a table
pub passed : (stopped : Bool) (table : TableValue) (item : RpcItem) (items : List RpcItem) → IsQuiet item items → ((id : Id) → is_waiting id (item ∷ items) ≡ is_waiting id items) → TableStands stopped table items → TableStands stopped table (item ∷ items)
passed stopped table item items q w s = passed_with stopped table table.waiting item items q (λ id. s.waiting id ∙ sym (w id)) s

-- a request that isn't drawn is neither forgotten nor cancelled

unforgotten_undrawn : (stopped : Bool) (table : TableValue) (n : ℕ) (items : List RpcItem) → TableStands stopped table items → is_drawn n items ≡ false → is_forgotten n items ≡ false
unforgotten_undrawn stopped table n items s e = elim (cases_Bool (is_forgotten n items)) [
  | inl f ↦ absurd (cc (sym (s.forgotten n f).0 ∙ e))
  | inr f ↦ f
]

uncancelled_undrawn : (stopped : Bool) (table : TableValue) (n : ℕ) (items : List RpcItem) → TableStands stopped table items → is_drawn n items ≡ false → is_cancelled n items ≡ false
uncancelled_undrawn stopped table n items s e = elim (cases_Bool (is_cancelled n items)) [
  | inl c ↦ absurd (cc (sym (s.cancelled n c) ∙ e))
  | inr c ↦ c
]

-- a request that is drawn

-- a call that draws neither forgets nor answers, nor cancels nor takes reports
pub record IsDrawing (call : RpcCall) (items : List RpcItem) : Type 0 where
  pub forgotten : (n : ℕ) → is_forgotten n (Did call ∷ items) ≡ is_forgotten n items
  pub cancelled : (n : ℕ) → is_cancelled n (Did call ∷ items) ≡ is_cancelled n items
  pub reported : (n : ℕ) → reports n (Did call ∷ items) ≡ reports n items
  pub waiting : (id : Id) → is_waiting id (Did call ∷ items) ≡ is_waiting id items

drawing : (call : RpcCall) (a : Asked) (items : List RpcItem) → asked_by (Did call) ≡ a ∷ [] → IsDrawing call items
drawing (Ask method args expect) a items e = record { forgotten = λ n. refl; cancelled = λ n. refl; reported = λ n. refl; waiting = λ id. refl }
drawing (Next n) a items e = record { forgotten = λ n. refl; cancelled = λ n. refl; reported = λ n. refl; waiting = λ id. refl }
drawing (Invoke handle method args expect) a items e = record { forgotten = λ n. refl; cancelled = λ n. refl; reported = λ n. refl; waiting = λ id. refl }
drawing call a items e = absurd (cc e)

drawing_keeps : (n : ℕ) (call : RpcCall) (items : List RpcItem) → IsDrawing call items → IsKept n (Did call) items
drawing_keeps n call items d = record {
  kept = kept_same n (Did call) items (d.forgotten n) (call_same n call items);
  cancelled = d.cancelled n;
  left = left_same n (Did call) items (d.forgotten n) (d.reported n);
}

pub begun_stands : (a : Asked) (call : RpcCall) (table : TableValue) (items : List RpcItem) → asked_by (Did call) ≡ a ∷ [] → TableStands false table items → TableStands false (begun a.expect a.progress table) (Did call ∷ items)
begun_stands a call table items by s = record {
  count = (let one : length (new_entry a.expect a.progress ∷ []) ≡ length (asked_by (Did call)) = sym (ap length by) in omega (arith, length-append table.requests (new_entry a.expect a.progress ∷ []), length-append (asked items) (asked_by (Did call)), one, s.count));
  each = λ i. each i (three_ways i (length table.requests));
  rest = s.rest;
  waiting = λ id. s.waiting id ∙ sym (d.waiting id);
  forgotten = λ n f. forgotten_then false table n (Did call) items s (sym (d.forgotten n) ∙ f);
  cancelled = λ n c. cancelled_then false table n (Did call) items s (sym (d.cancelled n) ∙ c);
}
  where
    d : IsDrawing call items
    d = drawing call a items by

    -- nothing came to it yet
    is_new : (n : ℕ) → is_drawn n items ≡ false → entry_after n (Did call ∷ items) a ≡ new_entry a.expect a.progress
    is_new n none =
        let forgotten : is_forgotten n (Did call ∷ items) ≡ false = d.forgotten n ∙ unforgotten_undrawn false table n items s none in
        let kept : kept_of n (Did call ∷ items) ≡ Waiting = ap₂ kept_unless forgotten (call_same n call items ∙ unanswered_undrawn n items none) in
        let cancelled : is_cancelled n (Did call ∷ items) ≡ false = d.cancelled n ∙ uncancelled_undrawn false table n items s none in
        let left : left_of n (Did call ∷ items) ≡ [] = ap₂ left_unless forgotten (d.reported n ∙ reports_undrawn n items none) in
        λ i. entry_as a (kept i) (cancelled i) (left i)

    each : (i : ℕ) → (i < length table.requests) ⊎ ((i ≡ length table.requests) ⊎ (length table.requests < i)) → slice_get (begun a.expect a.progress table).requests i ≡ entry_at i (Did call ∷ items)
    each i (inl l) =
        get_before table.requests (new_entry a.expect a.progress ∷ []) i l
        ∙ (s.each i ∙ sym (ap₂ (λ (entry : Asked → Entry) (as_ : Option Asked). option_map entry as_) (kept_entry (i + 1) (Did call) items (drawing_keeps (i + 1) call items d)) (get_before (asked items) (asked_by (Did call)) i (omega (arith, l, s.count)))))
    each i (inr (inl e)) =
        let place : i ≡ length (asked items) = e ∙ s.count in
        let none : is_drawn (i + 1) items ≡ false = not_drawn (i + 1) (drawn items) (omega (arith, place)) in
        let last : slice_get (asked (Did call ∷ items)) i ≡ Some a = ap (λ (as_ : List Asked). slice_get (asked items ++ as_) i) by ∙ get_last (asked items) a i place in
        get_last table.requests (new_entry a.expect a.progress) i e
        ∙ sym (ap (option_map (entry_after (i + 1) (Did call ∷ items))) last ∙ ap (λ (entry : Entry). Some entry) (is_new (i + 1) none))
    each i (inr (inr l)) =
        slice_get_past (begun a.expect a.progress table).requests i (omega (arith, l, length-append table.requests (new_entry a.expect a.progress ∷ [])))
        ∙ sym (ap (λ (as_ : Option Asked). option_map (entry_after (i + 1) (Did call ∷ items)) as_) (ap (λ (as_ : List Asked). slice_get (asked items ++ as_) i) by ∙ slice_get_past (asked items ++ a ∷ []) i (omega (arith, l, s.count, length-append (asked items) (a ∷ [])))))
