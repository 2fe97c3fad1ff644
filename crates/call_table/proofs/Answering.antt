-- A table stands for the items again after a response, a report, a request of the peer and its answer, a request that is
-- forgotten or cancelled, a report that is taken, and the end.
use Rattle.std.specs.Prelude.{◌&&◌, ◌||◌, ◌==◌, Bool, true, false, ◌⊎◌, not, nat_lt, nat_le, filter, is_none, is_some, slice_get, option_map, if◌then◌else◌}
use Rattle.std.specs.List.{list_any}
use Rattle.std.proofs.Common.{◌≡◌, ◌≢◌, ℕ, ◌+◌, ◌-◌, ◌<◌, List, [], ◌∷◌, ◌++◌, length, drop, refl, sym, ◌∙◌, ap, ap₂, subst, inl, inr, arith, Option, Some, None}
use Rattle.std.proofs.lemmas.Bool.{cases_Bool, and_parts, eq-eqb, eqb-true, ltb-true}
use Rattle.std.proofs.lemmas.List.Folds.{list_any-append}
use Rattle.std.proofs.lemmas.Map.Views.{any-filter_same}
use Rattle.wire_base.specs.Tree.{Tree}
use Rattle.wire_base.specs.declared.refusal.Refusal.{Refusal}
use Rattle.wire_base.specs.declared.refusal.Refusal.TheVariants as refusal
use Rattle.wire_base.specs.declared.state.Cause.{Cause}
use Rattle.wire_base.specs.declared.text.Id.{Id}
use Rattle.wire_base.specs.Lists.{changed_at}
use Rattle.wire_base.specs.Options.{or_else}
use Rattle.wire_base.proofs.Places.{three_ways, changed_at_same, changed_at_other, length-changed_at}
use Rattle.rpc_items.specs.declared.calls.Answer.{Answer}
use Rattle.rpc_items.specs.declared.calls.Outcome.{Outcome}
use Rattle.rpc_items.specs.declared.calls.Outcome.TheVariants.{Lost, Starved}
use Rattle.rpc_items.specs.declared.messages.Message.{Message}
use Rattle.rpc_items.specs.declared.messages.Message.TheVariants.{Request, Notification}
use Rattle.rpc_items.specs.declared.messages.Params.{Params}
use Rattle.rpc_items.specs.declared.methods.Meaning.{Meaning}
use Rattle.rpc_items.specs.declared.methods.Meaning.TheVariants.{Reports}
use Rattle.rpc_items.specs.Ids.{same_id, numbered_id}
use Rattle.rpc_items.specs.Meanings.{meaning}
use Rattle.rpc_items.specs.Items.{RpcItem, Did, Got, End, Respond, Cancel, TakeReport, Forget, is_running}
use Rattle.rpc_items.specs.Drawn.{Asked, with_number, asked, asked_at, asked_by, drawn, is_drawn, is_forgotten, is_cancelled}
use Rattle.rpc_items.specs.Outcomes.{NoRequest, look_at, is_known, answer_to, is_unanswered, request_named}
use Rattle.rpc_items.specs.Events.{answered_event}
use Rattle.rpc_items.specs.Reports.{has_progress, report_by, report_in, reports}
use Rattle.rpc_items.specs.Stable.{Settles}
use Rattle.rpc_items.specs.Waiting.{asks, is_waiting}
use Rattle.rpc_items.proofs.Stable.{is_drawn_more}
use Rattle.rpc_items.proofs.Settling.{other, IsResponse, named_parts, settled_response}
use Rattle.call_table.specs.declared.entry.Entry.{Entry}
use Rattle.call_table.specs.declared.entry.Kept.TheVariants.{Answered}
use Rattle.call_table.specs.declared.answers.Settled.{Settled}
use Rattle.call_table.specs.declared.answers.Settled.TheVariants.{First, Stray}
use Rattle.call_table.specs.Table.{TableValue, with_changed, keeping, forgetting, cancelling, reporting, taking, with_forgotten, with_cancelled, with_taken, reported, reported_in, settled, settled_in, settled_by, entry_of, heard, answered, over, look_in}
use Rattle.call_table.specs.Stands.{TableStands, IsReport, kept_unless, kept_of, left_unless, left_of, entry_as, entry_after, entry_at, rest_by, can_come}
use Rattle.call_table.specs.Replies.{cancel_refusal, take_refusal}
use Rattle.call_table.proofs.Reading.{names, numbered, looks, cancels_as, takes_as, reports_as, if_progress}
use Rattle.rpc_items.proofs.Reported.{apart_false, asks_no_report, reports_more, reports_nothing, reports_unkept, taken_other, taken_this}
use Rattle.rpc_items.proofs.SameIds.{same_id_eq, same_id_refl, same_id_sym}
use Rattle.rpc_items.proofs.Undrawn.{call_same, end_same, drawn_some}
use Rattle.rpc_items.proofs.Numbered.{numbered_at}
use Rattle.call_table.proofs.Standing.{IsKept, and_false, passed, passed_with, asked_same, entry_same, kept_same, left_same, can_come_more, forgotten_then, cancelled_then}

-- requests of the peer

last_or : (x y : Bool) → (y || (x || false)) ≡ (if x then true else y)
last_or true true = refl
last_or true false = refl
last_or false true = refl
last_or false false = refl

pub heard_stands : (place : ℕ) (id : Id) (method : List ℕ) (params : Params) (table : TableValue) (items : List RpcItem) → asks (meaning method params) items ≡ true → TableStands false table items → TableStands false (heard id table) (Got place (Request id method params) ∷ items)
heard_stands place id method params table items asked s =
    passed_with false table (table.waiting ++ (id ∷ [])) (Got place (Request id method params)) items (record {
      asked = refl;
      forgotten = λ n. refl;
      answers = λ n. other n place (Request id method params) items refl;
      cancelled = λ n. refl;
      reported = λ n. reports_nothing n place (Request id method params) items (asks_no_report n (meaning method params) items asked);
      running = refl;
    }) waits s
  where
    waits : (x : Id) → list_any (same_id x) (table.waiting ++ (id ∷ [])) ≡ (if same_id id x then asks (meaning method params) items else is_waiting x items)
    waits x =
        list_any-append (same_id x) table.waiting (id ∷ [])
        ∙ (last_or (same_id x id) (list_any (same_id x) table.waiting)
        ∙ (ap₂ (λ (b w : Bool). if b then true else w) (same_id_sym x id) (s.waiting x)
        ∙ ap (λ (a : Bool). if same_id id x then a else is_waiting x items) (sym asked)))

not_first : (b w : Bool) → (not b && w) ≡ (if b then false else w)
not_first true w = refl
not_first false w = refl

pub answered_stands : (id : Id) (answer : Answer) (table : TableValue) (items : List RpcItem) → TableStands false table items → TableStands false (answered id table) (Did (Respond id answer) ∷ items)
answered_stands id answer table items s =
    passed_with false table (filter (λ (w : Id). not (same_id w id)) table.waiting) (Did (Respond id answer)) items (record { asked = refl; forgotten = λ n. refl; answers = λ n. call_same n (Respond id answer) items; cancelled = λ n. refl; reported = λ n. refl; running = refl }) waits s
  where
    waits : (x : Id) → list_any (same_id x) (filter (λ (w : Id). not (same_id w id)) table.waiting) ≡ (if same_id id x then false else is_waiting x items)
    waits x =
        any-filter_same (same_id x) (λ (w : Id). not (same_id w id)) (not (same_id x id)) (λ k e. ap (λ (y : Id). not (same_id y id)) (sym (same_id_eq x k e))) table.waiting
        ∙ (not_first (same_id x id) (list_any (same_id x) table.waiting)
        ∙ ap₂ (λ (b w : Bool). if b then false else w) (same_id_sym x id) (s.waiting x))

-- one request becomes another

drawn_above : (n : ℕ) (items : List RpcItem) → is_drawn n items ≡ true → 0 < n
drawn_above n items e = ltb-true 0 n (and_parts (nat_lt 0 n) (nat_le n (drawn items)) e).0

-- an item after which request n is another, and all else as before
pub record IsLater (n : ℕ) (change : Entry → Entry) (item : RpcItem) (items : List RpcItem) : Type 0 where
  pub asked : asked_by item ≡ []
  pub this : (a : Asked) → entry_after n (item ∷ items) a ≡ change (entry_after n items a)
  pub others : (m : ℕ) → m ≢ n → IsKept m item items
  pub running : is_running (item ∷ items) ≡ is_running items
  pub waiting : (id : Id) → is_waiting id (item ∷ items) ≡ is_waiting id items
  pub forgotten : (m : ℕ) → is_forgotten m (item ∷ items) ≡ true → (is_drawn m (item ∷ items) ≡ true) × (can_come (is_running (item ∷ items)) (answer_to m (item ∷ items)) ≡ false)
  pub cancelled : (m : ℕ) → is_cancelled m (item ∷ items) ≡ true → is_drawn m (item ∷ items) ≡ true

pub changes : (n : ℕ) (change : Entry → Entry) (table : TableValue) (item : RpcItem) (items : List RpcItem) → is_drawn n items ≡ true → IsLater n change item items → TableStands false table items → TableStands false (with_changed n change table) (item ∷ items)
changes n change table item items d q s = record {
  count = length-changed_at (n - 1) change table.requests ∙ (s.count ∙ ap length (sym (asked_same item items q.asked)));
  each = λ i. each i (three_ways i (n - 1));
  rest = s.rest ∙ ap (λ (r : Bool). rest_by r false) (sym q.running);
  waiting = λ id. s.waiting id ∙ sym (q.waiting id);
  forgotten = q.forgotten;
  cancelled = q.cancelled;
}
  where
    l : 0 < n
    l = drawn_above n items d

    back : n - 1 + 1 ≡ n
    back = omega (arith, l)

    other_place : (i : ℕ) → i ≢ n - 1 → slice_get (changed_at (n - 1) change table.requests) i ≡ entry_at i (item ∷ items)
    other_place i apart =
        changed_at_other (n - 1) i change table.requests apart
        ∙ (s.each i ∙ sym (entry_same i item items q.asked (q.others (i + 1) (λ e. apart (omega (arith, e, l))))))

    here : (a : Option Asked) → slice_get (asked items) (n - 1) ≡ a → slice_get (changed_at (n - 1) change table.requests) (n - 1) ≡ entry_at (n - 1) (item ∷ items)
    here None e = absurd (let none : is_drawn n items ≡ false = drawn_some n items ∙ ap is_some (numbered_at n (asked items) l ∙ e) in cc (sym d ∙ none))
    here (Some a) e =
        let before : slice_get table.requests (n - 1) ≡ Some (entry_after n items a) = s.each (n - 1) ∙ ap₂ (λ (m : ℕ) (as_ : Option Asked). option_map (entry_after m items) as_) back e in
        let after : entry_at (n - 1) (item ∷ items) ≡ Some (entry_after n (item ∷ items) a) = ap₂ (λ (m : ℕ) (as_ : Option Asked). option_map (entry_after m (item ∷ items)) as_) back (ap (λ (as_ : List Asked). slice_get as_ (n - 1)) (asked_same item items q.asked) ∙ e) in
        changed_at_same (n - 1) change table.requests (entry_after n items a) before
        ∙ sym (after ∙ ap (λ (entry : Entry). Some entry) (q.this a))

    each : (i : ℕ) → (i < n - 1) ⊎ ((i ≡ n - 1) ⊎ (n - 1 < i)) → slice_get (changed_at (n - 1) change table.requests) i ≡ entry_at i (item ∷ items)
    each i (inl lt) = other_place i (λ e. omega (arith, e, lt))
    each i (inr (inl e)) = ap (slice_get (changed_at (n - 1) change table.requests)) e ∙ (here (slice_get (asked items) (n - 1)) refl ∙ ap (λ (j : ℕ). entry_at j (item ∷ items)) (sym e))
    each i (inr (inr lt)) = other_place i (λ e. omega (arith, e, lt))

-- a response

both_parts : (r d n : Bool) → (r && d && n) ≡ true → (r ≡ true) × (d ≡ true)
both_parts true true n e = (refl, refl)
both_parts true false n e = absurd (cc e)
both_parts false d n e = absurd (cc e)

can_come_then : (r d n : Bool) → (r && d && n) ≡ true → (r && n) ≡ true
can_come_then true true n e = e
can_come_then true false n e = absurd (cc e)
can_come_then false d n e = absurd (cc e)

-- a request that can get a response isn't forgotten
pub unforgotten : (n : ℕ) (table : TableValue) (items : List RpcItem) → TableStands false table items → is_unanswered n items ≡ true → is_forgotten n items ≡ false
unforgotten n table items s u = by (is_forgotten n items) refl
  where
    by : (f : Bool) → is_forgotten n items ≡ f → is_forgotten n items ≡ false
    by true e = absurd (let none = (s.forgotten n e).1 in cc (sym (can_come_then (is_running items) (is_drawn n items) (is_none (answer_to n items)) u) ∙ none))
    by false e = e

pub settled_stands : (place : ℕ) (id : Id) (o : Outcome) (message : Message) (table : TableValue) (items : List RpcItem) → IsResponse id o message → ((n : ℕ) → report_in n message ≡ []) → ((x : Id) → is_waiting x (Got place message ∷ items) ≡ is_waiting x items) → TableStands false table items → TableStands false (settled (settled_in id table) o table) (Got place message ∷ items)
settled_stands place id o message table items is none waits s = by (request_named id items) refl
  where
    settles : Settles place message items (answered_event (request_named id items))
    settles = settled_response place id o message items is

    stray : request_named id items ≡ None → settled_in id table ≡ Stray
    stray e = ap (λ (r : Option ℕ). settled_by r (entry_of r table)) (names table items id s ∙ e)

    first_entry : (n : ℕ) → is_drawn n items ≡ true → (a : Option Asked) → asked_at n items ≡ a → (entry : Entry) × (with_number n table.requests ≡ Some entry)
    first_entry n d None e = absurd (let none : is_drawn n items ≡ false = drawn_some n items ∙ ap is_some e in cc (sym d ∙ none))
    first_entry n d (Some a) e = (entry_after n items a, numbered false table items n s ∙ ap (option_map (entry_after n items)) e)

    first : (n : ℕ) → request_named id items ≡ Some n → (entry : Entry) → with_number n table.requests ≡ Some entry → settled_in id table ≡ First n entry.expect
    first n e entry at = ap (λ (r : Option ℕ). settled_by r (entry_of r table)) (names table items id s ∙ e) ∙ ap (settled_by (Some n)) at

    by : (r : Option ℕ) → request_named id items ≡ r → TableStands false (settled (settled_in id table) o table) (Got place message ∷ items)
    by None e =
        let same : (n : ℕ) → answer_to n (Got place message ∷ items) ≡ answer_to n items = subst (λ (r : Option ℕ). Settles place message items (answered_event r)) e settles in
        subst (λ (st : Settled). TableStands false (settled st o table) (Got place message ∷ items)) (sym (stray e))
        (passed false table (Got place message) items (record { asked = refl; forgotten = λ n. refl; answers = same; cancelled = λ n. refl; reported = λ n. reports_nothing n place message items (none n); running = refl }) waits s)
    by (Some n) e =
        let parts = named_parts id items n e in
        let tests = both_parts (is_running items) (is_drawn n items) (is_none (answer_to n items)) parts.0 in
        let at = first_entry n tests.1 (asked_at n items) refl in
        let facts : Settles place message items (answered_event (Some n)) = subst (λ (r : Option ℕ). Settles place message items (answered_event r)) e settles in
        let answer : answer_to n (Got place message ∷ items) ≡ Some o = facts.1 ∙ (is n ∙ ap (λ (b : Bool). if b then Some o else None) (ap (λ (x : Id). same_id x (numbered_id n)) parts.1 ∙ same_id_refl (numbered_id n))) in
        let open_ : is_forgotten n items ≡ false = unforgotten n table items s parts.0 in
        let left : (m : ℕ) → left_of m (Got place message ∷ items) ≡ left_of m items = λ m. left_same m (Got place message) items refl (reports_nothing m place message items (none m)) in
        let kept : kept_of n (Got place message ∷ items) ≡ Answered o = ap₂ kept_unless open_ answer in
        subst (λ (st : Settled). TableStands false (settled st o table) (Got place message ∷ items)) (sym (first n e at.0 at.1))
        (changes n (keeping (Answered o)) table (Got place message) items tests.1
        (record {
          asked = refl;
          this = λ a i. entry_as a (kept i) (is_cancelled n items) (left n i);
          others = λ m d. record { kept = kept_same m (Got place message) items refl (facts.2 m d); cancelled = refl; left = left m };
          running = refl;
          waiting = waits;
          forgotten = λ m f. forgotten_then false table m (Got place message) items s f;
          cancelled = λ m c. cancelled_then false table m (Got place message) items s c;
        }) s)

-- a request that is forgotten

known_parts : (d f r : Bool) (a : Option Outcome) → is_known (if d && not f then look_at a r false else NoRequest) ≡ true → (d ≡ true) × (can_come r a ≡ false)
known_parts true false r (Some o) e = (refl, and_false r)
known_parts true false false None e = (refl, refl)
known_parts true false true None e = absurd (cc e)
known_parts true true r a e = absurd (cc e)
known_parts false f r a e = absurd (cc e)

pub forgotten_stands : (n : ℕ) (table : TableValue) (items : List RpcItem) → is_known (look_in n table) ≡ true → TableStands false table items → TableStands false (with_forgotten n table) (Did (Forget n) ∷ items)
forgotten_stands n table items known s =
    changes n forgetting table (Did (Forget n)) items parts.0
    (record {
      asked = refl;
      this = λ a i. entry_as a (kept_unless (now i) (answer_to n (Did (Forget n) ∷ items))) (is_cancelled n items) (left_unless (now i) (reports n items));
      others = λ m d. record {
        kept = kept_same m (Did (Forget n)) items (other_forgotten m d) (call_same m (Forget n) items);
        cancelled = refl;
        left = left_same m (Did (Forget n)) items (other_forgotten m d) refl;
      };
      running = refl;
      waiting = λ id. refl;
      forgotten = λ m f. forgets m (n == m) refl f;
      cancelled = λ m c. cancelled_then false table m (Did (Forget n)) items s c;
    }) s
  where
    parts : (is_drawn n items ≡ true) × (can_come (is_running items) (answer_to n items) ≡ false)
    parts = known_parts (is_drawn n items) (is_forgotten n items) (is_running items) (answer_to n items) (sym (ap is_known (looks false table items n s)) ∙ known)

    now : is_forgotten n (Did (Forget n) ∷ items) ≡ true
    now = ap (λ (b : Bool). if b then true else is_forgotten n items) (eq-eqb n n refl)

    other_forgotten : (m : ℕ) → m ≢ n → is_forgotten m (Did (Forget n) ∷ items) ≡ is_forgotten m items
    other_forgotten m d = ap (λ (b : Bool). if b then true else is_forgotten m items) (apart_false n m d)

    forgets : (m : ℕ) (b : Bool) → (n == m) ≡ b → (if n == m then true else is_forgotten m items) ≡ true → (is_drawn m (Did (Forget n) ∷ items) ≡ true) × (can_come (is_running items) (answer_to m (Did (Forget n) ∷ items)) ≡ false)
    forgets m true e f =
        let now : (is_drawn n (Did (Forget n) ∷ items) ≡ true) × (can_come (is_running items) (answer_to n (Did (Forget n) ∷ items)) ≡ false) = (is_drawn_more n (Did (Forget n)) items parts.0, can_come_more n (Did (Forget n)) items parts.1) in
        subst (λ (k : ℕ). (is_drawn k (Did (Forget n) ∷ items) ≡ true) × (can_come (is_running items) (answer_to k (Did (Forget n) ∷ items)) ≡ false)) (eqb-true n m e) now
    forgets m false e f = forgotten_then false table m (Did (Forget n)) items s (sym (ap (λ (b : Bool). if b then true else is_forgotten m items) e) ∙ f)

-- a request that is cancelled

not_refused : (waits cancelled : Bool) → (if not waits then Some refusal.NoRequest else if cancelled then Some refusal.AlreadyCancelled else None) ≡ None → waits ≡ true
not_refused true cancelled e = refl
not_refused false cancelled e = absurd (cc e)

pub cancelled_stands : (n : ℕ) (table : TableValue) (items : List RpcItem) → cancel_refusal n table ≡ None → TableStands false table items → TableStands false (with_cancelled n table) (Did (Cancel n) ∷ items)
cancelled_stands n table items accepted s =
    changes n cancelling table (Did (Cancel n)) items drawn
    (record {
      asked = refl;
      this = λ a i. entry_as a (kept_unless (is_forgotten n items) (call_same n (Cancel n) items i)) (now i) (left_of n items);
      others = λ m d. record { kept = kept_same m (Did (Cancel n)) items refl (call_same m (Cancel n) items); cancelled = ap (λ (b : Bool). if b then true else is_cancelled m items) (apart_false n m d); left = refl };
      running = refl;
      waiting = λ id. refl;
      forgotten = λ m f. forgotten_then false table m (Did (Cancel n)) items s f;
      cancelled = λ m c. cancels m (n == m) refl c;
    }) s
  where
    unanswered : is_unanswered n items ≡ true
    unanswered = not_refused (is_unanswered n items) (is_cancelled n items) (sym (cancels_as table items n s) ∙ accepted)

    drawn : is_drawn n items ≡ true
    drawn = (both_parts (is_running items) (is_drawn n items) (is_none (answer_to n items)) unanswered).1

    now : is_cancelled n (Did (Cancel n) ∷ items) ≡ true
    now = ap (λ (b : Bool). if b then true else is_cancelled n items) (eq-eqb n n refl)

    cancels : (m : ℕ) (b : Bool) → (n == m) ≡ b → (if n == m then true else is_cancelled m items) ≡ true → is_drawn m (Did (Cancel n) ∷ items) ≡ true
    cancels m true e c = subst (λ (k : ℕ). is_drawn k (Did (Cancel n) ∷ items) ≡ true) (eqb-true n m e) (is_drawn_more n (Did (Cancel n)) items drawn)
    cancels m false e c = cancelled_then false table m (Did (Cancel n)) items s (sym (ap (λ (b : Bool). if b then true else is_cancelled m items) e) ∙ c)

-- a report that is taken

taken_drawn : (d f : Bool) (otherwise : Option Refusal) → (if not d || f then Some refusal.NoRequest else otherwise) ≡ None → d ≡ true
taken_drawn true f otherwise e = refl
taken_drawn false f otherwise e = absurd (cc e)

taken_left : (f : Bool) (left : List Tree) → left_unless f (drop 1 left) ≡ drop 1 (left_unless f left)
taken_left true left = refl
taken_left false left = refl

pub taken_stands : (n : ℕ) (table : TableValue) (items : List RpcItem) → take_refusal n table ≡ None → TableStands false table items → TableStands false (with_taken n table) (Did (TakeReport n) ∷ items)
taken_stands n table items accepted s =
    changes n taking table (Did (TakeReport n)) items drawn
    (record {
      asked = refl;
      this = λ a i. entry_as a (kept_unless (is_forgotten n items) (call_same n (TakeReport n) items i)) (is_cancelled n items) (left i);
      others = λ m d. record { kept = kept_same m (Did (TakeReport n)) items refl (call_same m (TakeReport n) items); cancelled = refl; left = left_same m (Did (TakeReport n)) items refl (taken_other n m items d) };
      running = refl;
      waiting = λ id. refl;
      forgotten = λ m f. forgotten_then false table m (Did (TakeReport n)) items s f;
      cancelled = λ m c. cancelled_then false table m (Did (TakeReport n)) items s c;
    }) s
  where
    drawn : is_drawn n items ≡ true
    drawn = taken_drawn (is_drawn n items) (is_forgotten n items) (if has_progress n items then None else Some refusal.NoToken) (sym (takes_as false table items n s) ∙ accepted)

    left : left_of n (Did (TakeReport n) ∷ items) ≡ drop 1 (left_of n items)
    left = ap (left_unless (is_forgotten n items)) (taken_this n items) ∙ taken_left (is_forgotten n items) (reports n items)

-- a message that reports

-- what such a message is to the requests and to those of the peer that wait
record IsReporting (token : Id) (value : Tree) (place : ℕ) (message : Message) (items : List RpcItem) : Type 0 where
  pub report : (n : ℕ) → report_in n message ≡ report_by n (Reports token value)
  pub answers : (n : ℕ) → answer_to n (Got place message ∷ items) ≡ answer_to n items
  pub waiting : (id : Id) → is_waiting id (Got place message ∷ items) ≡ is_waiting id items

-- a request that the service needn't answer waits no more than before, where none with its id waits
pub unasked_waits : (place : ℕ) (id : Id) (method : List ℕ) (params : Params) (items : List RpcItem) → asks (meaning method params) items ≡ false → is_waiting id items ≡ false → (x : Id) → is_waiting x (Got place (Request id method params) ∷ items) ≡ is_waiting x items
unasked_waits place id method params items unasked free x = elim (cases_Bool (same_id id x)) [
  | inl e ↦ rw e (unasked ∙ sym (ap (λ (y : Id). is_waiting y items) (sym (same_id_eq id x e)) ∙ free))
  | inr e ↦ rw e refl
]

is_reporting : (token : Id) (value : Tree) (place : ℕ) (message : Message) (items : List RpcItem) → IsReport token value message items → IsReporting token value place message items
is_reporting token value place (Request id method params) items is = record {
  report = λ n. ap (report_by n) is.0;
  answers = λ n. other n place (Request id method params) items refl;
  waiting = unasked_waits place id method params items (ap (λ (m : Meaning). asks m items) is.0) is.1;
}
is_reporting token value place (Notification method params) items is = record {
  report = λ n. ap (report_by n) is;
  answers = λ n. other n place (Notification method params) items refl;
  waiting = λ id. refl;
}
is_reporting token value place message items is = absurd is

progress_parts : (o : Option ℕ) (n : ℕ) (items : List RpcItem) → if_progress o items ≡ Some n → (o ≡ Some n) × (has_progress n items ≡ true)
progress_parts None n items e = absurd (cc e)
progress_parts (Some m) n items e = elim (cases_Bool (has_progress m items)) [
  | inl p ↦ (let same : m ≡ n = cc (sym (ap (λ (b : Bool). if b then Some m else None) p) ∙ e) in (ap (λ (k : ℕ). Some k) same, subst (λ (k : ℕ). has_progress k items ≡ true) same p))
  | inr p ↦ absurd (cc (sym (ap (λ (b : Bool). if b then Some m else None) p) ∙ e))
]

unkept_progress : (b : Bool) (m : ℕ) → (if b then Some m else None) ≡ None → b ≡ false
unkept_progress true m e = absurd (cc e)
unkept_progress false m e = refl

unkept_by : (u : Bool) (m : ℕ) (items : List RpcItem) → if_progress (if u then Some m else None) items ≡ None → (u && has_progress m items) ≡ false
unkept_by true m items e = unkept_progress (has_progress m items) m e
unkept_by false m items e = refl

apart_ids : (n m : ℕ) → m ≢ n → same_id (numbered_id n) (numbered_id m) ≡ false
apart_ids n m d = elim (cases_Bool (same_id (numbered_id n) (numbered_id m))) [
  | inl e ↦ absurd (d (cc (same_id_eq (numbered_id n) (numbered_id m) e)))
  | inr e ↦ e
]

pub reported_stands : (token : Id) (value : Tree) (place : ℕ) (message : Message) (table : TableValue) (items : List RpcItem) → IsReport token value message items → TableStands false table items → TableStands false (reported (reported_in token table) value table) (Got place message ∷ items)
reported_stands token value place message table items is s = by (if_progress (request_named token items) items) refl
  where
    facts : IsReporting token value place message items
    facts = is_reporting token value place message items is

    -- it reports on the request that its token names alone
    nothing : (m : ℕ) → same_id token (numbered_id m) ≡ false → reports m (Got place message ∷ items) ≡ reports m items
    nothing m e = reports_nothing m place message items (facts.report m ∙ ap (λ (b : Bool). if b then value ∷ [] else []) e)

    unkept : if_progress (request_named token items) items ≡ None → (m : ℕ) → reports m (Got place message ∷ items) ≡ reports m items
    unkept none m = elim (cases_Bool (same_id token (numbered_id m))) [
      | inl e ↦ reports_unkept m place message items (unkept_by (is_unanswered m items) m items (ap (λ (id : Id). if_progress (request_named id items) items) (sym (same_id_eq token (numbered_id m) e)) ∙ none))
      | inr e ↦ nothing m e
    ]

    by : (o : Option ℕ) → if_progress (request_named token items) items ≡ o → TableStands false (reported (reported_in token table) value table) (Got place message ∷ items)
    by None e =
        subst (λ (r : Option ℕ). TableStands false (reported r value table) (Got place message ∷ items)) (sym (reports_as table items token s ∙ e))
        (passed false table (Got place message) items (record { asked = refl; forgotten = λ n. refl; answers = facts.answers; cancelled = λ n. refl; reported = unkept e; running = refl }) facts.waiting s)
    by (Some n) e =
        let progress = progress_parts (request_named token items) n items e in
        let parts = named_parts token items n progress.0 in
        let tests = both_parts (is_running items) (is_drawn n items) (is_none (answer_to n items)) parts.0 in
        let this : same_id token (numbered_id n) ≡ true = ap (λ (id : Id). same_id id (numbered_id n)) parts.1 ∙ same_id_refl (numbered_id n) in
        let more : reports n (Got place message ∷ items) ≡ reports n items ++ (value ∷ []) = reports_more n place message value items parts.0 progress.1 (facts.report n ∙ ap (λ (b : Bool). if b then value ∷ [] else []) this) in
        let open_ : is_forgotten n items ≡ false = unforgotten n table items s parts.0 in
        let before : left_of n items ≡ reports n items = ap (λ (f : Bool). left_unless f (reports n items)) open_ in
        let left : left_of n (Got place message ∷ items) ≡ left_of n items ++ (value ∷ []) = ap₂ left_unless open_ more ∙ ap (λ (ts : List Tree). ts ++ (value ∷ [])) (sym before) in
        subst (λ (r : Option ℕ). TableStands false (reported r value table) (Got place message ∷ items)) (sym (reports_as table items token s ∙ e))
        (changes n (reporting value) table (Got place message) items tests.1
        (record {
          asked = refl;
          this = λ a i. entry_as a (kept_unless (is_forgotten n items) (facts.answers n i)) (is_cancelled n items) (left i);
          others = λ m d. record {
            kept = kept_same m (Got place message) items refl (facts.answers m);
            cancelled = refl;
            left = left_same m (Got place message) items refl (nothing m (ap (λ (id : Id). same_id id (numbered_id m)) parts.1 ∙ apart_ids n m d));
          };
          running = refl;
          waiting = facts.waiting;
          forgotten = λ m f. forgotten_then false table m (Got place message) items s f;
          cancelled = λ m c. cancelled_then false table m (Got place message) items s c;
        }) s)

-- the end, and the stop

lost_rest : (r : Bool) → or_else (rest_by r false) (Some Lost) ≡ Some Lost
lost_rest true = refl
lost_rest false = refl

pub lost_stands : (cause : Cause) (table : TableValue) (items : List RpcItem) → TableStands false table items → TableStands false (over Lost table) (End cause ∷ items)
lost_stands cause table items s = record {
  count = s.count ∙ ap length (sym (asked_same (End cause) items refl));
  each = λ i. s.each i ∙ sym (entry_same i (End cause) items refl (record { kept = kept_same (i + 1) (End cause) items refl (end_same (i + 1) cause items); cancelled = refl; left = refl }));
  rest = ap (λ (r : Option Outcome). or_else r (Some Lost)) s.rest ∙ lost_rest (is_running items);
  waiting = λ id. s.waiting id;
  forgotten = λ n f. forgotten_then false table n (End cause) items s f;
  cancelled = λ n c. cancelled_then false table n (End cause) items s c;
}

starved_rest : (r : Bool) → or_else (rest_by r false) (Some Starved) ≡ rest_by r true
starved_rest true = refl
starved_rest false = refl

pub starved_stands : (table : TableValue) (items : List RpcItem) → TableStands false table items → TableStands true (over Starved table) items
starved_stands table items s = record {
  count = s.count;
  each = s.each;
  rest = ap (λ (r : Option Outcome). or_else r (Some Starved)) s.rest ∙ starved_rest (is_running items);
  waiting = s.waiting;
  forgotten = s.forgotten;
  cancelled = s.cancelled;
}
