-- What a table that stands for items tells is what the items tell.
use Rattle.std.specs.Prelude.{◌&&◌, ◌||◌, ◌==◌, Bool, true, false, not, is_none, is_some, slice_get, option_map, pos, negsuc, if◌then◌else◌}
use Rattle.std.proofs.Common.{◌≡◌, ℕ, ◌+◌, ◌-◌, List, refl, sym, ◌∙◌, ap, ap₂, inl, inr, arith, Option, Some, None}
use Rattle.std.proofs.lemmas.Bool.{cases_Bool}
use Rattle.wire_base.specs.Tree.{Tree}
use Rattle.wire_base.specs.declared.refusal.Refusal.TheVariants as refusal
use Rattle.wire_base.specs.declared.text.Id.{Id}
use Rattle.wire_base.specs.declared.text.Id.TheVariants.{Number, Name}
use Rattle.wire_base.proofs.Places.{above_zero}
use Rattle.rpc_items.specs.declared.calls.Outcome.{Outcome}
use Rattle.rpc_items.specs.Items.{RpcItem, Cancel, TakeReport, is_running}
use Rattle.rpc_items.specs.Drawn.{Asked, with_number, asked, asked_at, is_drawn, is_forgotten, is_cancelled}
use Rattle.rpc_items.specs.Outcomes.{NoRequest, look_at, outcome, answer_to, is_unanswered, request_named}
use Rattle.rpc_items.specs.Refusals.{state_refusal}
use Rattle.rpc_items.specs.Reports.{has_progress, progress_of, reports}
use Rattle.rpc_items.proofs.Undrawn.{drawn_some}
use Rattle.call_table.specs.declared.entry.Entry.{Entry}
use Rattle.call_table.specs.declared.entry.Kept.{Kept}
use Rattle.call_table.specs.Replies.{cancel_refusal, cancelling_refusal, entry_refusal, take_refusal}
use Rattle.call_table.specs.Table.{TableValue, waits_for, named_in, entry_of, settled_by, settled_in, look_at_entry, look_in, if_reporting, reporting_of, reported_in, left_at_entry, left_in}
use Rattle.call_table.specs.Stands.{TableStands, kept_unless, kept_of, left_of, left_unless, entry_as, entry_after, rest_by, can_come, settling_by, asked_of, settling}

-- the request with a number

pub numbered : (stopped : Bool) (table : TableValue) (items : List RpcItem) (n : ℕ) → TableStands stopped table items → with_number n table.requests ≡ option_map (entry_after n items) (asked_at n items)
numbered stopped table items n s = elim (cases_Bool (n == 0)) [
  | inl e ↦ rw e refl
  | inr e ↦ rw e (s.each (n - 1) ∙ (let back : n - 1 + 1 ≡ n = omega (arith, above_zero n e) in ap (λ (m : ℕ). option_map (entry_after m items) (slice_get (asked items) (n - 1))) back))
]

-- what can be told of it

look_by : (d : Option Asked) (f r stopped c : Bool) (left : List Tree) (a : Option Outcome) → look_at_entry (option_map (λ (x : Asked). entry_as x (kept_unless f a) c left) d) (rest_by r stopped) ≡ (if is_some d && not f then look_at a r stopped else NoRequest)
look_by None f r stopped c left a = refl
look_by (Some d) true r stopped c left a = refl
look_by (Some d) false r stopped c left (Some a) = refl
look_by (Some d) false false stopped c left None = refl
look_by (Some d) false true true c left None = refl
look_by (Some d) false true false c left None = refl

pub looks : (stopped : Bool) (table : TableValue) (items : List RpcItem) (n : ℕ) → TableStands stopped table items → look_in n table ≡ outcome stopped n items
looks stopped table items n s =
    ap₂ look_at_entry (numbered stopped table items n s) s.rest
    ∙ (look_by (asked_at n items) (is_forgotten n items) (is_running items) stopped (is_cancelled n items) (left_of n items) (answer_to n items)
    ∙ ap (λ (b : Bool). if b && not (is_forgotten n items) then look_at (answer_to n items) (is_running items) stopped else NoRequest) (sym (drawn_some n items)))

-- the request that an id names

named_by : (d : Option Asked) (f r c : Bool) (left : List Tree) (a : Option Outcome) → (f ≡ true → can_come r a ≡ false) → (is_none (rest_by r false) && waits_for (option_map (λ (x : Asked). entry_as x (kept_unless f a) c left) d)) ≡ (r && is_some d && is_none a)
named_by None f false c left a k = refl
named_by None f true c left a k = refl
named_by (Some d) f false c left a k = refl
named_by (Some d) true true c left (Some a) k = refl
named_by (Some d) true true c left None k = absurd (cc (k refl))
named_by (Some d) false true c left (Some a) k = refl
named_by (Some d) false true c left None k = refl

pub waits_unanswered : (table : TableValue) (items : List RpcItem) (n : ℕ) → TableStands false table items → (is_none table.rest && waits_for (with_number n table.requests)) ≡ is_unanswered n items
waits_unanswered table items n s =
    ap₂ (λ (r : Option Outcome) (e : Option Entry). is_none r && waits_for e) s.rest (numbered false table items n s)
    ∙ (named_by (asked_at n items) (is_forgotten n items) (is_running items) (is_cancelled n items) (left_of n items) (answer_to n items) (λ f. (s.forgotten n f).1)
    ∙ ap (λ (b : Bool). is_running items && b && is_none (answer_to n items)) (sym (drawn_some n items)))

pub names : (table : TableValue) (items : List RpcItem) (id : Id) → TableStands false table items → named_in id table ≡ request_named id items
names table items (Number (pos n)) s = ap (λ (b : Bool). if b then Some n else None) (waits_unanswered table items n s)
names table items (Number (negsuc n)) s = refl
names table items (Name t) s = refl

-- what a response is to it

settling_some : (n : ℕ) (d : Option Asked) (items : List RpcItem) → settled_by (Some n) (option_map (entry_after n items) d) ≡ settling_by (Some n) d
settling_some n None items = refl
settling_some n (Some a) items = refl

settles_by : (table : TableValue) (items : List RpcItem) (o : Option ℕ) → TableStands false table items → settled_by o (entry_of o table) ≡ settling_by o (asked_of o items)
settles_by table items None s = refl
settles_by table items (Some n) s = ap (settled_by (Some n)) (numbered false table items n s) ∙ settling_some n (asked_at n items) items

pub settles_as : (table : TableValue) (items : List RpcItem) (id : Id) → TableStands false table items → settled_in id table ≡ settling id items
settles_as table items id s = ap (λ (o : Option ℕ). settled_by o (entry_of o table)) (names table items id s) ∙ settles_by table items (request_named id items) s

-- whether it can be cancelled

cancelled_by : (waits u c : Bool) (d : Option Asked) (k : Kept) (left : List Tree) → waits ≡ u → (u ≡ true → is_some d ≡ true)
    → cancelling_refusal waits (option_map (λ (x : Asked). entry_as x k c left) d) ≡ (if not u then Some refusal.NoRequest else if c then Some refusal.AlreadyCancelled else None)
cancelled_by waits false c d k left e some = ap (λ (b : Bool). cancelling_refusal b (option_map (λ (x : Asked). entry_as x k c left) d)) e
cancelled_by waits true c (Some a) k left e some = ap (λ (b : Bool). cancelling_refusal b (Some (entry_as a k c left))) e
cancelled_by waits true c None k left e some = absurd (cc (some refl))

pub unanswered_drawn : (r d n : Bool) → (r && d && n) ≡ true → d ≡ true
unanswered_drawn true true n e = refl
unanswered_drawn true false n e = absurd (cc e)
unanswered_drawn false d n e = absurd (cc e)

pub cancels_as : (table : TableValue) (items : List RpcItem) (n : ℕ) → TableStands false table items → cancel_refusal n table ≡ state_refusal (Cancel n) items
cancels_as table items n s =
    ap (cancelling_refusal (is_none table.rest && waits_for (with_number n table.requests))) (numbered false table items n s)
    ∙ cancelled_by (is_none table.rest && waits_for (with_number n table.requests)) (is_unanswered n items) (is_cancelled n items) (asked_at n items) (kept_of n items) (left_of n items) (waits_unanswered table items n s)
    (λ u. sym (drawn_some n items) ∙ unanswered_drawn (is_running items) (is_drawn n items) (is_none (answer_to n items)) u)

-- whether reports can be taken, and which are left

taken_by : (d : Option Asked) (f c : Bool) (left : List Tree) (a : Option Outcome)
    → entry_refusal (option_map (λ (x : Asked). entry_as x (kept_unless f a) c left) d) ≡ (if not (is_some d) || f then Some refusal.NoRequest else if progress_of d then None else Some refusal.NoToken)
taken_by None f c left a = refl
taken_by (Some d) true c left a = refl
taken_by (Some d) false c left (Some a) = refl
taken_by (Some d) false c left None = refl

pub takes_as : (stopped : Bool) (table : TableValue) (items : List RpcItem) (n : ℕ) → TableStands stopped table items → take_refusal n table ≡ state_refusal (TakeReport n) items
takes_as stopped table items n s =
    ap entry_refusal (numbered stopped table items n s)
    ∙ (taken_by (asked_at n items) (is_forgotten n items) (is_cancelled n items) (left_of n items) (answer_to n items)
    ∙ ap (λ (b : Bool). if not b || is_forgotten n items then Some refusal.NoRequest else if has_progress n items then None else Some refusal.NoToken) (sym (drawn_some n items)))

left_by : (d : Option Asked) (f c : Bool) (k : Kept) (left : List Tree) (b : Bool) → is_some d ≡ b → (if not b || f then Some refusal.NoRequest else if progress_of d then None else Some refusal.NoToken) ≡ None
    → left_at_entry (option_map (λ (x : Asked). entry_as x k c (left_unless f left)) d) ≡ left
left_by None f c k left true e ok = absurd (cc e)
left_by None f c k left false e ok = absurd (cc ok)
left_by (Some d) true c k left true e ok = absurd (cc ok)
left_by (Some d) false c k left true e ok = refl
left_by (Some d) f c k left false e ok = absurd (cc e)

-- where reports can be taken, those are left that the items leave
pub lefts : (stopped : Bool) (table : TableValue) (items : List RpcItem) (n : ℕ) → TableStands stopped table items → state_refusal (TakeReport n) items ≡ None → left_in n table ≡ reports n items
lefts stopped table items n s ok =
    ap left_at_entry (numbered stopped table items n s)
    ∙ left_by (asked_at n items) (is_forgotten n items) (is_cancelled n items) (kept_of n items) (reports n items) (is_drawn n items) (sym (drawn_some n items)) ok

-- the request for which a report is kept

reporting_as : (n : ℕ) (d : Option Asked) (items : List RpcItem) → if_reporting n (option_map (entry_after n items) d) ≡ (if progress_of d then Some n else None)
reporting_as n None items = refl
reporting_as n (Some a) items = refl

-- the request that there may be, where it asked for reports
abbrev pub if_progress : Option ℕ → List RpcItem → Option ℕ
if_progress (Some n) items = if has_progress n items then Some n else None
if_progress None items = None

reports_by : (table : TableValue) (items : List RpcItem) (o : Option ℕ) → TableStands false table items → reporting_of o table ≡ if_progress o items
reports_by table items None s = refl
reports_by table items (Some n) s = ap (if_reporting n) (numbered false table items n s) ∙ reporting_as n (asked_at n items) items

pub reports_as : (table : TableValue) (items : List RpcItem) (token : Id) → TableStands false table items → reported_in token table ≡ if_progress (request_named token items) items
reports_as table items token s = ap (λ (o : Option ℕ). reporting_of o table) (names table items token s) ∙ reports_by table items (request_named token items) s
