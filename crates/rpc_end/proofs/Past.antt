-- What an end answers to calls that can be made after its end, too.
use Rattle.std.specs.Prelude.{ℕ, ◌+◌, List, [], ◌∷◌, Bool, true, false, slice_get, if◌then◌else◌, Option, Some, None, Ok, Err}
use Rattle.std.proofs.Common.{◌≡◌, refl, sym, ◌∙◌, ap, subst}
use Rattle.std.proofs.lemmas.List.{append-nil}
use Rattle.call_table.specs.Replies.{Does, Takes, take_refusal, unless_there}
use Rattle.call_table.specs.Stands.{TableStands}
use Rattle.call_table.specs.Table.{TableValue, left_in, look_in, with_forgotten}
use Rattle.call_table.proofs.Reading.{lefts, looks, takes_as}
use Rattle.message_body.specs.AsRead.{AreMessages}
use Rattle.message_body.specs.Written.{encoder}
use Rattle.rpc_items.specs.declared.messages.Message.{Message}
use Rattle.rpc_items.specs.Drawn.{drawn}
use Rattle.rpc_items.specs.Items.{RpcCall, TakeReport, Forget, RpcItem, Did}
use Rattle.rpc_items.specs.Made.{made_by}
use Rattle.rpc_items.specs.Outcomes.{is_known, outcome}
use Rattle.rpc_items.specs.Refusals.{call_refusal, state_refusal}
use Rattle.rpc_items.specs.Reports.{reports}
use Rattle.rpc_items.specs.Saying.{said}
use Rattle.wire_base.specs.Tree.{Tree}
use Rattle.wire_base.specs.declared.fault.CallFault.TheVariants as fault
use Rattle.wire_base.specs.declared.refusal.Refusal.{Refusal}
use Rattle.wire_base.specs.declared.refusal.Refusal.TheVariants as refusal
use Rattle.rpc_end.specs.Ends.{with_said, with_table}
use Rattle.rpc_end.specs.Replies.{Adds, Answers, CallAnswers}
use Rattle.rpc_end.specs.Stands.{RpcStands, RpcValue}
use Rattle.rpc_end.proofs.Answering.{adds}
use Rattle.rpc_end.proofs.Asking.{IsPlain, table_keeps}

-- a call that says nothing, and changes no more than requests
unsaid : (end : RpcValue) (now : TableValue) (items : List RpcItem) (at : ℕ) (rest : List ℕ) → RpcStands end items at rest → (call : RpcCall) → call_refusal (encoder end.terms.encoding) call items ≡ None → [] ≡ said (Did call) items → IsPlain call
    → made_by (drawn items + 1) (Did call) ≡ [] → TableStands false now (Did call ∷ items) → Adds end (with_table now end) items at rest (Did call)
unsaid end now items at rest s call accepted silent plain none t =
    adds end (with_table now end) (with_table now end) call items at rest s accepted (subst AreMessages silent tt)
    (subst (λ (ms : List Message). with_table now end ≡ with_said ms (with_table now end)) silent (λ i. record (with_table now end) { output = sym (append-nil end.output) i })) (table_keeps end items at rest s call now plain none t)

-- reports that are taken
module _ (end : RpcValue) (now : TableValue) (items : List RpcItem) (at : ℕ) (rest : List ℕ) (n : ℕ) where
  abbrev IsOldest : Option Tree → Type 0
  IsOldest report = report ≡ slice_get (reports n items) 0

  taken_as : (report : Option Tree) → Takes None n end.table now (Ok report) → left_in n end.table ≡ reports n items → IsOldest report
  taken_as report takes left = takes.0 ∙ ap (λ (ts : List Tree). slice_get ts 0) left

  no_refusal : (refused : Option Refusal) (report : Option Tree) → Takes refused n end.table now (Ok report) → refused ≡ None
  no_refusal None report takes = refl
  no_refusal (Some r) report takes = absurd takes

  takes_by : (refused : Option Refusal) (report : Option Tree) → refused ≡ None → Adds end (with_table now end) items at rest (Did (TakeReport n)) → IsOldest report → CallAnswers end (with_table now end) items at rest (TakeReport n) refused refused IsOldest (Ok report)
  takes_by None report e more oldest = (more, oldest)
  takes_by (Some r) report e more oldest = absurd (cc e)

  pub takes : (report : Option Tree) → RpcStands end items at rest → Takes (take_refusal n end.table) n end.table now (Ok report) → TableStands false now (Did (TakeReport n) ∷ items)
      → Answers end (with_table now end) items at rest (TakeReport n) IsOldest (Ok report)
  takes report s does t =
      let law : take_refusal n end.table ≡ state_refusal (TakeReport n) items = takes_as false end.table items n s.table in
      let open_ : take_refusal n end.table ≡ None = no_refusal (take_refusal n end.table) report does in
      let accepted : state_refusal (TakeReport n) items ≡ None = sym law ∙ open_ in
      let made : Takes None n end.table now (Ok report) = subst (λ (o : Option Refusal). Takes o n end.table now (Ok report)) open_ does in
      takes_by (state_refusal (TakeReport n) items) report accepted
      (unsaid end now items at rest s (TakeReport n) accepted refl (record { tokens = refl; pages = refl; ends = refl; releases = refl }) refl t)
      (taken_as report made (lefts false end.table items n s.table accepted))

  not_taken : (refused other : Option Refusal) (r : Refusal) → refused ≡ other → Takes refused n end.table now (Err r) → CallAnswers end (with_table now end) items at rest (TakeReport n) other other IsOldest (Err (fault.Refused r))
  not_taken refused None r e does = absurd (subst (λ (o : Option Refusal). Takes o n end.table now (Err r)) e does)
  not_taken refused (Some t) r e does =
      let why : (r ≡ t) × (now ≡ end.table) = subst (λ (o : Option Refusal). Takes o n end.table now (Err r)) e does in
      (why.0, ap (λ (t : TableValue). with_table t end) why.1)

  pub take_fails : (r : Refusal) → RpcStands end items at rest → Takes (take_refusal n end.table) n end.table now (Err r) → Answers end (with_table now end) items at rest (TakeReport n) IsOldest (Err (fault.Refused r))
  take_fails r s does = not_taken (take_refusal n end.table) (state_refusal (TakeReport n) items) r (takes_as false end.table items n s.table) does

-- outcomes that are dropped
there : (known : Bool) (old now next : TableValue) → Does {A = Unit {0}} (unless_there known) old now next (Ok tt) → known ≡ true
there true old now next does = refl
there false old now next does = absurd does

known_law : (n : ℕ) (table : TableValue) (items : List RpcItem) → TableStands false table items → is_known (look_in n table) ≡ is_known (outcome false n items)
known_law n table items t = ap is_known (looks false table items n t)

module _ (end : RpcValue) (now : TableValue) (items : List RpcItem) (at : ℕ) (rest : List ℕ) (n : ℕ) where
  was_there : (known : Bool) → known ≡ true → Adds end (with_table now end) items at rest (Did (Forget n))
      → CallAnswers {A = Unit {0}} end (with_table now end) items at rest (Forget n) (if known then None else Some refusal.NoRequest) (if known then None else Some refusal.NoRequest) (λ _. Unit {0}) (Ok tt)
  was_there true k more = (more, tt)
  was_there false k more = absurd cc

  pub forgets : RpcStands end items at rest → Does {A = Unit {0}} (unless_there (is_known (look_in n end.table))) end.table now (with_forgotten n end.table) (Ok tt) → TableStands false now (Did (Forget n) ∷ items)
      → Answers {A = Unit {0}} end (with_table now end) items at rest (Forget n) (λ _. Unit {0}) (Ok tt)
  forgets s does t =
      let known : is_known (outcome false n items) ≡ true = sym (known_law n end.table items s.table) ∙ there _ end.table now _ does in
      let accepted : state_refusal (Forget n) items ≡ None = ap (λ b. if b then None else Some refusal.NoRequest) known in
      was_there (is_known (outcome false n items)) known
      (unsaid end now items at rest s (Forget n) accepted refl (record { tokens = refl; pages = refl; ends = refl; releases = refl }) refl t)

  not_there : (known other : Bool) (next : TableValue) (r : Refusal) → known ≡ other → Does {A = Unit {0}} (unless_there known) end.table now next (Err r)
      → CallAnswers {A = Unit {0}} end (with_table now end) items at rest (Forget n) (if other then None else Some refusal.NoRequest) (if other then None else Some refusal.NoRequest) (λ _. Unit {0}) (Err (fault.Refused r))
  not_there true other next r e does = absurd does
  not_there false true next r e does = absurd cc
  not_there false false next r e does = (does.0, ap (λ (t : TableValue). with_table t end) does.1)

  pub forget_fails : (r : Refusal) → RpcStands end items at rest → Does {A = Unit {0}} (unless_there (is_known (look_in n end.table))) end.table now (with_forgotten n end.table) (Err r)
      → Answers {A = Unit {0}} end (with_table now end) items at rest (Forget n) (λ _. Unit {0}) (Err (fault.Refused r))
  forget_fails r s does = not_there _ _ _ r (known_law n end.table items s.table) does
