-- Reports that are left with one more item.
use Rattle.std.specs.Prelude.{◌&&◌, ◌==◌, Bool, true, false, is_none, min, if◌then◌else◌}
use Rattle.std.proofs.Common.{◌≡◌, ◌≢◌, ℕ, ◌+◌, ◌-◌, ◌≤◌, List, [], ◌∷◌, ◌++◌, length, drop, refl, sym, ◌∙◌, ap, inl, inr, arith, length-append}
use Rattle.std.proofs.lemmas.Bool.{cases_Bool, cases_lt, eq-eqb, eqb-true}
use Rattle.std.proofs.lemmas.List.{append-nil, drop-drop, drop-append-le, drop_all}
use Rattle.wire_base.specs.Tree.{Tree}
use Rattle.rpc_items.specs.declared.messages.Message.{Message}
use Rattle.rpc_items.specs.declared.methods.Meaning.{Meaning}
use Rattle.rpc_items.specs.declared.methods.Meaning.TheVariants.{Reports}
use Rattle.rpc_items.specs.Items.{RpcItem, Did, Got, TakeReport, is_running}
use Rattle.rpc_items.specs.Drawn.{is_drawn}
use Rattle.rpc_items.specs.Outcomes.{answer_to, is_unanswered}
use Rattle.rpc_items.specs.Reports.{has_progress, kept_reports, report_by, report_in, reports, taken_reports}
use Rattle.rpc_items.specs.Waiting.{asks}
use Rattle.rpc_items.proofs.Stable.{is_drawn_more}

-- before a request is drawn none is kept

pub undrawn_before : (n : ℕ) (item : RpcItem) (items : List RpcItem) → is_drawn n (item ∷ items) ≡ false → is_drawn n items ≡ false
undrawn_before n item items e = elim (cases_Bool (is_drawn n items)) [
  | inl h ↦ absurd (cc (sym (is_drawn_more n item items h) ∙ e))
  | inr h ↦ h
]

not_kept : (r d n p : Bool) (kept more : List Tree) → d ≡ false → (if (r && d && n) && p then kept ++ more else kept) ≡ kept
not_kept true true n p kept more e = absurd (cc e)
not_kept true false n p kept more e = refl
not_kept false d n p kept more e = refl

kept_undrawn : (n : ℕ) (items : List RpcItem) → is_drawn n items ≡ false → kept_reports n items ≡ []
kept_undrawn n [] e = refl
kept_undrawn n (Got place message ∷ items) e =
    let before = undrawn_before n (Got place message) items e in
    not_kept (is_running items) (is_drawn n items) (is_none (answer_to n items)) (has_progress n items) (kept_reports n items) (report_in n message) before ∙ kept_undrawn n items before
kept_undrawn n (item ∷ items) e = kept_undrawn n items (undrawn_before n item items e)

pub reports_undrawn : (n : ℕ) (items : List RpcItem) → is_drawn n items ≡ false → reports n items ≡ []
reports_undrawn n items e = ap (drop (taken_reports n items)) (kept_undrawn n items e) ∙ drop_all (taken_reports n items) [] (omega arith)

-- no more are taken than are kept

take_one : (t l : ℕ) → t ≤ l → t + min 1 (l - t) ≤ l
take_one t l le = omega (arith, le)

within_if : (b : Bool) (t l : ℕ) → t ≤ l → (if b then t + min 1 (l - t) else t) ≤ l
within_if true t l le = take_one t l le
within_if false t l le = le

within_more : (b : Bool) (t : ℕ) (kept more : List Tree) → t ≤ length kept → t ≤ length (if b then kept ++ more else kept)
within_more true t kept more le = omega (arith, le, length-append kept more)
within_more false t kept more le = le

taken_within : (n : ℕ) (items : List RpcItem) → taken_reports n items ≤ length (kept_reports n items)
taken_within n [] = omega arith
taken_within n (Did (TakeReport m) ∷ items) = within_if (m == n) (taken_reports n items) (length (kept_reports n items)) (taken_within n items)
taken_within n (Got place message ∷ items) = within_more (is_unanswered n items && has_progress n items) (taken_reports n items) (kept_reports n items) (report_in n message) (taken_within n items)
taken_within n (item ∷ items) = taken_within n items

-- one is taken

drop_oldest : (t : ℕ) (kept : List Tree) → drop (t + min 1 (length kept - t)) kept ≡ drop 1 (drop t kept)
drop_oldest t kept = elim (cases_lt t (length kept)) [
  | inl l ↦ (let one : t + min 1 (length kept - t) ≡ t + 1 = omega (arith, l) in ap (λ (k : ℕ). drop k kept) one) ∙ sym (drop-drop 1 t kept)
  | inr l ↦ drop_all (t + min 1 (length kept - t)) kept (omega (arith, l)) ∙ sym (drop-drop 1 t kept ∙ drop_all (t + 1) kept (omega (arith, l)))
]

pub taken_this : (n : ℕ) (items : List RpcItem) → reports n (Did (TakeReport n) ∷ items) ≡ drop 1 (reports n items)
taken_this n items =
    ap (λ (b : Bool). drop (if b then taken_reports n items + min 1 (length (kept_reports n items) - taken_reports n items) else taken_reports n items) (kept_reports n items)) (eq-eqb n n refl)
    ∙ drop_oldest (taken_reports n items) (kept_reports n items)

pub apart_false : (n m : ℕ) → m ≢ n → (n == m) ≡ false
apart_false n m d = elim (cases_Bool (n == m)) [ inl e ↦ absurd (d (sym (eqb-true n m e))) | inr e ↦ e ]

pub taken_other : (n m : ℕ) (items : List RpcItem) → m ≢ n → reports m (Did (TakeReport n) ∷ items) ≡ reports m items
taken_other n m items d = ap (λ (b : Bool). drop (if b then taken_reports m items + min 1 (length (kept_reports m items) - taken_reports m items) else taken_reports m items) (kept_reports m items)) (apart_false n m d)

-- a message that reports nothing

no_more : (b : Bool) (kept more : List Tree) → more ≡ [] → (if b then kept ++ more else kept) ≡ kept
no_more true kept more e = ap (λ (ts : List Tree). kept ++ ts) e ∙ append-nil kept
no_more false kept more e = refl

pub reports_nothing : (n place : ℕ) (message : Message) (items : List RpcItem) → report_in n message ≡ [] → reports n (Got place message ∷ items) ≡ reports n items
reports_nothing n place message items e = ap (drop (taken_reports n items)) (no_more (is_unanswered n items && has_progress n items) (kept_reports n items) (report_in n message) e)

-- a request that the service has to answer reports nothing
pub asks_no_report : (n : ℕ) (m : Meaning) (items : List RpcItem) → asks m items ≡ true → report_by n m ≡ []
asks_no_report n (Reports token value) items e = absurd (cc e)
asks_no_report n m items e = refl

-- a message that reports this

-- a report that is kept
pub reports_more : (n place : ℕ) (message : Message) (value : Tree) (items : List RpcItem) → is_unanswered n items ≡ true → has_progress n items ≡ true → report_in n message ≡ value ∷ []
    → reports n (Got place message ∷ items) ≡ reports n items ++ (value ∷ [])
reports_more n place message value items u p e =
    (λ i. drop (taken_reports n items) (if u i && p i then kept_reports n items ++ e i else kept_reports n items))
    ∙ drop-append-le (taken_reports n items) (kept_reports n items) (value ∷ []) (taken_within n items)

-- a report that isn't, since its request has its response or asked for none
pub reports_unkept : (n place : ℕ) (message : Message) (items : List RpcItem) → (is_unanswered n items && has_progress n items) ≡ false → reports n (Got place message ∷ items) ≡ reports n items
reports_unkept n place message items e = ap (λ (b : Bool). drop (taken_reports n items) (if b then kept_reports n items ++ report_in n message else kept_reports n items)) e
