-- Own handles, by the items.
use Rattle.std.specs.Prelude.{Bool, true, false, ◌&&◌, ◌||◌, ◌==◌, nat_lt, nat_le, is_some, is_none, if◌then◌else◌, pos, Option}
use Rattle.std.specs.Ordering.{int_eq}
use Rattle.std.proofs.Common.{◌≡◌, ℕ, ◌+◌, List, [], ◌∷◌, ◌++◌, length, refl, sym, ◌∙◌, ap, ap₂, inl, inr, arith, Some, None, le-leb, length-append}
use Rattle.std.proofs.lemmas.Bool.{cases_Bool, and_from, eq-eqb, eqb-true, lt-ltb}
use Rattle.std.proofs.lemmas.Bool.Decides.{Decides-int_eq}
use Rattle.std.proofs.lemmas.List.{append-nil}
use Rattle.wire_base.specs.declared.text.Id.{Id}
use Rattle.rpc_items.specs.declared.calls.HandleKey.{HandleKey}
use Rattle.rpc_items.specs.declared.calls.Outcome.{Outcome}
use Rattle.rpc_items.specs.declared.messages.Message.{Message}
use Rattle.rpc_items.specs.declared.messages.Message.TheVariants.{Request, Notification}
use Rattle.rpc_items.specs.declared.messages.Message.TheVariants as message
use Rattle.rpc_items.specs.Drawn.{Asked, asked, asked_by, drawn, is_drawn}
use Rattle.rpc_items.specs.Ids.{numbered_id, same_id}
use Rattle.rpc_items.specs.Items.{RpcCall, RpcItem, Did, Got, is_running}
use Rattle.rpc_items.specs.Keys.{own_key, peer_key, same_key}
use Rattle.rpc_items.specs.Made.{Made, made, made_by}
use Rattle.rpc_items.specs.Outcomes.{answer_to, is_unanswered, response_in}
use Rattle.rpc_items.specs.OwnHandles.{answers_carrier, ends_made, ends_own, is_release, own_ended, own_made, releases}
use Rattle.rpc_items.proofs.Settling.{other}
use Rattle.rpc_items.proofs.Stable.{is_drawn_more}
use Rattle.rpc_items.proofs.Numbered.{numbered_kept}
use Rattle.rpc_items.proofs.SameIds.{same_id_eq}
use Rattle.rpc_items.proofs.Undrawn.{call_same, next_undrawn, unanswered_undrawn}
use Rattle.marshalled_handles.specs.Owner.{is_until}
use Rattle.marshalled_handles.specs.Stands.{IsRelease}

pub or_false : (b : Bool) → (b || false) ≡ b
or_false true = refl
or_false false = refl

pub or_true : (b : Bool) → (b || true) ≡ true
or_true true = refl
or_true false = refl

-- handles that weren't made

pub made_same : (item : RpcItem) (items : List RpcItem) → made_by (drawn items + 1) item ≡ [] → made (item ∷ items) ≡ made items
made_same item items e = ap (λ (ms : List Made). made items ++ ms) e ∙ append-nil (made items)

pub unmade_lives : (number : ℕ) (items : List RpcItem) → own_made number items ≡ None → own_ended number items ≡ false
unmade_lives number [] e = refl
unmade_lives number (item ∷ items) e =
    let none : own_made number items ≡ None = numbered_kept number (made items) (made_by (drawn items + 1) item) e in
    ap₂ (λ (b : Bool) (o : Option Made). b || ends_made number o item) (unmade_lives number items none) none

pub ended_made : (number : ℕ) (item : RpcItem) (items : List RpcItem) (m : Made) → own_made number items ≡ Some m → own_ended number (item ∷ items) ≡ (own_ended number items || ends_own number m.until item)
ended_made number item items m e = ap (λ (o : Option Made). own_ended number items || ends_made number o item) e

-- releases

pub same_own : (n number : ℕ) → same_key (own_key n) (own_key number) ≡ (n == number)
same_own n number = by (n == number)
  where
    by : (b : Bool) → (if b then true else false) ≡ b
    by true = refl
    by false = refl

pub same_peer : (n number : ℕ) → same_key (peer_key n) (peer_key number) ≡ (n == number)
same_peer n number = by (n == number)
  where
    by : (b : Bool) → (if b then true else false) ≡ b
    by true = refl
    by false = refl

if_false : (b : Bool) → (if b then false else false) ≡ false
if_false true = refl
if_false false = refl

pub peer_is_not_own : (n number : ℕ) → same_key (peer_key n) (own_key number) ≡ false
peer_is_not_own n number = if_false (n == number)

pub own_is_not_peer : (n number : ℕ) → same_key (own_key n) (peer_key number) ≡ false
own_is_not_peer n number = if_false (n == number)

pub release_releases : (key other : HandleKey) (message : Message) → IsRelease key message → releases other message ≡ same_key key other
release_releases key other (Request id method params) e = ap (is_release other) e
release_releases key other (Notification method params) e = ap (is_release other) e
release_releases key other message e = absurd e

pub release_answers : (key : HandleKey) (message : Message) → IsRelease key message → (n : ℕ) → response_in n message ≡ None
release_answers key (Request id method params) e n = refl
release_answers key (Notification method params) e n = refl
release_answers key message e n = absurd e

pub no_carrier : (until : Option ℕ) (message : Message) → ((n : ℕ) → response_in n message ≡ None) → answers_carrier until message ≡ false
no_carrier (Some n) message none = ap is_some (none n)
no_carrier None message none = refl

pub release_ends : (key : HandleKey) (place : ℕ) (message : Message) → IsRelease key message → (number : ℕ) (until : Option ℕ) → ends_own number until (Got place message) ≡ same_key key (own_key number)
release_ends key place message is number until =
    ap₂ (λ (a b : Bool). a || b) (release_releases key (own_key number) message is) (no_carrier until message (release_answers key message is)) ∙ or_false (same_key key (own_key number))

-- responses

numbers_eq : (b : Bool) (r n : ℕ) → int_eq (pos r) (pos n) ≡ b → b ≡ (r == n)
numbers_eq true r n e = sym (eq-eqb r n (cc ((Decides-int_eq (pos r) (pos n)).0 e)))
numbers_eq false r n e = by (r == n) refl
  where
    by : (c : Bool) → (r == n) ≡ c → false ≡ c
    by true h = absurd (cc (sym e ∙ (Decides-int_eq (pos r) (pos n)).1 (ap pos (eqb-true r n h))))
    by false h = refl

pub same_numbered : (r n : ℕ) → same_id (numbered_id r) (numbered_id n) ≡ (r == n)
same_numbered r n = numbers_eq (int_eq (pos r) (pos n)) r n refl

if_some : {A : Type 0} (b : Bool) (x : A) → is_some (if b then Some x else None) ≡ b
if_some true x = refl
if_some false x = refl

if_is : {A : Type 0} (b : Bool) (x y : A) → (if b then Some x else None) ≡ Some y → b ≡ true
if_is true x y e = refl
if_is false x y e = absurd (cc e)

response_by : (id : Id) (o outcome : Outcome) (r n : ℕ) → (if same_id id (numbered_id r) then Some o else None) ≡ Some outcome → is_some (if same_id id (numbered_id n) then Some o else None) ≡ (r == n)
response_by id o outcome r n e =
    let is : id ≡ numbered_id r = same_id_eq id (numbered_id r) (if_is (same_id id (numbered_id r)) o outcome e) in
    if_some (same_id id (numbered_id n)) o ∙ (ap (λ (i : Id). same_id i (numbered_id n)) is ∙ same_numbered r n)

-- a response to one own request is one to no other
pub response_one : (r n : ℕ) (m : Message) (outcome : Outcome) → response_in r m ≡ Some outcome → is_some (response_in n m) ≡ (r == n)
response_one r n (Request id method params) outcome e = absurd (cc e)
response_one r n (Notification method params) outcome e = absurd (cc e)
response_one r n (message.Result id value) outcome e = response_by id _ outcome r n e
response_one r n (message.Error (Some id) code text more) outcome e = response_by id _ outcome r n e
response_one r n (message.Error None code text more) outcome e = absurd (cc e)

response_lets : (r : ℕ) (key : HandleKey) (m : Message) (outcome : Outcome) → response_in r m ≡ Some outcome → releases key m ≡ false
response_lets r key (Request id method params) outcome e = absurd (cc e)
response_lets r key (Notification method params) outcome e = absurd (cc e)
response_lets r key (message.Result id value) outcome e = refl
response_lets r key (message.Error id code text more) outcome e = refl

eq_sym : (r n : ℕ) → (r == n) ≡ (n == r)
eq_sym r n = by (r == n) (n == r) refl refl
  where
    by : (a b : Bool) → (r == n) ≡ a → (n == r) ≡ b → a ≡ b
    by true b e f = sym (eq-eqb n r (sym (eqb-true r n e))) ∙ f
    by false true e f = sym e ∙ eq-eqb r n (sym (eqb-true n r f))
    by false false e f = refl

response_carries : (r : ℕ) (until : Option ℕ) (m : Message) (outcome : Outcome) → response_in r m ≡ Some outcome → answers_carrier until m ≡ is_until r until
response_carries r (Some n) m outcome e = response_one r n m outcome e ∙ eq_sym r n
response_carries r None m outcome e = refl

pub response_ends : (r place : ℕ) (m : Message) (outcome : Outcome) → response_in r m ≡ Some outcome → (number : ℕ) (until : Option ℕ) → ends_own number until (Got place m) ≡ is_until r until
response_ends r place m outcome e number until = ap₂ (λ (a b : Bool). a || b) (response_lets r (own_key number) m outcome e) (response_carries r until m outcome e)

-- own requests that wait

-- a request that a call draws waits
pub drawn_waits : (call : RpcCall) (items : List RpcItem) → length (asked_by (Did call)) ≡ 1 → is_running items ≡ true → is_unanswered (drawn items + 1) (Did call ∷ items) ≡ true
drawn_waits call items one runs =
    let n = drawn items + 1 in
    let drawn_now : is_drawn n (Did call ∷ items) ≡ true = and_from (nat_lt 0 n) (nat_le n (drawn (Did call ∷ items))) (lt-ltb 0 n (omega arith)) (le-leb n (drawn (Did call ∷ items)) (omega (arith, length-append (asked items) (asked_by (Did call)), one))) in
    let none : answer_to n (Did call ∷ items) ≡ None = call_same n call items ∙ unanswered_undrawn n items (next_undrawn items) in
    λ i. runs i && drawn_now i && is_none (none i)

waiting_parts : (r d a : Bool) → (r && d && a) ≡ true → (r ≡ true) × (d ≡ true) × (a ≡ true)
waiting_parts true true true e = (refl, refl, refl)
waiting_parts true true false e = absurd (cc e)
waiting_parts true false a e = absurd (cc e)
waiting_parts false d a e = absurd (cc e)

-- a request that waits does after a call, too
call_waits : (n : ℕ) (call : RpcCall) (items : List RpcItem) → is_unanswered n items ≡ true → is_unanswered n (Did call ∷ items) ≡ true
call_waits n call items e =
    let parts = waiting_parts (is_running items) (is_drawn n items) (is_none (answer_to n items)) e in
    let drawn_too = is_drawn_more n (Did call) items parts.1 in
    let none : is_none (answer_to n (Did call ∷ items)) ≡ true = ap is_none (call_same n call items) ∙ parts.2 in
    λ i. parts.0 i && drawn_too i && none i

pub not_waiting : (n : ℕ) (call : RpcCall) (items : List RpcItem) → is_unanswered n (Did call ∷ items) ≡ false → is_unanswered n items ≡ false
not_waiting n call items e = elim (cases_Bool (is_unanswered n items)) [
  | inl h ↦ absurd (cc (sym e ∙ call_waits n call items h))
  | inr h ↦ h
]

-- a message that is no response to a request leaves it as it is
pub message_waits : (n place : ℕ) (m : Message) (items : List RpcItem) → response_in n m ≡ None → is_unanswered n (Got place m ∷ items) ≡ is_unanswered n items
message_waits n place m items e = ap (λ (o : Option Outcome). is_running items && is_drawn n (Got place m ∷ items) && is_none o) (other n place m items e) ∙ drawn_same
  where
    drawn_same : (is_running items && is_drawn n (Got place m ∷ items) && is_none (answer_to n items)) ≡ is_unanswered n items
    drawn_same = ap (λ (xs : List Asked). is_running items && (nat_lt 0 n && nat_le n (length xs)) && is_none (answer_to n items)) (append-nil (asked items))
