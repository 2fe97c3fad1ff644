-- Handles rest after their end.
use Rattle.std.specs.Prelude.{if◌then◌else◌, not, ◌&&◌, ◌||◌, Bool, true, false, ◌==◌, is_some}
use Rattle.std.proofs.Common.{◌≡◌, ℕ, ◌+◌, ◌≤◌, List, [], ◌∷◌, refl, sym, ◌∙◌, ap, ap₂, arith, Option, Some, None}
use Rattle.std.proofs.lemmas.Bool.{and_parts}
use Rattle.std.proofs.lemmas.Bool.Decides.{Decides-eqb}
use Rattle.wire_base.specs.declared.state.Cause.{Cause}
use Rattle.wire_base.specs.declared.refusal.Refusal.{Refusal}
use Rattle.wire_base.specs.declared.refusal.Refusal.TheVariants as refusal
use Rattle.wire_base.specs.declared.text.Id.{Id}
use Rattle.wire_base.specs.Options.{or_else}
use Rattle.rpc_items.specs.declared.calls.HandleKey.{HandleKey}
use Rattle.rpc_items.specs.declared.calls.RpcEvent.{RpcEvent}
use Rattle.rpc_items.specs.declared.calls.RpcEvent.TheVariants as event
use Rattle.rpc_items.specs.declared.messages.Params.{Params}
use Rattle.rpc_items.specs.declared.messages.Message.{Message}
use Rattle.rpc_items.specs.declared.messages.Message.TheVariants.{Request, Notification}
use Rattle.rpc_items.specs.declared.messages.Message.TheVariants as message
use Rattle.rpc_items.specs.Keys.{same_bool, same_key, own_key, peer_key}
use Rattle.rpc_items.specs.declared.methods.Meaning.{Meaning}
use Rattle.rpc_items.specs.declared.methods.Meaning.TheVariants.{Serves, Cancels, Reports, Releases, Calls}
use Rattle.rpc_items.specs.Meanings.{meaning}
use Rattle.rpc_items.specs.Items.{RpcItem, Did, Got, Release, Invoke, ended}
use Rattle.rpc_items.specs.Made.{Made}
use Rattle.rpc_items.specs.Outcomes.{request_named}
use Rattle.rpc_items.specs.Reports.{has_progress}
use Rattle.rpc_items.specs.OwnHandles.{own_made, own_ended, own_live, ends_made, is_release, releases}
use Rattle.rpc_items.specs.Waiting.{is_waiting}
use Rattle.rpc_items.specs.PeerHandles.{Adopted, adopted, peer_ended, ends_adopted}
use Rattle.rpc_items.specs.Handles.{is_made, has_ended, is_live}
use Rattle.rpc_items.specs.Events.{object_target, reported_event, answered_event, handled_event, request_event, notification_event, event_of}
use Rattle.rpc_items.specs.Bodies.{Encoder}
use Rattle.rpc_items.specs.Refusals.{unless_ended, handle_refusal}
use Rattle.rpc_items.specs.Allowed.{IsAllowed, AreAllowed}
use Rattle.rpc_items.specs.Resting.{event_releases, is_released_by, is_target, event_calls, is_invoked_by, RestsAfterEnd, releases_of}

-- keys that are the same

same_bool_eq : (a b : Bool) → same_bool a b ≡ true → a ≡ b
same_bool_eq true b e = sym e
same_bool_eq false true e = absurd (cc e)
same_bool_eq false false e = refl

same_parts : (b : Bool) (x y : Bool) → (if b then same_bool x y else false) ≡ true → (b ≡ true) × (x ≡ y)
same_parts true x y e = (refl, same_bool_eq x y e)
same_parts false x y e = absurd (cc e)

pub same_key_eq : (a b : HandleKey) → same_key a b ≡ true → a ≡ b
same_key_eq a b e =
    let both = same_parts (a.number == b.number) a.own b.own e in
    ap₂ (λ n o. record { number = n; own = o }) ((Decides-eqb a.number b.number).0 both.0) both.1

pub same_key_self : (number : ℕ) (own : Bool) → same_key (record { number = number; own = own }) (record { number = number; own = own }) ≡ true
same_key_self number true = ap (λ b. if b then true else false) ((Decides-eqb number number).1 refl)
same_key_self number false = ap (λ b. if b then true else false) ((Decides-eqb number number).1 refl)

-- accepted calls

pub accepted : (e : Option Cause) (state said : Option Refusal) → unless_ended e (or_else state said) ≡ None → state ≡ None
accepted (Some why) state said e = absurd (cc e)
accepted None (Some r) said e = absurd (cc e)
accepted None None said e = refl

pub first_accepted : (one two : Option Refusal) → or_else one two ≡ None → one ≡ None
first_accepted (Some r) two e = absurd (cc e)
first_accepted None two e = refl

both_live : (m e : Bool) → (if not m then Some refusal.NoHandle else if e then Some refusal.Released else None) ≡ None → (m ≡ true) × (e ≡ false)
both_live true true e = absurd (cc e)
both_live true false e = (refl, refl)
both_live false b e = absurd (cc e)

pub accepted_live : (key : HandleKey) (items : List RpcItem) → handle_refusal key items ≡ None → (is_made key items ≡ true) × (has_ended key items ≡ false)
accepted_live key items e = both_live (is_made key items) (has_ended key items) e

not_ended : (b : Bool) → not b ≡ true → b ≡ false
not_ended true e = absurd (cc e)
not_ended false e = refl

live_parts : (key : HandleKey) (items : List RpcItem) → is_live key items ≡ true → (is_made key items ≡ true) × (has_ended key items ≡ false)
live_parts key items e =
    let both = and_parts (is_made key items) (not (has_ended key items)) e in
    (both.0, not_ended (has_ended key items) both.1)

-- events that release

neither : (b : Bool) (x y : RpcEvent) (key : HandleKey) → event_releases key x ≡ false → event_releases key y ≡ false → event_releases key (if b then x else y) ≡ true → ⊥
neither true x y key p q e = cc (p, e)
neither false x y key p q e = cc (q, e)

-- a message with this meaning releases a live own handle
abbrev pub Lets : HandleKey → Meaning → List RpcItem → Type 0
Lets key m items = (k : HandleKey) × (m ≡ Releases k) × (same_key k key ≡ true) × (k.own ≡ true) × (is_live k items ≡ true)

handled_lets : (key : HandleKey) (m : Meaning) (method : List ℕ) (items : List RpcItem) → event_releases key (handled_event m method items) ≡ true → Lets key m items
handled_lets key (Cancels id) method items e = absurd (neither (is_waiting id items) (event.Cancelled id) (event.Handled method) key refl refl e)
handled_lets key (Reports token value) method items e = absurd (by (request_named token items) e)
  where
    by : (n : Option ℕ) → event_releases key (reported_event n method items) ≡ true → ⊥
    by (Some n) e = neither (has_progress n items) (event.Reported n) (event.Handled method) key refl refl e
    by None e = cc e
handled_lets key (Releases k) method items e = by (k.own && is_live k items) refl e
  where
    by : (b : Bool) → (k.own && is_live k items) ≡ b → event_releases key (if b then event.Released k else event.Handled method) ≡ true → Lets key (Releases k) items
    by true both e = (let parts = and_parts k.own (is_live k items) both in (k, refl, e, parts.0, parts.1))
    by false both e = absurd (cc e)
handled_lets key m method items e = absurd (cc e)

request_lets : (key : HandleKey) (id : Id) (m : Meaning) (method : List ℕ) (params : Params) (items : List RpcItem) → event_releases key (request_event id m method params items) ≡ true → Lets key m items
request_lets key id Serves method params items e = absurd (cc e)
request_lets key id (Calls handle called) method params items e =
    absurd (neither (own_live handle items) (event.Asked id (object_target (own_made handle items) handle) called params) (event.Handled method) key refl refl e)
request_lets key id m method params items e = handled_lets key m method items e

notification_lets : (key : HandleKey) (m : Meaning) (method : List ℕ) (params : Params) (items : List RpcItem) → event_releases key (notification_event m method params items) ≡ true → Lets key m items
notification_lets key Serves method params items e = absurd (cc e)
notification_lets key m method params items e = handled_lets key m method items e

answered_lets_none : (key : HandleKey) (n : Option ℕ) → event_releases key (answered_event n) ≡ true → ⊥
answered_lets_none key (Some n) e = cc e
answered_lets_none key None e = cc e

-- the message releases the handle, which is own and lives
abbrev pub LetsGo : HandleKey → Message → List RpcItem → Type 0
LetsGo key message items = (releases key message ≡ true) × (key.own ≡ true) × (is_live key items ≡ true)

lets_go : (key : HandleKey) (message : Message) (m : Meaning) (items : List RpcItem) → releases key message ≡ is_release key m → Lets key m items → LetsGo key message items
lets_go key message m items r l =
    let same = same_key_eq l.0 key l.2 in
    (r ∙ (ap (is_release key) l.1 ∙ l.2), sym (ap (λ k. k.own) same) ∙ l.3, sym (ap (λ k. is_live k items) same) ∙ l.4)

pub message_lets : (key : HandleKey) (message : Message) (items : List RpcItem) → event_releases key (event_of message items) ≡ true → LetsGo key message items
message_lets key (Request id method params) items e = lets_go key (Request id method params) (meaning method params) items refl (request_lets key id (meaning method params) method params items e)
message_lets key (Notification method params) items e = lets_go key (Notification method params) (meaning method params) items refl (notification_lets key (meaning method params) method params items e)
message_lets key (message.Result id value) items e = absurd (answered_lets_none key (request_named id items) e)
message_lets key (message.Error (Some id) code text more) items e = absurd (answered_lets_none key (request_named id items) e)
message_lets key (message.Error None code text more) items e = absurd (cc e)

-- events that call an object

neither_calls : (b : Bool) (x y : RpcEvent) (key : HandleKey) → event_calls key x ≡ false → event_calls key y ≡ false → event_calls key (if b then x else y) ≡ true → ⊥
neither_calls true x y key p q e = cc (p, e)
neither_calls false x y key p q e = cc (q, e)

handled_calls_none : (key : HandleKey) (m : Meaning) (method : List ℕ) (items : List RpcItem) → event_calls key (handled_event m method items) ≡ true → ⊥
handled_calls_none key (Cancels id) method items e = neither_calls (is_waiting id items) (event.Cancelled id) (event.Handled method) key refl refl e
handled_calls_none key (Reports token value) method items e = by (request_named token items) e
  where
    by : (n : Option ℕ) → event_calls key (reported_event n method items) ≡ true → ⊥
    by (Some n) e = neither_calls (has_progress n items) (event.Reported n) (event.Handled method) key refl refl e
    by None e = cc e
handled_calls_none key (Releases k) method items e = neither_calls (k.own && is_live k items) (event.Released k) (event.Handled method) key refl refl e
handled_calls_none key m method items e = cc e

own_not_ended : (made : Bool) (gone : Bool) → made && not gone ≡ true → gone ≡ false
own_not_ended made gone e = not_ended gone (and_parts made (not gone) e).1

request_calls : (key : HandleKey) (id : Id) (m : Meaning) (method : List ℕ) (params : Params) (items : List RpcItem) → event_calls key (request_event id m method params items) ≡ true → has_ended key items ≡ false
request_calls key id Serves method params items e = absurd (cc e)
request_calls key id (Calls handle called) method params items e = by (own_live handle items) refl e
  where
    to : (made : Option Made) → own_live handle items ≡ true → is_target key (object_target made handle) ≡ true → has_ended key items ≡ false
    to (Some made) live e = ap (λ k. has_ended k items) (sym (same_key_eq (own_key handle) key e)) ∙ own_not_ended (is_some (own_made handle items)) (own_ended handle items) live
    to None live e = absurd (cc e)

    by : (b : Bool) → own_live handle items ≡ b → event_calls key (if b then event.Asked id (object_target (own_made handle items) handle) called params else event.Handled method) ≡ true → has_ended key items ≡ false
    by true live e = to (own_made handle items) live e
    by false live e = absurd (cc e)
request_calls key id m method params items e = absurd (handled_calls_none key m method items e)

notification_calls_none : (key : HandleKey) (m : Meaning) (method : List ℕ) (params : Params) (items : List RpcItem) → event_calls key (notification_event m method params items) ≡ true → ⊥
notification_calls_none key Serves method params items e = cc e
notification_calls_none key m method params items e = handled_calls_none key m method items e

answered_calls_none : (key : HandleKey) (n : Option ℕ) → event_calls key (answered_event n) ≡ true → ⊥
answered_calls_none key (Some n) e = cc e
answered_calls_none key None e = cc e

pub message_calls : (key : HandleKey) (message : Message) (items : List RpcItem) → event_calls key (event_of message items) ≡ true → has_ended key items ≡ false
message_calls key (Request id method params) items e = request_calls key id (meaning method params) method params items e
message_calls key (Notification method params) items e = absurd (notification_calls_none key (meaning method params) method params items e)
message_calls key (message.Result id value) items e = absurd (answered_calls_none key (request_named id items) e)
message_calls key (message.Error (Some id) code text more) items e = absurd (answered_calls_none key (request_named id items) e)
message_calls key (message.Error None code text more) items e = absurd (cc e)

-- what releases or calls a handle finds it live

pub released_live : (k : Encoder) (key : HandleKey) (item : RpcItem) (items : List RpcItem) → IsAllowed k item items → is_released_by key item items ≡ true → (is_made key items ≡ true) × (has_ended key items ≡ false)
released_live k key (Did (Release released)) items a e =
    let live = accepted_live released items (accepted (ended items) (handle_refusal released items) _ a) in
    let same = same_key_eq released key e in
    (sym (ap (λ k. is_made k items) same) ∙ live.0, sym (ap (λ k. has_ended k items) same) ∙ live.1)
released_live k key (Got place message) items a e = live_parts key items (message_lets key message items e).2
released_live k key item items a e = absurd (cc e)

pub invoked_live : (k : Encoder) (key : HandleKey) (item : RpcItem) (items : List RpcItem) → IsAllowed k item items → is_invoked_by key item items ≡ true → has_ended key items ≡ false
invoked_live k key (Did (Invoke handle method args expect)) items a e =
    let live = accepted_live (peer_key handle) items (first_accepted (handle_refusal (peer_key handle) items) _ (accepted (ended items) _ _ a)) in
    sym (ap (λ k. has_ended k items) (same_key_eq (peer_key handle) key e)) ∙ live.1
invoked_live k key (Got place message) items a e = message_calls key message items e
invoked_live k key item items a e = absurd (cc e)

no_use : (r i gone : Bool) → (r ≡ true → gone ≡ false) → (i ≡ true → gone ≡ false) → gone ≡ true → (r || i) ≡ false
no_use true i gone p q g = absurd (cc (p refl, g))
no_use false true gone p q g = absurd (cc (q refl, g))
no_use false false gone p q g = refl

pub rests : (k : Encoder) (key : HandleKey) (items : List RpcItem) → AreAllowed k items → RestsAfterEnd key items
rests k key [] a = tt
rests k key (item ∷ items) a =
    (no_use (is_released_by key item items) (is_invoked_by key item items) (has_ended key items) (λ r. (released_live k key item items a.0 r).1) (invoked_live k key item items a.0), rests k key items a.1)

-- a release ends the handle

own_release_ends : (number : ℕ) (made : Option Made) → is_some made ≡ true → ends_made number made (Did (Release (own_key number))) ≡ true
own_release_ends number (Some made) e = same_key_self number true
own_release_ends number None e = absurd (cc e)

peer_release_ends : (number : ℕ) (from : Option Adopted) → is_some from ≡ true → ends_adopted number from (Did (Release (peer_key number))) ≡ true
peer_release_ends number (Some from) e = same_key_self number false
peer_release_ends number None e = absurd (cc e)

or_right : (a b : Bool) → b ≡ true → (a || b) ≡ true
or_right true b e = refl
or_right false b e = e

or_left : (a b : Bool) → a ≡ true → (a || b) ≡ true
or_left true b e = refl
or_left false b e = absurd (cc e)

call_ends : (number : ℕ) (own : Bool) (items : List RpcItem) → is_made (record { number = number; own = own }) items ≡ true
    → has_ended (record { number = number; own = own }) (Did (Release (record { number = number; own = own })) ∷ items) ≡ true
call_ends number true items e = or_right (own_ended number items) _ (own_release_ends number (own_made number items) e)
call_ends number false items e = or_right (peer_ended number items) _ (peer_release_ends number (adopted number items) e)

told_ends : (number place : ℕ) (message : Message) (made : Option Made) → is_some made ≡ true → releases (own_key number) message ≡ true → ends_made number made (Got place message) ≡ true
told_ends number place message (Some made) e r = or_left (releases (own_key number) message) _ r
told_ends number place message None e r = absurd (cc e)

message_ends : (number place : ℕ) (own : Bool) (message : Message) (items : List RpcItem) → own ≡ true → is_made (record { number = number; own = own }) items ≡ true
    → releases (record { number = number; own = own }) message ≡ true → has_ended (record { number = number; own = own }) (Got place message ∷ items) ≡ true
message_ends number place true message items o e r = or_right (own_ended number items) _ (told_ends number place message (own_made number items) e r)
message_ends number place false message items o e r = absurd (cc o)

pub release_ends : (k : Encoder) (key : HandleKey) (item : RpcItem) (items : List RpcItem) → IsAllowed k item items → is_released_by key item items ≡ true → has_ended key (item ∷ items) ≡ true
release_ends k key (Did (Release released)) items a e =
    let live = accepted_live released items (accepted (ended items) (handle_refusal released items) _ a) in
    ap (λ l. has_ended l (Did (Release released) ∷ items)) (sym (same_key_eq released key e)) ∙ call_ends released.number released.own items live.0
release_ends k key (Got place message) items a e =
    let go = message_lets key message items e in
    message_ends key.number place key.own message items go.1 (live_parts key items go.2).0 go.0
release_ends k key item items a e = absurd (cc e)

ended_on : (number : ℕ) (own : Bool) (item : RpcItem) (items : List RpcItem) → has_ended (record { number = number; own = own }) items ≡ true → has_ended (record { number = number; own = own }) (item ∷ items) ≡ true
ended_on number true item items e = or_left (own_ended number items) _ e
ended_on number false item items e = or_left (peer_ended number items) _ e

abbrev one_if : Bool → ℕ
one_if b = if b then 1 else 0

one_if_le : (a b : Bool) → (a ≡ true → b ≡ true) → one_if a ≤ one_if b
one_if_le true b e = omega (arith, ap one_if (e refl))
one_if_le false b e = omega arith

counted : (k : Encoder) (key : HandleKey) (items : List RpcItem) → AreAllowed k items → releases_of key items ≤ one_if (has_ended key items)
counted k key [] a = omega arith
counted k key (item ∷ items) a = by (is_released_by key item items) refl (counted k key items a.1)
  where
    by : (b : Bool) → is_released_by key item items ≡ b → releases_of key items ≤ one_if (has_ended key items) → (if b then releases_of key items + 1 else releases_of key items) ≤ one_if (has_ended key (item ∷ items))
    by true e ih =
        let before : one_if (has_ended key items) ≡ 0 = ap one_if (released_live k key item items a.0 e).1 in
        let now : one_if (has_ended key (item ∷ items)) ≡ 1 = ap one_if (release_ends k key item items a.0 e) in
        omega (arith, ih, before, now)
    by false e ih = (let more = one_if_le (has_ended key items) (has_ended key (item ∷ items)) (ended_on key.number key.own item items) in omega (arith, ih, more))

one_if_bound : (b : Bool) → one_if b ≤ 1
one_if_bound true = omega arith
one_if_bound false = omega arith

pub released_once : (k : Encoder) (key : HandleKey) (items : List RpcItem) → AreAllowed k items → releases_of key items ≤ 1
released_once k key items a = omega (arith, counted k key items a, one_if_bound (has_ended key items))
