-- A first response settles its request, and only that.
use Rattle.std.specs.Prelude.{if◌then◌else◌, ◌&&◌, ◌⊎◌, Bool, true, false, is_none, pos, negsuc}
use Rattle.std.proofs.Common.{◌≡◌, ◌≢◌, ℕ, List, ◌∷◌, refl, sym, ◌∙◌, ap, inl, inr, Option, Some, None}
use Rattle.wire_base.specs.declared.text.Id.{Id}
use Rattle.wire_base.specs.declared.text.Id.TheVariants.{Number, Name}
use Rattle.wire_base.specs.Options.{or_else}
use Rattle.rpc_items.specs.declared.calls.Outcome.{Outcome}
use Rattle.rpc_items.specs.declared.calls.Outcome.TheVariants.{Replied, Failed}
use Rattle.rpc_items.specs.declared.calls.RpcEvent.{RpcEvent}
use Rattle.rpc_items.specs.declared.calls.RpcEvent.TheVariants as event
use Rattle.rpc_items.specs.declared.messages.Params.{Params}
use Rattle.rpc_items.specs.declared.messages.Message.{Message}
use Rattle.rpc_items.specs.declared.messages.Message.TheVariants.{Request, Notification}
use Rattle.rpc_items.specs.declared.messages.Message.TheVariants as message
use Rattle.rpc_items.specs.Ids.{same_id, numbered_id}
use Rattle.rpc_items.specs.declared.methods.Meaning.{Meaning}
use Rattle.rpc_items.specs.declared.methods.Meaning.TheVariants.{Serves, Cancels, Reports, Releases, Calls}
use Rattle.rpc_items.specs.Meanings.{meaning}
use Rattle.rpc_items.specs.Items.{RpcItem, Got, is_running}
use Rattle.rpc_items.specs.Drawn.{is_drawn}
use Rattle.rpc_items.specs.Outcomes.{response_in, answer_to, is_unanswered, request_named}
use Rattle.rpc_items.specs.Reports.{has_progress}
use Rattle.rpc_items.specs.OwnHandles.{own_live, own_made}
use Rattle.rpc_items.specs.Waiting.{is_waiting}
use Rattle.rpc_items.specs.Handles.{is_live}
use Rattle.rpc_items.specs.Events.{object_target, reported_event, answered_event, handled_event, request_event, notification_event, event_of}
use Rattle.rpc_items.specs.Stable.{Settles}
use Rattle.rpc_items.proofs.SameIds.{same_id_eq}

-- a message that is no response to m changes nothing for m

pub same : (c : Bool) (a : Option Outcome) → (if c then or_else a None else a) ≡ a
same true (Some o) = refl
same true None = refl
same false a = refl

pub other : (m place : ℕ) (message : Message) (items : List RpcItem) → response_in m message ≡ None → answer_to m (Got place message ∷ items) ≡ answer_to m items
other m place message items e =
    ap (λ r. if is_running items && is_drawn m items then or_else (answer_to m items) r else answer_to m items) e ∙ same (is_running items && is_drawn m items) (answer_to m items)

-- nor does a response to a request that isn't unanswered

pub late : (r d : Bool) (a : Option Outcome) (o : Option Outcome) → (r && d && is_none a) ≡ false → (if r && d then or_else a o else a) ≡ a
late true true (Some x) o e = refl
late true true None o e = absurd (cc e)
late true false a o e = refl
late false d a o e = refl

pub too_late : (m place : ℕ) (message : Message) (items : List RpcItem) → is_unanswered m items ≡ false → answer_to m (Got place message ∷ items) ≡ answer_to m items
too_late m place message items e = late (is_running items) (is_drawn m items) (answer_to m items) (response_in m message) e

-- the first one is the answer

pub first : (r d : Bool) (a : Option Outcome) (o : Option Outcome) → (r && d && is_none a) ≡ true → (a ≡ None) × ((if r && d then or_else a o else a) ≡ o)
first true true None o e = (refl, refl)
first true true (Some x) o e = absurd (cc e)
first true false a o e = absurd (cc e)
first false d a o e = absurd (cc e)

-- an id names the number that it is

if_none : {A : Type 0} (b : Bool) (x : A) → b ≡ false → (if b then Some x else None) ≡ None
if_none true x e = absurd (cc e)
if_none false x e = refl

unnamed : (b : Bool) (n : ℕ) → (if b then Some n else None) ≡ None → b ≡ false
unnamed true n e = absurd (cc e)
unnamed false n e = refl

named : (b : Bool) (k n : ℕ) → (if b then Some k else None) ≡ Some n → (b ≡ true) × (k ≡ n)
named true k n e = (refl, cc e)
named false k n e = absurd (cc e)

pub named_parts : (id : Id) (items : List RpcItem) (n : ℕ) → request_named id items ≡ Some n → (is_unanswered n items ≡ true) × (id ≡ numbered_id n)
named_parts (Number (pos k)) items n e =
    let parts = named (is_unanswered k items) k n e in
    (ap (λ j. is_unanswered j items) (sym parts.1) ∙ parts.0, ap numbered_id parts.1)
named_parts (Number (negsuc k)) items n e = absurd (cc e)
named_parts (Name s) items n e = absurd (cc e)

-- a response is one to m, or isn't
by_id : (id : Id) (m : ℕ) (items : List RpcItem) (b : Bool) → same_id id (numbered_id m) ≡ b → request_named id items ≡ None → (b ≡ false) ⊎ (is_unanswered m items ≡ false)
by_id id m items false e n = inl refl
by_id id m items true e n = inr (unnamed (is_unanswered m items) m (ap (λ i. request_named i items) (sym (same_id_eq id (numbered_id m) e)) ∙ n))

apart : (m n : ℕ) → m ≢ n → (b : Bool) → same_id (numbered_id n) (numbered_id m) ≡ b → b ≡ false
apart m n d true e = absurd (d (cc (same_id_eq (numbered_id n) (numbered_id m) e)))
apart m n d false e = refl

-- a result or an error with this id, whose content is this

abbrev pub IsResponse : Id → Outcome → Message → Type 0
IsResponse id o message = (m : ℕ) → response_in m message ≡ (if same_id id (numbered_id m) then Some o else None)

pub settled_response : (place : ℕ) (id : Id) (o : Outcome) (message : Message) (items : List RpcItem) → IsResponse id o message → Settles place message items (answered_event (request_named id items))
settled_response place id o message items is = by (request_named id items) refl
  where
    by : (n : Option ℕ) → request_named id items ≡ n → Settles place message items (answered_event n)
    by (Some n) e =
        let parts = named_parts id items n e in
        let one = first (is_running items) (is_drawn n items) (answer_to n items) (response_in n message) parts.0 in
        (one.0, one.1, λ m d. other m place message items (is m ∙ (ap (λ i. if same_id i (numbered_id m) then Some o else None) parts.1 ∙ if_none (same_id (numbered_id n) (numbered_id m)) o (apart m n d (same_id (numbered_id n) (numbered_id m)) refl))))
    by None e = λ m. elim (by_id id m items (same_id id (numbered_id m)) refl e) [
      | inl f ↦ other m place message items (is m ∙ if_none (same_id id (numbered_id m)) o f)
      | inr f ↦ too_late m place message items f
    ]

-- other messages give no event Answered

abbrev pub Same : ℕ → Message → List RpcItem → Type 0
Same place message items = (m : ℕ) → answer_to m (Got place message ∷ items) ≡ answer_to m items

if_settles : (place : ℕ) (message : Message) (items : List RpcItem) (b : Bool) (x y : RpcEvent) → Settles place message items x → Settles place message items y → Settles place message items (if b then x else y)
if_settles place message items true x y p q = p
if_settles place message items false x y p q = q

handled_settles : (place : ℕ) (message : Message) (items : List RpcItem) (m : Meaning) (method : List ℕ) → Same place message items → Settles place message items (handled_event m method items)
handled_settles place message items (Cancels id) method s = if_settles place message items (is_waiting id items) (event.Cancelled id) (event.Handled method) s s
handled_settles place message items (Reports token value) method s = by (request_named token items)
  where
    by : (n : Option ℕ) → Settles place message items (reported_event n method items)
    by (Some n) = if_settles place message items (has_progress n items) (event.Reported n) (event.Handled method) s s
    by None = s
handled_settles place message items (Releases key) method s = if_settles place message items (key.own && is_live key items) (event.Released key) (event.Handled method) s s
handled_settles place message items m method s = s

request_settles : (place : ℕ) (message : Message) (items : List RpcItem) (id : Id) (m : Meaning) (method : List ℕ) (params : Params) → Same place message items → Settles place message items (request_event id m method params items)
request_settles place message items id Serves method params s = s
request_settles place message items id (Calls handle called) method params s =
    if_settles place message items (own_live handle items) (event.Asked id (object_target (own_made handle items) handle) called params) (event.Handled method) s s
request_settles place message items id m method params s = handled_settles place message items m method s

notification_settles : (place : ℕ) (message : Message) (items : List RpcItem) (m : Meaning) (method : List ℕ) (params : Params) → Same place message items → Settles place message items (notification_event m method params items)
notification_settles place message items Serves method params s = s
notification_settles place message items m method params s = handled_settles place message items m method s

pub settles : (place : ℕ) (message : Message) (items : List RpcItem) → Settles place message items (event_of message items)
settles place (Request id method params) items = request_settles place (Request id method params) items id (meaning method params) method params (λ m. other m place (Request id method params) items refl)
settles place (Notification method params) items = notification_settles place (Notification method params) items (meaning method params) method params (λ m. other m place (Notification method params) items refl)
settles place (message.Result id value) items = settled_response place id (Replied value) (message.Result id value) items (λ m. refl)
settles place (message.Error (Some id) code text more) items = settled_response place id (Failed code text more) (message.Error (Some id) code text more) items (λ m. refl)
settles place (message.Error None code text more) items = λ m. other m place (message.Error None code text more) items refl
