-- A request is answered once at most.
use Rattle.std.specs.Prelude.{if◌then◌else◌, Bool, true, false, codes}
use Rattle.std.proofs.Common.{◌≡◌, ℕ, ◌+◌, ◌≤◌, List, [], ◌∷◌, ◌++◌, refl, sym, ◌∙◌, ap, arith, Option, Some, None}
use Rattle.wire_base.specs.declared.state.Cause.{Cause}
use Rattle.wire_base.specs.declared.reason.Reason.TheVariants as reason
use Rattle.wire_base.specs.declared.refusal.Refusal.{Refusal}
use Rattle.wire_base.specs.declared.refusal.Refusal.TheVariants as refusal
use Rattle.wire_base.specs.declared.text.Id.{Id}
use Rattle.wire_base.specs.Options.{or_else}
use Rattle.rpc_items.specs.declared.calls.Answer.{Answer}
use Rattle.rpc_items.specs.declared.calls.Answer.TheVariants as answer
use Rattle.rpc_items.specs.declared.messages.Params.{Params}
use Rattle.rpc_items.specs.declared.messages.Message.{Message}
use Rattle.rpc_items.specs.declared.messages.Message.TheVariants.{Request, Notification}
use Rattle.rpc_items.specs.declared.messages.Message.TheVariants as message
use Rattle.rpc_items.specs.Ids.{same_id}
use Rattle.rpc_items.specs.declared.methods.Meaning.{Meaning}
use Rattle.rpc_items.specs.declared.methods.Meaning.TheVariants.{Serves, Turns, Calls, Mistakes, Unknown}
use Rattle.rpc_items.specs.Meanings.{meaning}
use Rattle.rpc_items.specs.Items.{RpcItem, Did, Got, End, Ask, Tell, Respond, Cancel, Report, TakeReport, Next, Abort, Invoke, Release, Forget, ended}
use Rattle.rpc_items.specs.Produced.{Produced, produced_at}
use Rattle.rpc_items.specs.OwnHandles.{own_live}
use Rattle.rpc_items.specs.Waiting.{asks, is_waiting}
use Rattle.rpc_items.specs.Producing.{page_count, sequence_named}
use Rattle.rpc_items.specs.Sequences.{sequence_of}
use Rattle.rpc_items.specs.Automatic.{fault, nothing_there, bad_arguments, no_method, done, page_message, page_by, turned, automatic}
use Rattle.rpc_items.specs.Saying.{said, response, with_token, all_said, all_got}
use Rattle.rpc_items.specs.Bodies.{Encoder}
use Rattle.rpc_items.specs.Refusals.{unless_ended}
use Rattle.rpc_items.specs.Allowed.{AreAllowed}
use Rattle.rpc_items.specs.Answered.{responses, requests, AnswersOnce}
use Rattle.rpc_items.proofs.SameIds.{same_id_eq}

-- one message, whether it is a response or a request with this id

abbrev one_if : Bool → ℕ
one_if b = if b then 1 else 0

abbrev responds : Id → Message → Bool
responds id (message.Result i value) = same_id i id
responds id (message.Error (Some i) code text more) = same_id i id
responds id m = false

abbrev requires : Id → Message → Bool
requires id (Request i method params) = same_id i id
requires id m = false

add_one : (b : Bool) (n : ℕ) → (if b then n + 1 else n) ≡ one_if b + n
add_one true n = omega arith
add_one false n = omega arith

responses-cons : (id : Id) (m : Message) (ms : List Message) → responses id (m ∷ ms) ≡ one_if (responds id m) + responses id ms
responses-cons id (message.Result i value) ms = add_one (same_id i id) (responses id ms)
responses-cons id (message.Error (Some i) code text more) ms = add_one (same_id i id) (responses id ms)
responses-cons id m ms = omega arith

requests-cons : (id : Id) (m : Message) (ms : List Message) → requests id (m ∷ ms) ≡ one_if (requires id m) + requests id ms
requests-cons id (Request i method params) ms = add_one (same_id i id) (requests id ms)
requests-cons id m ms = omega arith

pub responses-append : (id : Id) (ms ns : List Message) → responses id (ms ++ ns) ≡ responses id ms + responses id ns
responses-append id [] ns = omega arith
responses-append id (m ∷ ms) ns = omega (arith, responses-cons id m (ms ++ ns), responses-cons id m ms, responses-append id ms ns)

pub requests-append : (id : Id) (ms ns : List Message) → requests id (ms ++ ns) ≡ requests id ms + requests id ns
requests-append id [] ns = omega arith
requests-append id (m ∷ ms) ns = omega (arith, requests-cons id m (ms ++ ns), requests-cons id m ms, requests-append id ms ns)

-- a request that waits isn't answered yet
abbrev pub Owed : Id → List RpcItem → Type 0
Owed id items = responses id (all_said items) + one_if (is_waiting id items) ≤ requests id (all_got items)

silent : (id : Id) (items : List RpcItem) (more : List Message) → responses id more ≡ 0 → Owed id items → responses id (all_said items ++ more) + one_if (is_waiting id items) ≤ requests id (all_got items)
silent id items more e o = omega (arith, responses-append id (all_said items) more, e, o)

with_token_silent : (id : Id) (token : Option Id) (say : Id → Message) → ((t : Id) → responses id (say t ∷ []) ≡ 0) → responses id (with_token token say) ≡ 0
with_token_silent id (Some t) say e = e t
with_token_silent id None say e = refl

-- an accepted answer

respond_waits : (e : Option Cause) (b : Bool) (x y : Option Refusal) → unless_ended e (or_else (if b then x else Some refusal.NoRequest) y) ≡ None → b ≡ true
respond_waits (Some why) b x y h = absurd (cc h)
respond_waits None true x y h = refl
respond_waits None false x y h = absurd (cc h)

responds_once : (id i : Id) (given : Answer) (items : List RpcItem) → responses id (response i given items ∷ []) ≡ one_if (same_id i id)
responds_once id i (answer.Value value) items = refl
responds_once id i (answer.Object object) items = refl
responds_once id i (answer.Sequence values page first) items = refl
responds_once id i (answer.Fault code text more) items = refl

respond_owed : (id i : Id) (given : Answer) (items : List RpcItem) → is_waiting i items ≡ true → Owed id items
    → responses id (all_said items ++ (response i given items ∷ [])) + one_if (if same_id i id then false else is_waiting id items) ≤ requests id (all_got items)
respond_owed id i given items w o = by (same_id i id) refl
  where
    by : (b : Bool) → same_id i id ≡ b → responses id (all_said items ++ (response i given items ∷ [])) + one_if (if b then false else is_waiting id items) ≤ requests id (all_got items)
    by true h =
        let waits : one_if (is_waiting id items) ≡ 1 = ap one_if (ap (λ k. is_waiting k items) (sym (same_id_eq i id h)) ∙ w) in
        omega (arith, responses-append id (all_said items) (response i given items ∷ []), responds_once id i given items, ap one_if h, waits, o)
    by false h = omega (arith, responses-append id (all_said items) (response i given items ∷ []), responds_once id i given items, ap one_if h, o)

-- answers that the connection gives by itself: one, unless the service is asked

waiting_refused : (b : Bool) → (if b then Some reason.DuplicateRequest else None) ≡ None → b ≡ false
waiting_refused true e = absurd (cc e)
waiting_refused false e = refl

-- what is said of one request, and whether it waits on
abbrev pub AtMostOne : Id → Id → List Message → (waits : Bool) → Type 0
AtMostOne id i ms waits = ((same_id i id ≡ false) → responses id ms ≡ 0) × (responses id ms + one_if waits ≤ 1)

one_message : (id i : Id) (m : Message) → responses id (m ∷ []) ≡ one_if (same_id i id) → AtMostOne id i (m ∷ []) false
one_message id i m e = (λ f. e ∙ ap one_if f, (let b = bound (same_id i id) in omega (arith, e, b)))
  where
    bound : (b : Bool) → one_if b ≤ 1
    bound true = omega arith
    bound false = omega arith

none_said : (id i : Id) (waits : Bool) → AtMostOne id i [] waits
none_said id i true = (λ f. refl, omega arith)
none_said id i false = (λ f. refl, omega arith)

turned_once : (id i : Id) (token : Option ℕ) (items : List RpcItem) → AtMostOne id i (turned i token items) false
turned_once id i (Some token) items = by (produced_at token items)
  where
    by : (s : Option Produced) → AtMostOne id i (page_by i s (page_count token items)) false
    by (Some s) = one_message id i (page_message i s (page_count token items)) refl
    by None = none_said id i false
turned_once id i None items = one_message id i (fault i nothing_there (codes "no sequence")) refl

automatic_once : (id i : Id) (m : Meaning) (items : List RpcItem) → AtMostOne id i (automatic i m items) (asks m items)
automatic_once id i Serves items = none_said id i true
automatic_once id i (Turns token) items = turned_once id i (sequence_named token items) items
automatic_once id i (Calls handle method) items = by (own_live handle items)
  where
    by : (b : Bool) → AtMostOne id i (if b then [] else fault i nothing_there (codes "no object") ∷ []) b
    by true = none_said id i true
    by false = one_message id i (fault i nothing_there (codes "no object")) refl
automatic_once id i Mistakes items = one_message id i (fault i bad_arguments (codes "bad arguments")) refl
automatic_once id i Unknown items = one_message id i (fault i no_method (codes "no method")) refl
automatic_once id i m items = one_message id i (done i) refl

request_owed : (id i : Id) (place : ℕ) (method : List ℕ) (params : Params) (items : List RpcItem) → is_waiting i items ≡ false → Owed id items → Owed id (Got place (Request i method params) ∷ items)
request_owed id i place method params items w o = by (same_id i id) refl
  where
    by : (b : Bool) → same_id i id ≡ b → responses id (all_said items ++ automatic i (meaning method params) items) + one_if (if b then asks (meaning method params) items else is_waiting id items) ≤ requests id (all_got items ++ (Request i method params ∷ []))
    by true h =
        let once = (automatic_once id i (meaning method params) items).1 in
        let before : one_if (is_waiting id items) ≡ 0 = ap one_if (ap (λ k. is_waiting k items) (sym (same_id_eq i id h)) ∙ w) in
        let got : requests id (Request i method params ∷ []) ≡ 1 = ap (λ b. if b then 0 + 1 else 0) h in
        omega (arith, responses-append id (all_said items) (automatic i (meaning method params) items), requests-append id (all_got items) (Request i method params ∷ []), once, before, got, o)
    by false h =
        let none = (automatic_once id i (meaning method params) items).0 h in
        omega (arith, responses-append id (all_said items) (automatic i (meaning method params) items), requests-append id (all_got items) (Request i method params ∷ []), none, o)

got_owed : (id : Id) (m : Message) (items : List RpcItem) → Owed id items → responses id (all_said items ++ []) + one_if (is_waiting id items) ≤ requests id (all_got items ++ (m ∷ []))
got_owed id m items o = omega (arith, responses-append id (all_said items) [], requests-append id (all_got items) (m ∷ []), o)

pub owed : (k : Encoder) (id : Id) (items : List RpcItem) → AreAllowed k items → Owed id items
owed k id [] a = omega arith
owed k id (Did (Ask method args expect) ∷ items) a = silent id items (said (Did (Ask method args expect)) items) refl (owed k id items a.1)
owed k id (Did (Tell method args) ∷ items) a = silent id items (said (Did (Tell method args)) items) refl (owed k id items a.1)
owed k id (Did (Respond i given) ∷ items) a = respond_owed id i given items (respond_waits (ended items) (is_waiting i items) _ _ a.0) (owed k id items a.1)
owed k id (Did (Cancel n) ∷ items) a = silent id items (said (Did (Cancel n)) items) refl (owed k id items a.1)
owed k id (Did (Report i token value) ∷ items) a = silent id items (said (Did (Report i token value)) items) refl (owed k id items a.1)
owed k id (Did (TakeReport n) ∷ items) a = silent id items [] refl (owed k id items a.1)
owed k id (Did (Next n) ∷ items) a = silent id items (said (Did (Next n)) items) (with_token_silent id (sequence_of n items) _ (λ t. refl)) (owed k id items a.1)
owed k id (Did (Abort n) ∷ items) a = silent id items (said (Did (Abort n)) items) (with_token_silent id (sequence_of n items) _ (λ t. refl)) (owed k id items a.1)
owed k id (Did (Invoke handle method args expect) ∷ items) a = silent id items (said (Did (Invoke handle method args expect)) items) refl (owed k id items a.1)
owed k id (Did (Release key) ∷ items) a = silent id items (said (Did (Release key)) items) refl (owed k id items a.1)
owed k id (Did (Forget n) ∷ items) a = silent id items [] refl (owed k id items a.1)
owed k id (Got place (Request i method params) ∷ items) a = request_owed id i place method params items (waiting_refused (is_waiting i items) a.0.1) (owed k id items a.1)
owed k id (Got place (Notification method params) ∷ items) a = got_owed id (Notification method params) items (owed k id items a.1)
owed k id (Got place (message.Result i value) ∷ items) a = got_owed id (message.Result i value) items (owed k id items a.1)
owed k id (Got place (message.Error i code text more) ∷ items) a = got_owed id (message.Error i code text more) items (owed k id items a.1)
owed k id (End why ∷ items) a = silent id items [] refl (owed k id items a.1)

pub answers_once : (k : Encoder) (items : List RpcItem) → AreAllowed k items → AnswersOnce items
answers_once k items a = λ id. omega (arith, owed k id items a)
