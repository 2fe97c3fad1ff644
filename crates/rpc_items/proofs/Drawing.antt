-- Numbers are drawn once, and calls say one message.
use Rattle.std.specs.Prelude.{if◌then◌else◌, not, Bool, true, false, codes, ◌⊎◌}
use Rattle.std.proofs.Common.{◌≡◌, ℕ, ◌+◌, ◌≤◌, List, [], ◌∷◌, length, refl, ◌∙◌, ap, inl, inr, arith, Option, Some, None, length-append}
use Rattle.wire_base.specs.declared.refusal.Refusal.TheVariants as refusal
use Rattle.wire_base.specs.declared.text.Id.{Id}
use Rattle.rpc_items.specs.declared.calls.Answer.{Answer}
use Rattle.rpc_items.specs.declared.calls.Answer.TheVariants as answer
use Rattle.rpc_items.specs.declared.messages.Message.{Message}
use Rattle.rpc_items.specs.declared.messages.Message.TheVariants.{Request, Notification}
use Rattle.rpc_items.specs.declared.messages.Message.TheVariants as message
use Rattle.rpc_items.specs.Ids.{same_id, numbered_id}
use Rattle.rpc_items.specs.declared.methods.Meaning.{Meaning}
use Rattle.rpc_items.specs.declared.methods.Meaning.TheVariants.{Serves, Turns, Calls}
use Rattle.rpc_items.specs.Meanings.{meaning}
use Rattle.rpc_items.specs.Items.{RpcItem, Did, Got, End, RpcCall, Ask, Tell, Respond, Cancel, Report, TakeReport, Next, Abort, Invoke, Release, Forget, ended}
use Rattle.rpc_items.specs.Drawn.{asked, asked_by, drawn}
use Rattle.rpc_items.specs.Produced.{Produced, produced_at}
use Rattle.rpc_items.specs.OwnHandles.{own_live}
use Rattle.rpc_items.specs.Producing.{page_count, sequence_named}
use Rattle.rpc_items.specs.Sequences.{is_turning, sequence_of}
use Rattle.rpc_items.specs.Automatic.{fault, nothing_there, page_by, turned, automatic}
use Rattle.rpc_items.specs.Saying.{said, response, with_token, turn_message, abort_message, all_said}
use Rattle.rpc_items.specs.Bodies.{Encoder}
use Rattle.rpc_items.specs.Refusals.{has_sequence, turn_refusal}
use Rattle.rpc_items.specs.Answered.{requests, SaysOne, IsDrawnOnce}
use Rattle.rpc_items.proofs.Answering.{requests-append}
use Rattle.rpc_items.proofs.Resting.{accepted, first_accepted}
use Rattle.rpc_items.proofs.Stable.{drawn_more}
use Rattle.rpc_items.proofs.SameIds.{same_id_eq, number_eq}

-- what an item says of this number: nothing, or one request with the number that it draws
abbrev pub Draws : ℕ → RpcItem → List RpcItem → Type 0
Draws n item items = (requests (numbered_id n) (said item items) ≡ 0)
    ⊎ ((requests (numbered_id n) (said item items) ≤ 1) × (drawn items + 1 ≡ n) × (drawn (item ∷ items) ≡ drawn items + 1))

one_drawn : (n k : ℕ) (b : Bool) → same_id (numbered_id k) (numbered_id n) ≡ b → ((if b then 0 + 1 else 0) ≡ 0) ⊎ (((if b then 0 + 1 else 0) ≤ 1) × (k ≡ n))
one_drawn n k true e = inr (omega arith, number_eq k n (same_id_eq (numbered_id k) (numbered_id n) e))
one_drawn n k false e = inl refl

draws_one : (n : ℕ) (item : RpcItem) (items : List RpcItem) → length (asked_by item) ≡ 1
    → requests (numbered_id n) (said item items) ≡ (if same_id (numbered_id (drawn items + 1)) (numbered_id n) then 0 + 1 else 0) → Draws n item items
draws_one n item items one is = elim (one_drawn n (drawn items + 1) (same_id (numbered_id (drawn items + 1)) (numbered_id n)) refl) [
  | inl h ↦ inl (is ∙ h)
  | inr h ↦ inr (omega (arith, is, h.0), h.1, omega (arith, length-append (asked items) (asked_by item), one))
]

turn_draws : (n m : ℕ) (items : List RpcItem) (token : Option Id) → sequence_of m items ≡ token → Draws n (Did (Next m)) items
turn_draws n m items (Some token) e = draws_one n (Did (Next m)) items refl (ap (λ t. requests (numbered_id n) (with_token t (λ token. turn_message (drawn items + 1) token))) e)
turn_draws n m items None e = inl (ap (λ t. requests (numbered_id n) (with_token t (λ token. turn_message (drawn items + 1) token))) e)

no_request : (n : ℕ) (id : Id) (m : Meaning) (items : List RpcItem) → requests (numbered_id n) (automatic id m items) ≡ 0
no_request n id Serves items = refl
no_request n id (Turns token) items = by (sequence_named token items)
  where
    to : (t : ℕ) (s : Option Produced) → requests (numbered_id n) (page_by id s (page_count t items)) ≡ 0
    to t (Some s) = refl
    to t None = refl

    by : (t : Option ℕ) → requests (numbered_id n) (turned id t items) ≡ 0
    by (Some t) = to t (produced_at t items)
    by None = refl
no_request n id (Calls handle method) items = by (own_live handle items)
  where
    by : (b : Bool) → requests (numbered_id n) (if b then [] else fault id nothing_there (codes "no object") ∷ []) ≡ 0
    by true = refl
    by false = refl
no_request n id m items = refl

no_response : (n : ℕ) (id : Id) (given : Answer) (items : List RpcItem) → requests (numbered_id n) (response id given items ∷ []) ≡ 0
no_response n id (answer.Value value) items = refl
no_response n id (answer.Object object) items = refl
no_response n id (answer.Sequence values page first) items = refl
no_response n id (answer.Fault code text more) items = refl

given_up : (n m : ℕ) (items : List RpcItem) (token : Option Id) → requests (numbered_id n) (with_token token abort_message) ≡ 0
given_up n m items (Some token) = refl
given_up n m items None = refl

draws : (n : ℕ) (item : RpcItem) (items : List RpcItem) → Draws n item items
draws n (Did (Ask method args expect)) items = draws_one n (Did (Ask method args expect)) items refl refl
draws n (Did (Invoke handle method args expect)) items = draws_one n (Did (Invoke handle method args expect)) items refl refl
draws n (Did (Next m)) items = turn_draws n m items (sequence_of m items) refl
draws n (Did (Tell method args)) items = inl refl
draws n (Did (Respond id given)) items = inl (no_response n id given items)
draws n (Did (Cancel m)) items = inl refl
draws n (Did (Report id token value)) items = inl refl
draws n (Did (TakeReport m)) items = inl refl
draws n (Did (Abort m)) items = inl (given_up n m items (sequence_of m items))
draws n (Did (Release key)) items = inl refl
draws n (Did (Forget m)) items = inl refl
draws n (Got place (Request id method params)) items = inl (no_request n id (meaning method params) items)
draws n (Got place (Notification method params)) items = inl refl
draws n (Got place (message.Result id value)) items = inl refl
draws n (Got place (message.Error id code text more)) items = inl refl
draws n (End why) items = inl refl

pub drawn_once : (n : ℕ) (items : List RpcItem) → IsDrawnOnce n items
drawn_once n [] = (omega arith, λ h. refl)
drawn_once n (item ∷ items) =
    let o = drawn_once n items in
    let sum = requests-append (numbered_id n) (all_said items) (said item items) in
    elim (draws n item items) [
      | inl none ↦ (
        omega (arith, sum, none, o.0),
        λ h. (let before = o.1 (omega (arith, h, drawn_more item items)) in omega (arith, sum, none, before)),
      )
      | inr one ↦ (let before = o.1 (omega (arith, one.1)) in (omega (arith, sum, one.0, before), λ h. absurd (omega (arith, h, one.1, one.2))))
    ]

-- what accepted calls say

has_token : (token : Option Id) (say : Id → Message) → has_sequence token ≡ true → length (with_token token say) ≡ 1
has_token (Some token) say e = refl
has_token None say e = absurd (cc e)

pub turn_accepted : (has turning : Bool) → (if not has then Some refusal.NoEnumerable else if turning then Some refusal.NextOutstanding else None) ≡ None → has ≡ true
turn_accepted true turning e = refl
turn_accepted false turning e = absurd (cc e)

pub says_one : (k : Encoder) (call : RpcCall) (items : List RpcItem) → SaysOne k call items
says_one k (TakeReport n) items = (λ e. absurd (cc e), λ e. refl)
says_one k (Forget n) items = (λ e. absurd (cc e), λ e. refl)
says_one k (Next n) items =
    (λ e a. has_token (sequence_of n items) (λ token. turn_message (drawn items + 1) token) (turn_accepted (has_sequence (sequence_of n items)) (is_turning n items) (first_accepted (turn_refusal n items) _ (accepted (ended items) _ _ a))), λ e. absurd (cc e))
says_one k (Abort n) items =
    (λ e a. has_token (sequence_of n items) abort_message (turn_accepted (has_sequence (sequence_of n items)) (is_turning n items) (accepted (ended items) (turn_refusal n items) _ a)), λ e. absurd (cc e))
says_one k call items = (λ e a. refl, λ e. absurd (cc e))
