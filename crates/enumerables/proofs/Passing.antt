-- Items that leave what is kept of sequences as it is.
use Rattle.std.specs.Prelude.{Bool, true, false}
use Rattle.std.proofs.Common.{◌≡◌, ℕ, List, [], ◌∷◌, refl, subst, Option, None}
use Rattle.wire_base.specs.declared.text.Id.{Id}
use Rattle.rpc_items.specs.declared.calls.Outcome.{Outcome}
use Rattle.rpc_items.specs.declared.messages.Message.{Message}
use Rattle.rpc_items.specs.Events.{answered_event}
use Rattle.rpc_items.specs.Items.{RpcCall, RpcItem, Did, Got, Next, Abort}
use Rattle.rpc_items.specs.Outcomes.{answer_to, is_unanswered, request_named, response_in}
use Rattle.rpc_items.specs.Produced.{produced_by}
use Rattle.rpc_items.specs.Producing.{turns_page, aborts}
use Rattle.rpc_items.specs.Stable.{Settles}
use Rattle.rpc_items.proofs.Settling.{IsResponse, other, settled_response, too_late}
use Rattle.rpc_items.proofs.Undrawn.{call_same}
use Rattle.enumerables.specs.declared.followed.Followed.{Followed}
use Rattle.enumerables.specs.declared.sequence.Sequence.{Sequence}
use Rattle.enumerables.specs.Stands.{ConsumerStands, ProducerStands}
use Rattle.enumerables.proofs.Following.{IsApart}
use Rattle.enumerables.proofs.Keeping as keeping
use Rattle.enumerables.proofs.Standing.{untouched}
use Rattle.enumerables.proofs.Standing as standing
use Rattle.enumerables.proofs.Tokens.{names}

-- a call that draws no token
pub call_leaves_producer : (sequences : List Sequence) (call : RpcCall) (items : List RpcItem) → produced_by (Did call) ≡ [] → ProducerStands sequences items → ProducerStands sequences (Did call ∷ items)
call_leaves_producer sequences call items none s = standing.passed sequences (Did call) items none (λ token. untouched token (Did call) items none refl refl refl) s

-- a message that neither asks for a page of any token nor gives any up
pub message_leaves_producer : (sequences : List Sequence) (place : ℕ) (message : Message) (items : List RpcItem) → ((token : ℕ) → turns_page token (Got place message) ≡ false) → ((token : ℕ) → aborts token (Got place message) ≡ false) → ProducerStands sequences items → ProducerStands sequences (Got place message ∷ items)
message_leaves_producer sequences place message items turns gives s = standing.passed sequences (Got place message) items refl (λ token. untouched token (Got place message) items refl refl (turns token) (gives token)) s

-- a call that asks for a page, or gives a sequence up
abbrev pub is_page_call : RpcCall → Bool
is_page_call (Next n) = true
is_page_call (Abort n) = true
is_page_call call = false

call_apart : (call : RpcCall) (n : ℕ) (items : List RpcItem) → is_page_call call ≡ false → IsApart n (Did call) items
call_apart (Next m) n items e = absurd (cc e)
call_apart (Abort m) n items e = absurd (cc e)
call_apart call n items e = record { given = refl; turns = refl; answers = λ k. call_same k call items; running = refl }

pub call_leaves_consumer : (followed : List Followed) (call : RpcCall) (items : List RpcItem) → is_page_call call ≡ false → ConsumerStands followed items → ConsumerStands followed (Did call ∷ items)
call_leaves_consumer followed call items e s = keeping.passed followed (Did call) items (λ n. call_apart call n items e) s

-- a message that changes no answer
answers_leave : (followed : List Followed) (place : ℕ) (message : Message) (items : List RpcItem) → ((n : ℕ) → answer_to n (Got place message ∷ items) ≡ answer_to n items) → ConsumerStands followed items → ConsumerStands followed (Got place message ∷ items)
answers_leave followed place message items same s = keeping.passed followed (Got place message) items (λ n. record { given = refl; turns = refl; answers = same; running = refl }) s

-- a message that answers no unanswered request
pub message_leaves_consumer : (followed : List Followed) (place : ℕ) (message : Message) (items : List RpcItem) → ((n : ℕ) → is_unanswered n items ≡ true → response_in n message ≡ None) → ConsumerStands followed items → ConsumerStands followed (Got place message ∷ items)
message_leaves_consumer followed place message items none s = answers_leave followed place message items (λ n. by n (is_unanswered n items) refl) s
  where
    by : (n : ℕ) (b : Bool) → is_unanswered n items ≡ b → answer_to n (Got place message ∷ items) ≡ answer_to n items
    by n true e = other n place message items (none n e)
    by n false e = too_late n place message items e

-- a response whose id names no unanswered request
pub stray_leaves_consumer : (followed : List Followed) (place : ℕ) (id : Id) (o : Outcome) (message : Message) (items : List RpcItem) → IsResponse id o message → request_named id items ≡ None → ConsumerStands followed items → ConsumerStands followed (Got place message ∷ items)
stray_leaves_consumer followed place id o message items is none s =
    answers_leave followed place message items (subst (λ (r : Option ℕ). Settles place message items (answered_event r)) none (settled_response place id o message items is)) s
