-- What laws say of requests and their responses.
use Rattle.std.specs.Prelude.{◌≡◌, ◌<◌, ◌≤◌, ℕ, ◌+◌, List, [], ◌∷◌, length, true, false, if◌then◌else◌, Some, None}
use Rattle.wire_base.specs.declared.text.Id.{Id}
use Rattle.rpc_items.specs.declared.messages.Message.{Message}
use Rattle.rpc_items.specs.declared.messages.Message.TheVariants.{Request}
use Rattle.rpc_items.specs.declared.messages.Message.TheVariants as message
use Rattle.rpc_items.specs.Ids.{same_id, numbered_id}
use Rattle.rpc_items.specs.Items.{RpcCall, RpcItem, Did}
use Rattle.rpc_items.specs.Drawn.{drawn}
use Rattle.rpc_items.specs.Saying.{said, emits, all_said, all_got}
use Rattle.rpc_items.specs.Bodies.{Encoder}
use Rattle.rpc_items.specs.Refusals.{call_refusal}

-- the responses with this id
abbrev pub responses : Id → List Message → ℕ
responses id [] = 0
responses id (message.Result i value ∷ ms) = if same_id i id then responses id ms + 1 else responses id ms
responses id (message.Error (Some i) code text more ∷ ms) = if same_id i id then responses id ms + 1 else responses id ms
responses id (m ∷ ms) = responses id ms

-- the requests with this id
abbrev pub requests : Id → List Message → ℕ
requests id [] = 0
requests id (Request i method params ∷ ms) = if same_id i id then requests id ms + 1 else requests id ms
requests id (m ∷ ms) = requests id ms

-- each request that came is answered once at most
abbrev pub AnswersOnce : List RpcItem → Type 0
AnswersOnce items = (id : Id) → responses id (all_said items) ≤ requests id (all_got items)

-- one request with this number is said at most, and none before it is drawn
abbrev pub IsDrawnOnce : ℕ → List RpcItem → Type 0
IsDrawnOnce n items = (requests (numbered_id n) (all_said items) ≤ 1) × (drawn items < n → requests (numbered_id n) (all_said items) ≡ 0)

-- a call that says something says one message, and the others say none
abbrev pub SaysOne : Encoder → RpcCall → List RpcItem → Type 0
SaysOne k call items = (emits call ≡ true → call_refusal k call items ≡ None → length (said (Did call) items) ≡ 1) × (emits call ≡ false → said (Did call) items ≡ [])
